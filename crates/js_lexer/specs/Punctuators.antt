-- Punctuators (ECMA-262 5.1, 7.7): each is a spelling of this table, and the longest that fits is read.
use Rattle.std.specs.Prelude.{ℕ, Bool, List, [], ◌∷◌, ◌++◌, Option, Some, None, bytes_eq, codes, find}
use Rattle.grammar.specs.Grammar.{done, again}
use Rattle.grammar.specs.Reading.{is_some}
use Rattle.grammar.specs.Words.{◌>>=◌, one}
use Rattle.placed_chars.specs.declared.chars.Char.{Char}
use Rattle.js_lexer.specs.declared.token.Kind.TheVariants as k
use Rattle.js_lexer.specs.declared.token.Punct.{Punct}
use Rattle.js_lexer.specs.declared.token.Punct.TheVariants as p
use Rattle.js_lexer.specs.declared.lexer.Lexeme.{Lexeme}
use Rattle.js_lexer.specs.Chars.{R, of}
use Rattle.js_lexer.specs.Elements.{lexeme}

abbrev pub spelling : Punct → List ℕ
spelling p.LeftBrace = codes "{"
spelling p.RightBrace = codes "}"
spelling p.LeftParen = codes "("
spelling p.RightParen = codes ")"
spelling p.LeftBracket = codes "["
spelling p.RightBracket = codes "]"
spelling p.Dot = codes "."
spelling p.Semicolon = codes ";"
spelling p.Comma = codes ","
spelling p.Less = codes "<"
spelling p.Greater = codes ">"
spelling p.LessEqual = codes "<="
spelling p.GreaterEqual = codes ">="
spelling p.Equal = codes "=="
spelling p.NotEqual = codes "!="
spelling p.StrictEqual = codes "==="
spelling p.StrictNotEqual = codes "!=="
spelling p.Plus = codes "+"
spelling p.Minus = codes "-"
spelling p.Star = codes "*"
spelling p.Slash = codes "/"
spelling p.Percent = codes "%"
spelling p.Increment = codes "++"
spelling p.Decrement = codes "--"
spelling p.ShiftLeft = codes "<<"
spelling p.ShiftRight = codes ">>"
spelling p.ShiftRightZero = codes ">>>"
spelling p.BitAnd = codes "&"
spelling p.BitOr = codes "|"
spelling p.BitXor = codes "^"
spelling p.Not = codes "!"
spelling p.BitNot = codes "~"
spelling p.And = codes "&&"
spelling p.Or = codes "||"
spelling p.Question = codes "?"
spelling p.Colon = codes ":"
spelling p.Assign = codes "="
spelling p.PlusAssign = codes "+="
spelling p.MinusAssign = codes "-="
spelling p.StarAssign = codes "*="
spelling p.PercentAssign = codes "%="
spelling p.SlashAssign = codes "/="
spelling p.ShiftLeftAssign = codes "<<="
spelling p.ShiftRightAssign = codes ">>="
spelling p.ShiftRightZeroAssign = codes ">>>="
spelling p.BitAndAssign = codes "&="
spelling p.BitOrAssign = codes "|="
spelling p.BitXorAssign = codes "^="

abbrev pub punctuators : List Punct
punctuators =
    p.LeftBrace ∷ p.RightBrace ∷ p.LeftParen ∷ p.RightParen ∷ p.LeftBracket ∷ p.RightBracket ∷
    p.Dot ∷ p.Semicolon ∷ p.Comma ∷ p.Less ∷ p.Greater ∷ p.LessEqual ∷ p.GreaterEqual ∷
    p.Equal ∷ p.NotEqual ∷ p.StrictEqual ∷ p.StrictNotEqual ∷ p.Plus ∷ p.Minus ∷ p.Star ∷
    p.Slash ∷ p.Percent ∷ p.Increment ∷ p.Decrement ∷ p.ShiftLeft ∷ p.ShiftRight ∷
    p.ShiftRightZero ∷ p.BitAnd ∷ p.BitOr ∷ p.BitXor ∷ p.Not ∷ p.BitNot ∷ p.And ∷ p.Or ∷
    p.Question ∷ p.Colon ∷ p.Assign ∷ p.PlusAssign ∷ p.MinusAssign ∷ p.StarAssign ∷
    p.PercentAssign ∷ p.SlashAssign ∷ p.ShiftLeftAssign ∷ p.ShiftRightAssign ∷
    p.ShiftRightZeroAssign ∷ p.BitAndAssign ∷ p.BitOrAssign ∷ p.BitXorAssign ∷ []

-- the punctuator that is spelled so
unfoldable pub punct_of : List ℕ → Option Punct
punct_of units = find (λ p. bytes_eq units (spelling p)) punctuators

-- what this character behind a punctuator makes of it
abbrev pub longer : Punct → ℕ → Option Punct
longer p c = punct_of (spelling p ++ c ∷ [])

-- a punctuator so far, and the byte behind it
pub record Mark : Type 0 where
  pub punct : Punct
  pub past : ℕ

abbrev pub mark : Punct → ℕ → Mark
mark punct past = record { punct = punct; past = past }

abbrev pub mark_goes : Mark → Char → Bool
mark_goes m t = of (λ c. is_some (longer m.punct c)) t

abbrev pub either : Punct → Option Punct → Punct
either p None = p
either p (Some q) = q

abbrev pub more_mark : Mark → R Mark
more_mark m = do
  t ← one (mark_goes m)
  done (mark (either m.punct (longer m.punct t.code)) t.past)

-- behind its first character, as long as there is a longer one
unfoldable pub longest : Punct → ℕ → ℕ → R Lexeme
longest punct at past = do
  m ← again mark_goes more_mark (mark punct past)
  done (lexeme (k.Punct m.punct) at m.past)
