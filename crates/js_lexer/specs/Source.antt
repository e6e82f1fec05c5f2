-- A script's input elements, one behind the other to its end (ECMA-262 5.1, section 7).
use Prim.Native.Char.{code}
use Rattle.std.specs.Prelude.{ℕ, Bool, true, false, not, ◌||◌, cond, List, [], ◌∷◌, ◌++◌, Option, Some, None}
use Rattle.grammar.specs.Grammar.{done, or, again}
use Rattle.grammar.specs.Reading.{is_some}
use Rattle.grammar.specs.Words.{◌>>=◌, ◌>>◌, one, other, must, refuse, choice, barred}
use Rattle.placed_chars.specs.declared.chars.Char.{Char}
use Rattle.placed_chars.specs.Chars.{is_end}
use Rattle.js_lexer.specs.declared.fault.LexFault.TheVariants.{BadChar, LeftOut}
use Rattle.js_lexer.specs.declared.token.Kind.TheVariants as k
use Rattle.js_lexer.specs.declared.token.Punct.{Punct}
use Rattle.js_lexer.specs.declared.token.Punct.TheVariants as p
use Rattle.js_lexer.specs.declared.token.Token.{Token}
use Rattle.js_lexer.specs.declared.lexer.Lexeme.{Lexeme}
use Rattle.js_lexer.specs.declared.lexer.Element.{Element}
use Rattle.js_lexer.specs.declared.lexer.Element.TheVariants as e
use Rattle.js_lexer.specs.Chars.{R, of, is, is_white, is_terminator, starts_name, is_digit, is_quote}
use Rattle.js_lexer.specs.Elements.{lexeme}
use Rattle.js_lexer.specs.Blanks.{line_comment, block_comment}
use Rattle.js_lexer.specs.Names.{name, escaped_name}
use Rattle.js_lexer.specs.Numbers.{number}
use Rattle.js_lexer.specs.Texts.{text}
use Rattle.js_lexer.specs.Punctuators.{punct_of, longest}

-- ---- input elements

abbrev pub as_token : R Lexeme → R Element
as_token a = a >>= (λ lexeme. done (e.Lexeme lexeme))

-- behind a `/`: a comment where another or a `*` follows, and else a punctuator
abbrev pub slash : Char → R Element
slash t =
    choice (of (is (code "/"))) (line_comment >> done e.White)
    (choice (of (is (code "*"))) (block_comment t.at)
    (as_token (longest p.Slash t.at t.past)))

-- A `.` before a digit would begin a number with a point, which is left out.
abbrev pub dot : Char → R Lexeme
dot t = barred (λ n. cond (of is_digit n) (Some (LeftOut t.at)) None) >> done (lexeme (k.Punct p.Dot) t.at t.past)

abbrev pub punctuator : Char → Option Punct → R Lexeme
punctuator t None = refuse (λ _. BadChar t.at)
punctuator t (Some p) = longest p t.at t.past

-- what may begin an input element
unfoldable pub is_start : ℕ → Bool
is_start c =
    is_white c || is_terminator c || starts_name c || is_digit c || is_quote c || is (code "\\") c || is_some (punct_of (c ∷ []))

-- a token that begins with this character, behind it
unfoldable pub token : Char → R Lexeme
token t =
    cond (starts_name t.code) (name t)
    (cond (is_digit t.code) (number t)
    (cond (is_quote t.code) (text t.at t.code)
    (cond (is (code ".") t.code) (dot t)
    (cond (is (code "\\") t.code) (escaped_name t.at) (punctuator t (punct_of (t.code ∷ [])))))))

-- what begins with this character, behind it
unfoldable pub begun : Char → R Element
begun t =
    cond (is_white t.code) (done e.White)
    (cond (is_terminator t.code) (done e.Newline)
    (cond (is (code "/") t.code) (slash t) (as_token (token t))))

-- white space, a line terminator, a comment or a token; any other character is bad
unfoldable pub element : R Element
element = do
  t ← or (one (of is_start)) (other (λ t. of is_start t || is_end t.code) (λ t. BadChar t.at))
  begun t

-- ---- the whole

-- the tokens so far, and whether a line terminator stands behind the last of them
pub record Lexed : Type 0 where
  pub tokens : List Token
  pub newline : Bool

abbrev pub lexed : List Token → Bool → Lexed
lexed tokens newline = record { tokens = tokens; newline = newline }

-- with one input element more
abbrev pub put : Lexed → Element → Lexed
put s e.White = s
put s e.Newline = lexed s.tokens true
put s (e.Lexeme x) = lexed (s.tokens ++ record { kind = x.kind; at = x.at; end = x.end; newline = s.newline } ∷ []) false

abbrev pub goes : Lexed → Char → Bool
goes s t = not (is_end t.code)

abbrev pub piece : Lexed → R Lexed
piece s = do
  x ← element
  done (put s x)

-- the end
abbrev pub last : R (Unit {0})
last = must (λ t. is 0x11_0000 t.code) (λ t. BadChar t.at)

-- to the end, which is read too
unfoldable pub source : R (List Token)
source = do
  s ← again goes piece (lexed [] false)
  last
  done s.tokens
