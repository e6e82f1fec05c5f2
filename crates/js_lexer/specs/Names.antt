-- Names and reserved words (ECMA-262 5.1, 7.6). An escape in a name is left out.
use Prim.Native.Char.{code}
use Rattle.std.specs.Prelude.{ℕ, Bool, List, ◌++◌, Option, Some, None}
use Rattle.std.specs.Char.Escape.{encode_utf16}
use Rattle.grammar.specs.Grammar.{done, again}
use Rattle.grammar.specs.Words.{◌>>=◌, ◌>>◌, one, must, refuse}
use Rattle.placed_chars.specs.declared.chars.Char.{Char}
use Rattle.js_lexer.specs.declared.fault.LexFault.TheVariants.{BadChar, LeftOut}
use Rattle.js_lexer.specs.declared.token.Kind.{Kind}
use Rattle.js_lexer.specs.declared.token.Kind.TheVariants as k
use Rattle.js_lexer.specs.declared.token.Word.{Word}
use Rattle.js_lexer.specs.declared.lexer.Lexeme.{Lexeme}
use Rattle.js_lexer.specs.Chars.{R, of, is, is_part}
use Rattle.js_lexer.specs.Elements.{lexeme}
use Rattle.js_lexer.specs.Escapes.{hex_four}
use Rattle.js_lexer.specs.Words.{word_of}

-- the units of a name so far, and the byte behind it
pub record Spelled : Type 0 where
  pub units : List ℕ
  pub past : ℕ

abbrev pub spelled : List ℕ → ℕ → Spelled
spelled units past = record { units = units; past = past }

abbrev pub name_goes : Spelled → Char → Bool
name_goes s t = of is_part t

abbrev pub more_name : Spelled → R Spelled
more_name s = do
  t ← one (of is_part)
  done (spelled (s.units ++ encode_utf16 t.code) t.past)

-- the name, where it is no reserved word
abbrev pub name_or : List ℕ → Option Word → Kind
name_or units None = k.Name units
name_or units (Some word) = k.Word word

abbrev pub kind_of_name : List ℕ → Kind
kind_of_name units = name_or units (word_of units)

-- behind its first character
unfoldable pub name : Char → R Lexeme
name t = do
  s ← again name_goes more_name (spelled (encode_utf16 t.code) t.past)
  done (lexeme (kind_of_name s.units) t.at s.past)

-- outside of texts a backslash begins an escape in a name; behind it
unfoldable pub escaped_name : ℕ → R Lexeme
escaped_name back = must (of (is (code "u"))) (λ _. BadChar back) >> hex_four back >> refuse (λ _. LeftOut back)
