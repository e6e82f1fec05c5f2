-- Hexadecimal digits of an escape (ECMA-262 5.1, 7.8.4); a fault stands at its backslash.
use Rattle.std.specs.Prelude.{ℕ, ◌+◌, ◌*◌}
use Rattle.std.specs.Char.{digit_value}
use Rattle.grammar.specs.Grammar.{done}
use Rattle.grammar.specs.Words.{◌>>=◌, need}
use Rattle.js_lexer.specs.declared.fault.LexFault.TheVariants.{BadChar}
use Rattle.js_lexer.specs.Chars.{R, of, is_hex}

-- one more digit of a value
abbrev pub hex_digit : ℕ → ℕ → R ℕ
hex_digit back n = do
  t ← need (of is_hex) (λ _. BadChar back)
  done (n * 16 + digit_value t.code)

abbrev pub hex_two : ℕ → R ℕ
hex_two back = do
  n ← hex_digit back 0
  hex_digit back n

abbrev pub hex_four : ℕ → R ℕ
hex_four back = do
  n ← hex_digit back 0
  n ← hex_digit back n
  n ← hex_digit back n
  hex_digit back n
