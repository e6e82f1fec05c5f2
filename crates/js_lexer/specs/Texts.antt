-- Texts and their escapes (ECMA-262 5.1, 7.8.4, in strict code).
use Prim.Native.Char.{code}
use Rattle.std.specs.Prelude.{ℕ, Bool, not, ◌||◌, ◌&&◌, cond, List, [], ◌∷◌, ◌++◌, Some, None}
use Rattle.std.specs.Char.Escape.{encode_utf16}
use Rattle.grammar.specs.Grammar.{done, or, again}
use Rattle.grammar.specs.Words.{◌>>=◌, ◌>>◌, one, need, choice, barred}
use Rattle.placed_chars.specs.declared.chars.Char.{Char}
use Rattle.placed_chars.specs.Chars.{is_end}
use Rattle.js_lexer.specs.declared.fault.LexFault.TheVariants.{BadChar, UnclosedText}
use Rattle.js_lexer.specs.declared.token.Kind.TheVariants as k
use Rattle.js_lexer.specs.declared.lexer.Lexeme.{Lexeme}
use Rattle.js_lexer.specs.Chars.{R, of, is, is_terminator, is_digit}
use Rattle.js_lexer.specs.Elements.{lexeme}
use Rattle.js_lexer.specs.Escapes.{hex_two, hex_four}

-- ---- escapes; a fault stands at their backslash

-- `0`, or no digit
abbrev pub is_escapable : ℕ → Bool
is_escapable c = is (code "0") c || not (is_digit c)

-- the units of a character behind a backslash: `b`, `f`, `n`, `r`, `t` and `v` stand for BS, FF, LF, CR, TAB and VT
abbrev pub single : ℕ → List ℕ
single c =
    cond (is (code "b") c) (0x08 ∷ [])
    (cond (is (code "f") c) (0x0C ∷ [])
    (cond (is (code "n") c) (0x0A ∷ [])
    (cond (is (code "r") c) (0x0D ∷ [])
    (cond (is (code "t") c) (0x09 ∷ [])
    (cond (is (code "v") c) (0x0B ∷ []) (encode_utf16 c))))))

-- the units with what the escape of this character stands for: `0` with no digit behind it, `x` and two hexadecimal
-- digits, `u` and four, a line terminator (CR LF is one) for nothing, and any other
abbrev pub escaped : ℕ → List ℕ → ℕ → R (List ℕ)
escaped back units c =
    cond (is (code "0") c) (barred (λ t. cond (of is_digit t) (Some (BadChar back)) None) >> done (units ++ 0 ∷ []))
    (cond (is (code "x") c) (hex_two back >>= (λ n. done (units ++ n ∷ [])))
    (cond (is (code "u") c) (hex_four back >>= (λ n. done (units ++ n ∷ [])))
    (cond (is (code "\r") c) (choice (of (is (code "\n"))) (done units) (done units))
    (cond (is_terminator c) (done units)
    (done (units ++ single c))))))

-- behind its backslash, in a text that begins at this place
unfoldable pub escape : ℕ → ℕ → List ℕ → R (List ℕ)
escape at back units = do
  t ← need (of is_escapable) (λ t. cond (is_end t.code) (UnclosedText at) (BadChar back))
  escaped back units t.code

-- ---- texts

-- what stands in a text before its closing quote
abbrev pub in_text : ℕ → ℕ → Bool
in_text quote c = not (is quote c) && not (is_terminator c)

abbrev pub text_goes : ℕ → List ℕ → Char → Bool
text_goes quote units t = of (in_text quote) t

-- an escape, behind a backslash, or a character for itself
abbrev pub text_piece : ℕ → ℕ → List ℕ → R (List ℕ)
text_piece at quote units = or
    (do
      t ← one (of (λ c. in_text quote c && is (code "\\") c))
      escape at t.at units)
    (do
      t ← one (of (λ c. in_text quote c && not (is (code "\\") c)))
      done (units ++ encode_utf16 t.code))

-- behind its first quote, which stands at this place
unfoldable pub text : ℕ → ℕ → R Lexeme
text at quote = do
  units ← again (text_goes quote) (text_piece at quote) []
  q ← need (of (is quote)) (λ _. UnclosedText at)
  done (lexeme (k.Str units) at q.past)
