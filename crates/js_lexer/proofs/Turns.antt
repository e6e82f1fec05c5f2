-- Turns of the loops that read texts and whole scripts.
use Rattle.std.proofs.Common.{◌≡◌, ℕ, ◌<◌, Bool, true, false, None, inl, List, length, refl, sym, ap, ◌∙◌}
use Rattle.std.specs.Prelude.{not}
use Rattle.grammar.specs.Grammar.{again, first}
use Rattle.grammar.specs.Reading.{Got, Bad, read}
use Rattle.grammar.proofs.Words.{turn}
use Rattle.placed_chars.specs.declared.chars.Char.{Char}
use Rattle.placed_chars.specs.Chars.{stop, is_end}
use Rattle.js_lexer.specs.Chars.{of, is}
use Rattle.js_lexer.specs.Texts.{in_text, text_goes, text_piece}
use Rattle.js_lexer.specs.Source.{Lexed, goes, piece, element}
use Rattle.js_lexer.proofs.Decided.{either_way, text_piece_decided, element_begins, piece_decided}

pub text_turn : (at quote : ℕ) (units : List ℕ) (ts : List Char) (u : List ℕ) (r : List Char) → of (in_text quote) (first ts stop) ≡ true → read stop (text_piece at quote units) ts ≡ Got u r → (read stop (again (text_goes quote) (text_piece at quote) units) ts ≡ read stop (again (text_goes quote) (text_piece at quote) u) r) × (length r < length ts)
text_turn at quote units ts u r h e = turn stop (text_goes quote) (text_piece at quote) units ts u r (λ _. refl, λ y t h. either_way (not (is_end t.code)) (in_text quote t.code) (is 0x5C t.code) h, λ y. (inl tt, inl tt), λ y. text_piece_decided at quote y) h e

at_end : (s : Lexed) (ts : List Char) → is_end (first ts stop).code ≡ true → read stop (piece s) ts ≡ Bad None ts
unfolding element
at_end s ts h = rw h refl

-- What reads an input element isn't at the end.
inside : (s : Lexed) (ts : List Char) (u : Lexed) (r : List Char) → read stop (piece s) ts ≡ Got u r → not (is_end (first ts stop).code) ≡ true
inside s ts u r e = go (is_end (first ts stop).code) refl
  where
    go : (b : Bool) → is_end (first ts stop).code ≡ b → not (is_end (first ts stop).code) ≡ true
    go true h = let c = sym e ∙ at_end s ts h in cc
    go false h = ap (λ (b : Bool). not b) h

pub source_turn : (s : Lexed) (ts : List Char) (u : Lexed) (r : List Char) → read stop (piece s) ts ≡ Got u r → (read stop (again goes piece s) ts ≡ read stop (again goes piece u) r) × (length r < length ts)
unfolding element
source_turn s ts u r e = turn stop goes piece s ts u r (λ _. refl, λ y t h. element_begins t h, λ y. inl (inl (tt, tt)), piece_decided) (inside s ts u r e) e
