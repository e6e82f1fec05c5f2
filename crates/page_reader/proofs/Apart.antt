-- Classes of characters that exclude each other.
use Prim.Native.Char.{code}
use Rattle.std.proofs.Common.{◌≡◌, ℕ, Bool, true, false, refl, sym, subst, ◌∙◌}
use Rattle.std.specs.Prelude.{◌||◌, ◌&&◌, not}
use Rattle.std.proofs.lemmas.Bool.{eqb-true}
use Rattle.placed_chars.specs.declared.chars.Char.{Char}
use Rattle.placed_chars.specs.Chars.{is_end}
use Rattle.page_reader.specs.Classes.{is, is_white, is_lt, is_amp}
use Rattle.page_reader.specs.Attributes.{spaced_letter}
use Rattle.page_reader.specs.Content.{is_text}

abbrev pub character : ℕ → ℕ → ℕ → Char
character c at past = record { code = c; at = at; past = past }

-- A code of a class without c isn't c.
pub not_code : (c : ℕ) (m : ℕ → Bool) → m c ≡ false → (x : ℕ) → m x ≡ true → is c x ≡ false
not_code c m e x h = go (is c x) refl
  where
    go : (b : Bool) → is c x ≡ b → b ≡ false
    go false k = refl
    go true k = let same : x ≡ c = eqb-true x c k in let bad : m c ≡ true = subst (λ (n : ℕ). m n ≡ true) same h in let no = sym bad ∙ e in cc

-- The same for characters, whatever their place.
pub apart : (c : ℕ) (m : Char → Bool) → ((at past : ℕ) → m (character c at past) ≡ false) → (t : Char) → m t ≡ true → is c t.code ≡ false
apart c m e t h = not_code c (λ n. m (character n t.at t.past)) (e t.at t.past) t.code h

-- A code of a class without white space isn't white space.
white_not : (m : ℕ → Bool) → m (code " ") ≡ false → m (code "\t") ≡ false → m (code "\n") ≡ false → m (code "\u{c}") ≡ false → m (code "\r") ≡ false → (x : ℕ) → m x ≡ true → is_white x ≡ false
white_not m h1 h2 h3 h4 h5 x h = rw (not_code (code " ") m h1 x h) rw (not_code (code "\t") m h2 x h) rw (not_code (code "\n") m h3 x h) rw (not_code (code "\u{c}") m h4 x h) rw (not_code (code "\r") m h5 x h) refl

pub letter_not_white : (x : ℕ) (s : Bool) → spaced_letter s x ≡ true → is_white x ≡ false
letter_not_white x s h = white_not (spaced_letter s) refl refl refl refl refl x h

pub lt_not_white : (x : ℕ) → is_lt x ≡ true → is_white x ≡ false
lt_not_white x h = white_not is_lt refl refl refl refl refl x h

-- Of three tests that fail together the third fails.
pub third_false : (a b c : Bool) → (a || b || c) ≡ false → c ≡ false
third_false true b c h = cc
third_false false true c h = cc
third_false false false c h = h

pub and_false : (a b : Bool) → a ≡ false → (a && b) ≡ false
and_false true b e = cc
and_false false b e = refl

-- what stands in a value and is a `&`, or isn't
pub one_of_two : (v a : Bool) → (v && not a) ≡ true → (v && a) ≡ false
one_of_two true true h = cc
one_of_two true false h = refl
one_of_two false a h = cc

pub either_way : (v a : Bool) → ((v && a) || (v && not a)) ≡ true → v ≡ true
either_way true a h = refl
either_way false a h = cc

-- what ends a text isn't of it
pub text_ends : (e a l : Bool) → (a || l) ≡ true → (not e && not a && not l) ≡ false
text_ends true a l h = refl
text_ends false true l h = refl
text_ends false false true h = refl
text_ends false false false h = cc

-- What begins a piece of content isn't the end.
pub not_the_end : (x : ℕ) → (is_text x || (is_amp x || is_lt x)) ≡ true → not (is_end x) ≡ true
not_the_end x h = go (is_end x) refl
  where
    both : (a l : Bool) → a ≡ false → l ≡ false → (a || l) ≡ true → ⊥
    both true l e e' h = cc
    both false l e e' h = let q = sym e' ∙ h in cc

    neither : (e a l : Bool) → e ≡ true → a ≡ false → l ≡ false → ((not e && not a && not l) || (a || l)) ≡ true → ⊥
    neither true a l k k' k'' h = both a l k' k'' h
    neither false a l k k' k'' h = cc

    go : (b : Bool) → is_end x ≡ b → not b ≡ true
    go false k = refl
    go true k = absurd (neither (is_end x) (is_amp x) (is_lt x) k (not_code (code "&") is_end refl x k) (not_code (code "<") is_end refl x k) h)
