-- How an input element begins.
use Rattle.std.proofs.Common.{◌≡◌, ℕ, Bool, true, false, cond, List, Some, refl, ap, ◌∙◌}
use Rattle.std.specs.Prelude.{◌&&◌, not, drop}
use Rattle.std.proofs.lemmas.Bool.{eqb-true}
use Rattle.grammar.specs.Grammar.{first}
use Rattle.grammar.specs.Reading.{Bad, read}
use Rattle.placed_chars.specs.declared.chars.Char.{Char}
use Rattle.placed_chars.specs.Chars.{stop, is_end}
use Rattle.js_lexer.specs.declared.fault.LexFault.TheVariants.{BadChar}
use Rattle.js_lexer.specs.Chars.{of, is}
use Rattle.js_lexer.specs.Source.{is_start, begun, element}

begins_so : (ts : List Char) (b : Bool) → is_end (first ts stop).code ≡ false → is_start (first ts stop).code ≡ b → read stop element ts ≡ cond b (read stop (begun (first ts stop)) (drop 1 ts)) (Bad (Some (BadChar (first ts stop).at)) ts)
unfolding element
begins_so ts true e h = rw e rw h refl
begins_so ts false e h = rw e rw h refl

both : (a b : Bool) → (not a && b) ≡ true → (a ≡ false) × (b ≡ true)
both true b h = cc
both false b h = (refl, h)

parts : (ts : List Char) (c : ℕ) (b : Bool) → of (is c) (first ts stop) ≡ true → is_start c ≡ b → read stop element ts ≡ cond b (read stop (begun (first ts stop)) (drop 1 ts)) (Bad (Some (BadChar (first ts stop).at)) ts)
parts ts c b h e =
    let p = both (is_end (first ts stop).code) (is c (first ts stop).code) h in
    let same : (first ts stop).code ≡ c = eqb-true _ c p.1 in
    begins_so ts b p.0 (ap (λ (n : ℕ). is_start n) same ∙ e)

-- Behind a character that may begin an input element stands the rest of it.
pub started : (ts : List Char) (c : ℕ) → of (is c) (first ts stop) ≡ true → is_start c ≡ true → read stop element ts ≡ read stop (begun (first ts stop)) (drop 1 ts)
started ts c h e = parts ts c true h e

-- Any other character is bad.
pub not_started : (ts : List Char) (c : ℕ) → of (is c) (first ts stop) ≡ true → is_start c ≡ false → read stop element ts ≡ Bad (Some (BadChar (first ts stop).at)) ts
not_started ts c h e = parts ts c false h e
