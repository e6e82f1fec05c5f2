-- Texts appended under a bound, one after another.
use Rattle.std.proofs.Common.{ℕ, ◌<◌, ◌+◌, length, List, ◌++◌, Bool, true, false, ap, ◌∙◌, append_assoc, arith, length-append}
use Rattle.tree_writer.specs.Appends.{Appended}

-- a text behind one that was appended whole
pub appended_then : (whole : Bool) (most : ℕ) (old mid new first second : List ℕ) → Appended true most old mid first → Appended whole most mid new second → Appended whole most old new (first ++ second)
appended_then true most old mid new first second h k = (k.0 ∙ (ap (λ (xs : List ℕ). xs ++ second) h.0 ∙ append_assoc old first second), k.1)
appended_then false most old mid new first second h k =
    omega (arith, k, ap length h.0, length-append old first, length-append mid second, length-append old (first ++ second), length-append first second)

-- behind one that was too long all is too long
pub appended_cut : (most : ℕ) (old new last first second : List ℕ) → Appended false most old new first → Appended false most old last (first ++ second)
appended_cut most old new last first second h =
    omega (arith, h, length-append old first, length-append old (first ++ second), length-append first second)

-- a text that is too long by what it has at least
pub appended_long : (most : ℕ) (old new text : List ℕ) → most < length old + length text → Appended false most old new text
appended_long most old new text h = omega (arith, h, length-append old text)
