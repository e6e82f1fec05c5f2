-- The kinds of the cells that a page starts with, as they are pushed.
use Rattle.std.proofs.Common.{◌≡◌, ℕ, ◌+◌, zero, suc, List, [], ◌∷◌, ◌++◌, ap, sym, ◌∙◌, arith, add-zero, zero-add, append_assoc}
use Rattle.cell_places.specs.declared.kind.CellKind.{CellKind}
use Rattle.cell_places.specs.declared.kind.CellKind.TheVariants as k
use Rattle.cell_places.specs.Start.{natives}

-- one built-in function more
pub natives-more : (from many : ℕ) → natives from (many + 1) ≡ natives from many ++ k.Native (from + many) ∷ []
natives-more from zero = ap (λ (n : ℕ). k.Native n ∷ []) (sym (add-zero from))
natives-more from (suc many) =
    let more : suc many + 1 ≡ suc (many + 1) = omega arith in
    let last : from + 1 + many ≡ from + suc many = omega arith in
    rw more (ap (λ (rest : List CellKind). k.Native from ∷ rest) (natives-more (from + 1) many ∙ ap (λ (n : ℕ). natives (from + 1) many ++ k.Native n ∷ []) last))

-- a built-in function pushed
pub natives_pushed : (old kinds new : List CellKind) (n : ℕ) → kinds ≡ old ++ natives 0 n → new ≡ kinds ++ k.Native n ∷ [] → new ≡ old ++ natives 0 (n + 1)
natives_pushed old kinds new n e h =
    let last : List CellKind = k.Native n ∷ [] in
    let more : natives 0 n ++ last ≡ natives 0 (n + 1) =
    ap (λ (m : ℕ). natives 0 n ++ k.Native m ∷ []) (sym (zero-add n)) ∙ sym (natives-more 0 n) in
    h ∙ (ap (λ (l : List CellKind). l ++ last) e ∙ (append_assoc old (natives 0 n) last ∙ ap (λ (l : List CellKind). old ++ l) more))

-- six parts, one after another
pub six_parts : {X : Type 0} (p q r s t u a b c d e f g : List X) → a ≡ [] → b ≡ a ++ p → c ≡ b ++ q → d ≡ c ++ r → e ≡ d ++ s → f ≡ e ++ t → g ≡ f ++ u → g ≡ (((p ++ q) ++ r) ++ s) ++ (t ++ u)
six_parts {X = X} p q r s t u a b c d e f g ha hb hc hd he hf hg =
    let onto : List X → List X → List X = λ x y. y ++ x in
    let ab = hb ∙ ap (onto p) ha in
    let ac = hc ∙ ap (onto q) ab in
    let ad = hd ∙ ap (onto r) ac in
    let ae = he ∙ ap (onto s) ad in
    let af = hf ∙ ap (onto t) ae in
    hg ∙ (ap (onto u) af ∙ append_assoc (((p ++ q) ++ r) ++ s) t u)
