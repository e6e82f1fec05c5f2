-- A stream has one run to its end on the plain host, but for the open choice.
use Rattle.std.proofs.Common.{◌≡◌, ◌+◌, ℕ, true, false, List, [], ◌∷◌, length, Some, None, inl, inr, ◌⊎◌, refl, sym, ap, subst, arith}
use Rattle.std.specs.Prelude.{Result}
use Rattle.page_units.specs.declared.value.CellName.{CellName}
use Rattle.cell_places.specs.Heap.{Heap}
use Rattle.tree_writer.proofs.OneText.{one_text}
use Rattle.dom_tree.proofs.Finding.{one_found}
use Rattle.http_wire.specs.Asked.{Asked}
use Rattle.http_wire.specs.Refusal.{Refusal}
use Rattle.http_wire.specs.declared.wire.Incoming.{Incoming}
use Rattle.http_wire.specs.Incoming as came
use Rattle.http_wire.specs.Incoming.{Comes, incoming_of, refused_as}
use Rattle.http_wire.specs.Requests as w
use Rattle.http_wire.specs.Requests.{EndsAs}
use Rattle.http_wire.proofs.Unique.{message_unique, whole_or_refused, whole_or_ends, ending_unique}
use Rattle.crom_host.specs.Replying.{Reply, tree}
use Rattle.crom_host.specs.Plain as p
use Rattle.crom_host.specs.Plain.{Settings, PlainHost, Answers, Serves, ServesId, PlainStep, Answered, ending_behind, Sent, PlainRun, Ending, IsEnd, EndsOpen, OneRun}

-- ---- what comes

same_refusal : (a b : Refusal) → w.refused a ≡ w.refused b → a ≡ b
same_refusal a b e = cc

-- one thing comes first of the bytes, but for the open choice
comes_once : (bytes rest other : List ℕ) (i j : Incoming) → Comes bytes i rest → Comes bytes j other → ((i ≡ j) × (rest ≡ other)) ⊎ EndsOpen bytes
comes_once _ _ _ _ _ (came.request bytes rest m x) (came.request _ other k y) =
    let same = message_unique bytes rest other m k x y in inl (ap incoming_of same.0, same.1)
comes_once _ _ _ _ _ (came.request bytes rest m x) (came.refusal _ r y) = absurd (whole_or_refused bytes rest m r x y)
comes_once _ _ _ _ _ (came.refusal bytes r x) (came.request _ other m y) = absurd (whole_or_refused bytes other m r y x)
comes_once _ _ _ _ _ (came.refusal bytes a x) (came.refusal _ b y) =
    elim (ending_unique bytes (w.refused a) (w.refused b) x y) [
      | inl same ↦ inl (ap refused_as (same_refusal a b same), refl)
      | inr target ↦ inr (p.here bytes target)
    ]

never_refused : (r : Refusal) (e : w.Ending) → w.refused r ≡ e → (e ≡ w.ended) ⊎ (e ≡ w.truncated) → ⊥
never_refused r e same (inl h) = absurd (cc)
never_refused r e same (inr h) = absurd (cc)

-- what comes isn't an end
comes_or_ends : (bytes rest : List ℕ) (i : Incoming) (e : w.Ending) → Comes bytes i rest → EndsAs bytes e → (e ≡ w.ended) ⊎ (e ≡ w.truncated) → EndsOpen bytes
comes_or_ends _ _ _ e (came.request bytes rest m x) ends is = absurd (whole_or_ends bytes rest m e x ends)
comes_or_ends _ _ _ e (came.refusal bytes r x) ends is =
    elim (ending_unique bytes (w.refused r) e x ends) [
      | inl same ↦ absurd (never_refused r e same is)
      | inr target ↦ p.here bytes target
    ]

-- ---- what is answered

serves_once : (s : Settings) (H : Heap) (n : CellName) (q r : Reply) → Serves s H n q → Serves s H n r → q ≡ r
serves_once s H n _ _ (p.text bytes is few) (p.text other also less) = ap tree (one_text H n bytes other is also)
serves_once s H n _ _ (p.text bytes is few) (p.long other also many) = let same = ap length (one_text H n bytes other is also) in absurd (omega (arith, few, many, same))
serves_once s H n _ _ (p.long bytes is many) (p.text other also few) = let same = ap length (one_text H n bytes other is also) in absurd (omega (arith, few, many, same))
serves_once s H n _ _ (p.long bytes is many) (p.long other also more) = refl

same_cell : (n m : CellName) → Some n ≡ Some m → n ≡ m
same_cell n m e = cc

serves_id_once : (s : Settings) (H : Heap) (id : List ℕ) (q r : Reply) → ServesId s H id q → ServesId s H id r → q ≡ r
serves_id_once s H id _ _ (p.found n count acts q finds serves) (p.found m more others r found served) =
    let same = same_cell n m (one_found H id (Some n) (Some m) count more acts others finds found).0 in
    serves_once s H n q r serves (subst (λ (c : CellName). Serves s H c r) (sym same) served)
serves_id_once s H id _ _ (p.found n count acts q finds serves) (p.none more others found) =
    let same = (one_found H id (Some n) None count more acts others finds found).0 in absurd (cc)
serves_id_once s H id _ _ (p.none count acts finds) (p.found m more others r found served) =
    let same = (one_found H id None (Some m) count more acts others finds found).0 in absurd (cc)
serves_id_once s H id _ _ (p.none count acts finds) (p.none more others found) = refl

step_once : (s : Settings) (h one other : PlainHost) (asked : Asked) (g q g' q' : Answers) (r r' : Reply) → PlainStep s h asked g q r one → PlainStep s h asked g' q' r' other → (r ≡ r') × (one ≡ other)
step_once s _ _ _ _ _ _ _ _ _ _ (p.dom h q x) (p.dom _ r y) = (serves_once s h.heap _ q r x y, refl)
step_once s _ _ _ _ _ _ _ _ _ _ (p.node h id q x) (p.node _ _ r y) = (serves_id_once s h.heap id q r x y, refl)
step_once s _ _ _ _ _ _ _ _ _ _ (p.halt h) (p.halt _) = (refl, refl)
step_once s _ _ _ _ _ _ _ _ _ _ (p.load h) (p.load _) = (refl, refl)
step_once s _ _ _ _ _ _ _ _ _ _ (p.stats h) (p.stats _) = (refl, refl)
step_once s _ _ _ _ _ _ _ _ _ _ (p.event h e) (p.event _ _) = (refl, refl)
step_once s _ _ _ _ _ _ _ _ _ _ (p.tick h ms) (p.tick _ _) = (refl, refl)

answered_once : (s : Settings) (h one other : PlainHost) (asked : Result Asked Refusal) (g q g' q' : Answers) (r r' : Reply) → Answered s h asked g q r one → Answered s h asked g' q' r' other → (r ≡ r') × (one ≡ other)
answered_once s _ _ _ _ _ _ _ _ _ _ (p.whole h one asked g q r x) (p.whole _ other _ g' q' r' y) = step_once s h one other asked g q g' q' r r' x y
answered_once s _ _ _ _ _ _ _ _ _ _ (p.refusal h r) (p.refusal _ _) = (refl, refl)

-- ---- runs

never_both : (i j : Incoming) → i ≡ j → i.close ≡ true → j.close ≡ false → ⊥
never_both i j same closing going = let e = ap (λ (k : Incoming). k.close) same in absurd (cc)

-- two last replies
last_once : (s : Settings) (h one other : PlainHost) (n : ℕ) (bytes rest tail : List ℕ) (i j : Incoming) (g q g' q' : Answers) (r r' : Reply) → Comes bytes i rest → Comes bytes j tail → Answered s h i.asked g q r one → Answered s h j.asked g' q' r' other
    → OneRun bytes (record { reply = r; closes = true } ∷ []) (record { reply = r'; closes = true } ∷ []) one other (n + 1) (n + 1) (ending_behind i) (ending_behind j)
last_once s h one other n bytes rest tail i j g q g' q' r r' x y a b =
    elim (comes_once bytes rest tail i j x y) [
      | inl same ↦ (
          let both = answered_once s h one other i.asked g q g' q' r r' a (subst (λ (k : Incoming). Answered s h k.asked g' q' r' other) (sym same.0) b) in
          inl (ap (λ (z : Reply). record { reply = z; closes = true } ∷ []) both.0, both.1, refl, ap ending_behind same.0))
      | inr open_end ↦ inr open_end
    ]

next_once : (bytes rest : List ℕ) (i : Incoming) (r r' : Reply) (sent others : List Sent) (one other : PlainHost) (m l : ℕ) (e f : Ending) → Comes bytes i rest → r ≡ r' → OneRun rest sent others one other m l e f
    → OneRun bytes (record { reply = r; closes = false } ∷ sent) (record { reply = r'; closes = false } ∷ others) one other m l e f
next_once bytes rest i r r' sent others one other m l e f comes same (inl all) =
    inl ((λ k. record { reply = same k; closes = false } ∷ all.0 k), all.1, all.2, all.3)
next_once bytes rest i r r' sent others one other m l e f comes same (inr open_end) = inr (p.after bytes rest i comes open_end)

pub one_run : (s : Settings) (h one other : PlainHost) (n m l : ℕ) (bytes : List ℕ) (g q g' q' : Answers) (sent others : List Sent) (e f : Ending)
    → PlainRun s h n bytes g q sent one m e → PlainRun s h n bytes g' q' others other l f → IsEnd e → IsEnd f → OneRun bytes sent others one other m l e f
one_run s _ _ _ _ _ _ _ _ _ _ _ _ _ _ _ (p.pause h n bytes) y is also = absurd is
one_run s _ _ _ _ _ _ _ _ _ _ _ _ _ _ _ x (p.pause h n bytes) is also = absurd also
one_run s _ _ _ _ _ _ _ _ _ _ _ _ _ _ _ (p.end h n bytes x) (p.end _ _ _ y) is also = inl (refl, refl, refl, refl)
one_run s _ _ _ _ _ _ _ _ _ _ _ _ _ _ _ (p.cut h n bytes x) (p.cut _ _ _ y) is also = inl (refl, refl, refl, refl)
one_run s _ _ _ _ _ _ _ _ _ _ _ _ _ _ _ (p.end h n bytes x) (p.cut _ _ _ y) is also = absurd (y.0 x)
one_run s _ _ _ _ _ _ _ _ _ _ _ _ _ _ _ (p.cut h n bytes x) (p.end _ _ _ y) is also = absurd (x.0 y)
one_run s _ _ _ _ _ _ _ _ _ _ _ _ _ _ _ (p.end h n bytes x) (p.bound _ _ _ rest i full y) is also = inr (comes_or_ends bytes rest i w.ended y x (inl refl))
one_run s _ _ _ _ _ _ _ _ _ _ _ _ _ _ _ (p.cut h n bytes x) (p.bound _ _ _ rest i full y) is also = inr (comes_or_ends bytes rest i w.truncated y x (inr refl))
one_run s _ _ _ _ _ _ _ _ _ _ _ _ _ _ _ (p.end h n bytes x) (p.last _ _ _ _ rest i _ _ _ _ y _ _) is also = inr (comes_or_ends bytes rest i w.ended y x (inl refl))
one_run s _ _ _ _ _ _ _ _ _ _ _ _ _ _ _ (p.cut h n bytes x) (p.last _ _ _ _ rest i _ _ _ _ y _ _) is also = inr (comes_or_ends bytes rest i w.truncated y x (inr refl))
one_run s _ _ _ _ _ _ _ _ _ _ _ _ _ _ _ (p.end h n bytes x) (p.more _ _ _ _ _ _ rest i _ _ _ _ _ _ _ _ y _ _ _) is also = inr (comes_or_ends bytes rest i w.ended y x (inl refl))
one_run s _ _ _ _ _ _ _ _ _ _ _ _ _ _ _ (p.cut h n bytes x) (p.more _ _ _ _ _ _ rest i _ _ _ _ _ _ _ _ y _ _ _) is also = inr (comes_or_ends bytes rest i w.truncated y x (inr refl))
one_run s _ _ _ _ _ _ _ _ _ _ _ _ _ _ _ (p.bound h n bytes rest i full x) (p.end _ _ _ y) is also = inr (comes_or_ends bytes rest i w.ended x y (inl refl))
one_run s _ _ _ _ _ _ _ _ _ _ _ _ _ _ _ (p.bound h n bytes rest i full x) (p.cut _ _ _ y) is also = inr (comes_or_ends bytes rest i w.truncated x y (inr refl))
one_run s _ _ _ _ _ _ _ _ _ _ _ _ _ _ _ (p.bound h n bytes rest i full x) (p.bound _ _ _ _ _ _ y) is also = inl (refl, refl, refl, refl)
one_run s _ _ _ _ _ _ _ _ _ _ _ _ _ _ _ (p.bound h n bytes rest i full x) (p.last _ _ _ _ _ _ _ _ _ few _ _ _) is also = absurd (omega (arith, full, few))
one_run s _ _ _ _ _ _ _ _ _ _ _ _ _ _ _ (p.bound h n bytes rest i full x) (p.more _ _ _ _ _ _ _ _ _ _ _ _ _ _ _ few _ _ _ _) is also = absurd (omega (arith, full, few))
one_run s _ _ _ _ _ _ _ _ _ _ _ _ _ _ _ (p.last h one n bytes rest i g q r few x a closes) (p.end _ _ _ y) is also = inr (comes_or_ends bytes rest i w.ended x y (inl refl))
one_run s _ _ _ _ _ _ _ _ _ _ _ _ _ _ _ (p.last h one n bytes rest i g q r few x a closes) (p.cut _ _ _ y) is also = inr (comes_or_ends bytes rest i w.truncated x y (inr refl))
one_run s _ _ _ _ _ _ _ _ _ _ _ _ _ _ _ (p.last h one n bytes rest i g q r few x a closes) (p.bound _ _ _ _ _ full y) is also = absurd (omega (arith, full, few))
one_run s _ _ _ _ _ _ _ _ _ _ _ _ _ _ _ (p.last h one n bytes rest i g q r few x a closes) (p.last _ other _ _ tail j g' q' r' _ y b _) is also =
    last_once s h one other n bytes rest tail i j g q g' q' r r' x y a b
one_run s _ _ _ _ _ _ _ _ _ _ _ _ _ _ _ (p.last h one n bytes rest i g q r few x a closes) (p.more _ _ _ _ _ _ tail j _ _ _ _ _ _ _ _ y _ goes _) is also =
    elim (comes_once bytes rest tail i j x y) [ inl same ↦ absurd (never_both i j same.0 closes goes) | inr open_end ↦ inr open_end ]
one_run s _ _ _ _ _ _ _ _ _ _ _ _ _ _ _ (p.more h mid one n m bytes rest i g q gs qs r sent e few x a goes others) (p.end _ _ _ y) is also = inr (comes_or_ends bytes rest i w.ended x y (inl refl))
one_run s _ _ _ _ _ _ _ _ _ _ _ _ _ _ _ (p.more h mid one n m bytes rest i g q gs qs r sent e few x a goes others) (p.cut _ _ _ y) is also = inr (comes_or_ends bytes rest i w.truncated x y (inr refl))
one_run s _ _ _ _ _ _ _ _ _ _ _ _ _ _ _ (p.more h mid one n m bytes rest i g q gs qs r sent e few x a goes others) (p.bound _ _ _ _ _ full y) is also = absurd (omega (arith, full, few))
one_run s _ _ _ _ _ _ _ _ _ _ _ _ _ _ _ (p.more h mid one n m bytes rest i g q gs qs r sent e few x a goes others) (p.last _ _ _ _ tail j _ _ _ _ y _ closes) is also =
    elim (comes_once bytes rest tail i j x y) [ inl same ↦ absurd (never_both j i (sym same.0) closes goes) | inr open_end ↦ inr open_end ]
one_run s _ _ _ _ _ _ _ _ _ _ _ _ _ _ _ (p.more h mid one n m bytes rest i g q gs qs r sent e few x a goes runs) (p.more _ next other _ l _ tail j g' q' gs' qs' r' others f _ y b _ run) is also =
    elim (comes_once bytes rest tail i j x y) [
      | inl same ↦ (
          let both = answered_once s h mid next i.asked g q g' q' r r' a (subst (λ (k : Incoming). Answered s h k.asked g' q' r' next) (sym same.0) b) in
          let again : PlainRun s mid (n + 1) rest gs' qs' others other l f =
          subst (λ (z : List ℕ). PlainRun s mid (n + 1) z gs' qs' others other l f) (sym same.1) (subst (λ (k : PlainHost). PlainRun s k (n + 1) tail gs' qs' others other l f) (sym both.1) run) in
          next_once bytes rest i r r' sent others one other m l e f x both.0 (one_run s mid one other (n + 1) m l rest gs qs gs' qs' sent others e f runs again is also))
      | inr open_end ↦ inr open_end
    ]
