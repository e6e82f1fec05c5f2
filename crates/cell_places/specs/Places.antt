-- The order of places.
use Rattle.std.specs.Prelude.{◌≡◌, ℕ, List, [], refl}
use Rattle.std.proofs.Common.{sym, ◌∙◌, zero, suc}
use Rattle.std.specs.Cmp.{IsTotalOrder, on_total, then_total, nat_cmp_total}
use Rattle.std.specs.Cmp.Lexicographic.{nat_list_cmp_total}
use Rattle.std.specs.Ordering.{nat_cmp, on, then_cmp, ordering_then}
use Rattle.std.specs.declared.cmp.Ordering.{Ordering}
use Rattle.std.specs.declared.cmp.Ordering.TheVariants.{Less, Equal, Greater}
use Rattle.std.proofs.lemmas.Map.Lookups.{CmpEqualImpliesEq, exact_unsigned, exact_bytes}
use Rattle.page_units.specs.Texts.{text_cmp}
use Rattle.cell_places.specs.declared.place.Slot.{Slot}
use Rattle.cell_places.specs.declared.place.Slot.TheVariants.{Own, Keys, Proto, Length, Bind, Parent, Children, Attr, AttrNames, Chars, Heard, Flags, Clock, NextTimer, Timers, NextGuess, Guesses}
use Rattle.cell_places.specs.declared.place.Place.{Place}

abbrev pub slot_rank : Slot → ℕ
slot_rank (Own t) = 0
slot_rank Keys = 1
slot_rank Proto = 2
slot_rank Length = 3
slot_rank (Bind t) = 4
slot_rank Parent = 5
slot_rank Children = 6
slot_rank (Attr t) = 7
slot_rank AttrNames = 8
slot_rank Chars = 9
slot_rank Heard = 10
slot_rank Flags = 11
slot_rank Clock = 12
slot_rank NextTimer = 13
slot_rank Timers = 14
slot_rank NextGuess = 15
slot_rank Guesses = 16

abbrev pub slot_units : Slot → List ℕ
slot_units (Own t) = t
slot_units Keys = []
slot_units Proto = []
slot_units Length = []
slot_units (Bind t) = t
slot_units Parent = []
slot_units Children = []
slot_units (Attr t) = t
slot_units AttrNames = []
slot_units Chars = []
slot_units Heard = []
slot_units Flags = []
slot_units Clock = []
slot_units NextTimer = []
slot_units Timers = []
slot_units NextGuess = []
slot_units Guesses = []

-- by cell, then by rank, then by text
abbrev pub place_cmp : Place → Place → Ordering
place_cmp = then_cmp (then_cmp (on (λ p. p.cell.0) nat_cmp) (on (λ p. slot_rank p.slot) nat_cmp)) (on (λ p. slot_units p.slot) text_cmp)

pub place_cmp_total : IsTotalOrder place_cmp
place_cmp_total = then_total (then_total (on_total (λ p. p.cell.0) nat_cmp_total) (on_total (λ p. slot_rank p.slot) nat_cmp_total)) (on_total (λ p. slot_units p.slot) nat_list_cmp_total)

-- the slot of a rank and a text
slot_of : ℕ → List ℕ → Slot
slot_of zero t = Own t
slot_of (suc zero) t = Keys
slot_of (suc (suc zero)) t = Proto
slot_of (suc (suc (suc zero))) t = Length
slot_of (suc (suc (suc (suc zero)))) t = Bind t
slot_of (suc (suc (suc (suc (suc zero))))) t = Parent
slot_of (suc (suc (suc (suc (suc (suc zero)))))) t = Children
slot_of (suc (suc (suc (suc (suc (suc (suc zero))))))) t = Attr t
slot_of (suc (suc (suc (suc (suc (suc (suc (suc zero)))))))) t = AttrNames
slot_of (suc (suc (suc (suc (suc (suc (suc (suc (suc zero))))))))) t = Chars
slot_of (suc (suc (suc (suc (suc (suc (suc (suc (suc (suc zero)))))))))) t = Heard
slot_of (suc (suc (suc (suc (suc (suc (suc (suc (suc (suc (suc zero))))))))))) t = Flags
slot_of (suc (suc (suc (suc (suc (suc (suc (suc (suc (suc (suc (suc zero)))))))))))) t = Clock
slot_of (suc (suc (suc (suc (suc (suc (suc (suc (suc (suc (suc (suc (suc zero))))))))))))) t = NextTimer
slot_of (suc (suc (suc (suc (suc (suc (suc (suc (suc (suc (suc (suc (suc (suc zero)))))))))))))) t = Timers
slot_of (suc (suc (suc (suc (suc (suc (suc (suc (suc (suc (suc (suc (suc (suc (suc zero))))))))))))))) t = NextGuess
slot_of (suc (suc (suc (suc (suc (suc (suc (suc (suc (suc (suc (suc (suc (suc (suc (suc n)))))))))))))))) t = Guesses

slot_back : (s : Slot) → slot_of (slot_rank s) (slot_units s) ≡ s
unfolding slot_of
slot_back (Own t) = refl
slot_back Keys = refl
slot_back Proto = refl
slot_back Length = refl
slot_back (Bind t) = refl
slot_back Parent = refl
slot_back Children = refl
slot_back (Attr t) = refl
slot_back AttrNames = refl
slot_back Chars = refl
slot_back Heard = refl
slot_back Flags = refl
slot_back Clock = refl
slot_back NextTimer = refl
slot_back Timers = refl
slot_back NextGuess = refl
slot_back Guesses = refl

both_equal : (a b : Ordering) → ordering_then a b ≡ Equal → (a ≡ Equal) × (b ≡ Equal)
both_equal Less b e = cc
both_equal Equal b e = (refl, e)
both_equal Greater b e = cc

same_slot : (a b : Slot) → slot_rank a ≡ slot_rank b → slot_units a ≡ slot_units b → a ≡ b
same_slot a b r u = sym (slot_back a) ∙ (λ i. slot_of (r i) (u i)) ∙ slot_back b

-- places that compare alike are one
pub place_exact : CmpEqualImpliesEq place_cmp
place_exact a b h =
    let outer = both_equal _ _ h in
    let inner = both_equal _ _ outer.0 in
    let c = exact_unsigned a.cell.0 b.cell.0 inner.0 in
    let s = same_slot a.slot b.slot (exact_unsigned _ _ inner.1) (exact_bytes _ _ outer.1) in
    λ i. record { cell = record { 0 = c i }; slot = s i }
