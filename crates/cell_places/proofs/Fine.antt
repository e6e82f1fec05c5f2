-- Kinds that grow keep what they have, and a sound heap is one in both forms.
use Rattle.std.proofs.Common.{◌≡◌, ℕ, ◌<◌, zero, suc, Bool, true, false, List, [], ◌∷◌, ◌++◌, length, Option, Some, None, slice_get, refl, ap, sym, ◌∙◌, arith}
use Rattle.std.proofs.lemmas.Bool.{lt-ltb, ltb-true}
use Rattle.page_units.specs.declared.value.CellName.{CellName}
use Rattle.page_units.specs.declared.value.Value.{Value}
use Rattle.page_units.specs.declared.value.Value.TheVariants as v
use Rattle.cell_places.specs.declared.kind.CellKind.{CellKind}
use Rattle.cell_places.specs.declared.kind.CellKind.TheVariants as kind
use Rattle.cell_places.specs.Kinds.{is_scope, is_object, is_function}
use Rattle.cell_places.specs.Heap.{Heap, cell, or_plain}
use Rattle.cell_places.specs.Sound.{IsSound}
use Rattle.cell_places.specs.Fine.{FineValue, FineScope, FineObject, FineFunction, Grows, SoundHeap, Sound}
use Rattle.cell_places.proofs.Grown.{length-grown, slice_get-grown_same, below_more, kind-start}

-- ---- cells that are there

-- a cell whose kind passes a test that a plain one fails is there
pub some_kind : (test : CellKind → Bool) → test kind.Plain ≡ false → (o : Option CellKind) → test (or_plain o) ≡ true → (k : CellKind) × (o ≡ Some k) × (test k ≡ true)
some_kind test plain None h = absurd (cc)
some_kind test plain (Some k) h = (k, refl, h)

pub some_below : (kinds : List CellKind) (n : ℕ) (k : CellKind) → slice_get kinds n ≡ Some k → n < length kinds
some_below [] n k e = absurd (cc)
some_below (x ∷ kinds) zero k e = omega arith
some_below (x ∷ kinds) (suc n) k e = let h = some_below kinds n k e in omega arith

pub below_some : (kinds : List CellKind) (n : ℕ) → n < length kinds → (k : CellKind) × (slice_get kinds n ≡ Some k)
below_some [] n l = absurd (omega arith)
below_some (x ∷ kinds) zero l = (x, refl)
below_some (x ∷ kinds) (suc n) l = below_some kinds n (omega arith)

-- a test of the kind of a cell that is there
pub test_there : (test : CellKind → Bool) (kinds : List CellKind) (n : ℕ) → n < length kinds → test (or_plain (slice_get kinds n)) ≡ true → (k : CellKind) × (slice_get kinds n ≡ Some k) × (test k ≡ true)
test_there test kinds n l h =
    let some = below_some kinds n l in
    (some.0, some.1, ap (λ o. test (or_plain o)) (sym some.1) ∙ h)

pub scope_below : (kinds : List CellKind) (n : CellName) → FineScope kinds n → n.0 < length kinds
scope_below kinds n h =
    let some = some_kind is_scope refl (slice_get kinds n.0) h.scope in some_below kinds n.0 some.0 some.1

pub function_below : (kinds : List CellKind) (n : CellName) → FineFunction kinds n → n.0 < length kinds
function_below kinds n h =
    let some = some_kind is_function refl (slice_get kinds n.0) h.called in some_below kinds n.0 some.0 some.1

-- ---- growth

pub grows_refl : (kinds : List CellKind) → Grows kinds kinds
grows_refl kinds = record { count = omega arith; same = λ n l. refl }

pub grows_trans : (xs ys zs : List CellKind) → Grows xs ys → Grows ys zs → Grows xs zs
grows_trans xs ys zs g h = record {
  count = let a = g.count in let b = h.count in omega arith;
  same = λ n l. h.same n (let a = g.count in omega arith) ∙ g.same n l;
}

pub grows_made : (kinds : List CellKind) (k : CellKind) → Grows kinds (kinds ++ k ∷ [])
grows_made kinds k = record { count = let l = length-grown kinds k in omega arith; same = slice_get-grown_same kinds k }

test_grown : (test : CellKind → Bool) (kinds more : List CellKind) (n : ℕ) → Grows kinds more → n < length kinds → test (or_plain (slice_get kinds n)) ≡ true → test (or_plain (slice_get more n)) ≡ true
test_grown test kinds more n g l h = ap (λ o. test (or_plain o)) (g.same n l) ∙ h

pub scope_grown : (kinds more : List CellKind) (n : CellName) → Grows kinds more → FineScope kinds n → FineScope more n
scope_grown kinds more n g h = record { scope = test_grown is_scope kinds more n.0 g (scope_below kinds n h) h.scope }

pub object_grown : (kinds more : List CellKind) (n : CellName) → Grows kinds more → FineObject kinds n → FineObject more n
object_grown kinds more n g h = record {
  there = let a = g.count in let b = h.there in omega arith;
  object = test_grown is_object kinds more n.0 g h.there h.object;
}

pub function_grown : (kinds more : List CellKind) (n : CellName) → Grows kinds more → FineFunction kinds n → FineFunction more n
function_grown kinds more n g h = record { called = test_grown is_function kinds more n.0 g (function_below kinds n h) h.called }

pub value_grown : (kinds more : List CellKind) (x : Value) → Grows kinds more → FineValue kinds x → FineValue more x
value_grown kinds more v.Undefined g h = record { there = tt; object = tt; number = tt }
value_grown kinds more v.Null g h = record { there = tt; object = tt; number = tt }
value_grown kinds more (v.Bool b) g h = record { there = tt; object = tt; number = tt }
value_grown kinds more (v.Num z) g h = record { there = tt; object = tt; number = h.number }
value_grown kinds more (v.Str t) g h = record { there = tt; object = tt; number = tt }
value_grown kinds more (v.Cell c) g h = record {
  there = below_more (length kinds) (length more) g.count c h.there;
  object = test_grown is_object kinds more c.0 g (ltb-true c.0 (length kinds) h.there) h.object;
  number = tt;
}

-- an object is a value
pub object_value : (kinds : List CellKind) (n : CellName) → FineObject kinds n → FineValue kinds (v.Cell n)
object_value kinds n h = record { there = lt-ltb n.0 (length kinds) h.there; object = h.object; number = tt }

-- ---- both forms of soundness

pub is_sound : (codes : ℕ) (H : Heap) → Sound codes H → IsSound codes H
unfolding SoundHeap
is_sound codes H s = s.is

start_value : (kinds : List CellKind) (n : ℕ) (k : CellKind) → slice_get kinds n ≡ Some k → is_object k ≡ true → FineValue kinds (v.Cell (cell n))
start_value kinds n k e o = record {
  there = let l = some_below kinds n k e in lt-ltb n (length kinds) l;
  object = ap (λ x. is_object (or_plain x)) e ∙ o;
  number = tt;
}

pub sound_of : (codes : ℕ) (H : Heap) → IsSound codes H → Sound codes H
unfolding SoundHeap
sound_of codes H s = record {
  is = s;
  room = s.sums.count;
  objects = start_value H.kinds 3 kind.Plain (kind-start H.kinds s.start 3 kind.Plain refl) refl;
  functions = start_value H.kinds 4 kind.Plain (kind-start H.kinds s.start 4 kind.Plain refl) refl;
}

-- the scope around a scope is one, and of a lower number
pub outer_fine : (codes : ℕ) (H : Heap) (n outer : CellName) → Sound codes H → slice_get H.kinds n.0 ≡ Some (kind.Scope (Some outer)) → FineScope H.kinds outer
outer_fine codes H n outer sound e = record { scope = (is_sound codes H sound).kinds n.0 (kind.Scope (Some outer)) e }

pub outer_below : (codes : ℕ) (H : Heap) (n outer : CellName) → Sound codes H → slice_get H.kinds n.0 ≡ Some (kind.Scope (Some outer)) → outer.0 < n.0
outer_below codes H n outer sound e = ltb-true outer.0 n.0 ((is_sound codes H sound).valid.kinds n.0 (kind.Scope (Some outer)) e)

-- the scope of a function is one
pub function_scope : (codes : ℕ) (H : Heap) (n scope : CellName) (code : ℕ) → Sound codes H → slice_get H.kinds n.0 ≡ Some (kind.Fun code scope) → FineScope H.kinds scope
function_scope codes H n scope code sound e = record { scope = ((is_sound codes H sound).kinds n.0 (kind.Fun code scope) e).1 }

-- and its code is one of the page
pub function_code : (codes : ℕ) (H : Heap) (n scope : CellName) (code : ℕ) → Sound codes H → slice_get H.kinds n.0 ≡ Some (kind.Fun code scope) → code < codes
function_code codes H n scope code sound e = ((is_sound codes H sound).kinds n.0 (kind.Fun code scope) e).0
