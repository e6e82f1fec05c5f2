-- What may be put at a cell of which its class is known.
use Rattle.std.proofs.Common.{◌≡◌, ℕ, ℤ, pos, ◌≤ℤ◌, true, List, length, Some, slice_get, refl, arith}
use Rattle.std.proofs.lemmas.Int.{ints}
use Rattle.page_units.specs.declared.value.CellName.{CellName}
use Rattle.page_units.specs.declared.value.Value.{Value}
use Rattle.page_units.specs.declared.value.Value.TheVariants as v
use Rattle.page_units.specs.Numbers.{IsNumber}
use Rattle.cell_places.specs.declared.place.Slot.TheVariants as s
use Rattle.cell_places.specs.declared.answer.Answer.TheVariants as a
use Rattle.cell_places.specs.declared.answer.Listener.{Listener}
use Rattle.cell_places.specs.declared.answer.Timer.{Timer}
use Rattle.cell_places.specs.declared.answer.Guess.{Guess}
use Rattle.cell_places.specs.declared.kind.CellKind.{CellKind}
use Rattle.cell_places.specs.declared.kind.CellKind.TheVariants as kind
use Rattle.cell_places.specs.Lists.{Every}
use Rattle.cell_places.specs.Kinds.{is_list, is_scope, is_event, is_element, is_chars, is_object, is_parent, is_node}
use Rattle.cell_places.specs.Slots.{suits_one, reference}
use Rattle.cell_places.specs.Heap.{place, kind_in}
use Rattle.cell_places.specs.Within.{NameIn, OptionIn, is_below}
use Rattle.cell_places.specs.Valid.{CanPutIn}
use Rattle.cell_places.specs.Start.{page_cell}
use Rattle.cell_places.specs.Fine.{FineValue, FineScope, FineObject}
use Rattle.cell_places.proofs.Fine.{some_kind, test_there}

-- ---- objects and scopes

pub can_put_own : (kinds : List CellKind) (n : CellName) (key : List ℕ) (x : Value) → FineObject kinds n → FineValue kinds x → CanPutIn kinds (place n (s.Own key)) (a.One x)
can_put_own kinds n key x object fine = record {
  there = test_there is_object kinds n.0 object.there object.object;
  suits = refl;
  names = fine.there;
  numbers = fine.number;
}

-- a property that is taken away
pub can_drop_own : (kinds : List CellKind) (n : CellName) (key : List ℕ) → FineObject kinds n → CanPutIn kinds (place n (s.Own key)) a.Absent
can_drop_own kinds n key object = record {
  there = test_there is_object kinds n.0 object.there object.object;
  suits = refl;
  names = tt;
  numbers = tt;
}

pub can_put_keys : (kinds : List CellKind) (n : CellName) (keys : List (List ℕ)) → FineObject kinds n → CanPutIn kinds (place n s.Keys) (a.Names keys)
can_put_keys kinds n keys object = record {
  there = test_there is_object kinds n.0 object.there object.object;
  suits = refl;
  names = tt;
  numbers = tt;
}

pub can_put_proto : (kinds : List CellKind) (n : CellName) (x : Value) → FineObject kinds n → FineValue kinds x → suits_one reference x ≡ true → CanPutIn kinds (place n s.Proto) (a.One x)
can_put_proto kinds n x object fine is = record {
  there = test_there is_object kinds n.0 object.there object.object;
  suits = is;
  names = fine.there;
  numbers = fine.number;
}

pub can_put_bind : (kinds : List CellKind) (n : CellName) (name : List ℕ) (x : Value) → FineScope kinds n → FineValue kinds x → CanPutIn kinds (place n (s.Bind name)) (a.One x)
can_put_bind kinds n name x scope fine = record {
  there = some_kind is_scope refl (slice_get kinds n.0) scope.scope;
  suits = refl;
  names = fine.there;
  numbers = fine.number;
}

-- ---- numbers

number_small : (z : ℤ) → pos 0 ≤ℤ z → z ≤ℤ pos 9007199254740991 → IsNumber z
number_small z low high = record { least = omega (arith, ints); greatest = high }

pub can_put_length : (kinds : List CellKind) (n : CellName) (z : ℤ) → is_list (kind_in kinds n) ≡ true → pos 0 ≤ℤ z → z ≤ℤ pos 65536 → CanPutIn kinds (place n s.Length) (a.One (v.Num z))
can_put_length kinds n z list low high = record {
  there = some_kind is_list refl (slice_get kinds n.0) list;
  suits = refl;
  names = tt;
  numbers = number_small z low (omega (arith, ints));
}

pub can_put_flags : (kinds : List CellKind) (n : CellName) (z : ℤ) → is_event (kind_in kinds n) ≡ true → IsNumber z → CanPutIn kinds (place n s.Flags) (a.One (v.Num z))
can_put_flags kinds n z event number = record {
  there = some_kind is_event refl (slice_get kinds n.0) event;
  suits = refl;
  names = tt;
  numbers = number;
}

-- ---- nodes

pub can_put_parent : (kinds : List CellKind) (n : CellName) (x : Value) → is_node (kind_in kinds n) ≡ true → FineValue kinds x → suits_one reference x ≡ true → CanPutIn kinds (place n s.Parent) (a.One x)
can_put_parent kinds n x node fine is = record {
  there = some_kind is_node refl (slice_get kinds n.0) node;
  suits = is;
  names = fine.there;
  numbers = fine.number;
}

pub can_put_children : (kinds : List CellKind) (n : CellName) (cs : List CellName) → is_parent (kind_in kinds n) ≡ true → Every (NameIn (is_below (length kinds))) cs → CanPutIn kinds (place n s.Children) (a.Cells cs)
can_put_children kinds n cs parent names = record {
  there = some_kind is_parent refl (slice_get kinds n.0) parent;
  suits = refl;
  names = names;
  numbers = tt;
}

pub can_put_chars : (kinds : List CellKind) (n : CellName) (units : List ℕ) → is_chars (kind_in kinds n) ≡ true → CanPutIn kinds (place n s.Chars) (a.One (v.Str units))
can_put_chars kinds n units chars = record {
  there = some_kind is_chars refl (slice_get kinds n.0) chars;
  suits = refl;
  names = tt;
  numbers = tt;
}

pub can_put_attribute : (kinds : List CellKind) (n : CellName) (name units : List ℕ) → is_element (kind_in kinds n) ≡ true → CanPutIn kinds (place n (s.Attr name)) (a.One (v.Str units))
can_put_attribute kinds n name units element = record {
  there = some_kind is_element refl (slice_get kinds n.0) element;
  suits = refl;
  names = tt;
  numbers = tt;
}

pub can_drop_attribute : (kinds : List CellKind) (n : CellName) (name : List ℕ) → is_element (kind_in kinds n) ≡ true → CanPutIn kinds (place n (s.Attr name)) a.Absent
can_drop_attribute kinds n name element = record {
  there = some_kind is_element refl (slice_get kinds n.0) element;
  suits = refl;
  names = tt;
  numbers = tt;
}

pub can_put_attribute_names : (kinds : List CellKind) (n : CellName) (names : List (List ℕ)) → is_element (kind_in kinds n) ≡ true → CanPutIn kinds (place n s.AttrNames) (a.Names names)
can_put_attribute_names kinds n names element = record {
  there = some_kind is_element refl (slice_get kinds n.0) element;
  suits = refl;
  names = tt;
  numbers = tt;
}

pub can_put_heard : (kinds : List CellKind) (n : CellName) (next : ℕ) (ls : List Listener) → is_parent (kind_in kinds n) ≡ true → Every (λ (l : Listener). NameIn (is_below (length kinds)) l.callback) ls → CanPutIn kinds (place n s.Heard) (a.Heard next ls)
can_put_heard kinds n next ls parent names = record {
  there = some_kind is_parent refl (slice_get kinds n.0) parent;
  suits = refl;
  names = names;
  numbers = tt;
}

-- ---- the page

-- the second cell is the page
pub record HasPage (kinds : List CellKind) : Type 0 where
  pub page : slice_get kinds 1 ≡ Some kind.Page

pub can_put_clock : (kinds : List CellKind) (z : ℤ) → HasPage kinds → pos 0 ≤ℤ z → z ≤ℤ pos 9007199254740991 → CanPutIn kinds (place page_cell s.Clock) (a.One (v.Num z))
can_put_clock kinds z has low high = record {
  there = (kind.Page, has.page, refl);
  suits = refl;
  names = tt;
  numbers = number_small z low high;
}

pub can_put_next_timer : (kinds : List CellKind) (z : ℤ) → HasPage kinds → IsNumber z → CanPutIn kinds (place page_cell s.NextTimer) (a.One (v.Num z))
can_put_next_timer kinds z has number = record {
  there = (kind.Page, has.page, refl);
  suits = refl;
  names = tt;
  numbers = number;
}

pub can_put_next_guess : (kinds : List CellKind) (z : ℤ) → HasPage kinds → IsNumber z → CanPutIn kinds (place page_cell s.NextGuess) (a.One (v.Num z))
can_put_next_guess kinds z has number = record {
  there = (kind.Page, has.page, refl);
  suits = refl;
  names = tt;
  numbers = number;
}

pub can_put_timers : (kinds : List CellKind) (ts : List Timer) → HasPage kinds → Every (λ (t : Timer). NameIn (is_below (length kinds)) t.callback) ts → Every (λ (t : Timer). IsNumber t.id × IsNumber t.due) ts → CanPutIn kinds (place page_cell s.Timers) (a.Timers ts)
can_put_timers kinds ts has names numbers = record {
  there = (kind.Page, has.page, refl);
  suits = refl;
  names = names;
  numbers = numbers;
}

pub can_put_guesses : (kinds : List CellKind) (gs : List Guess) → HasPage kinds → Every (λ (g : Guess). OptionIn (is_below (length kinds)) g.mutator × OptionIn (is_below (length kinds)) g.sketch) gs → Every (λ (g : Guess). IsNumber g.id) gs → CanPutIn kinds (place page_cell s.Guesses) (a.Guesses gs)
can_put_guesses kinds gs has names numbers = record {
  there = (kind.Page, has.page, refl);
  suits = refl;
  names = names;
  numbers = numbers;
}
