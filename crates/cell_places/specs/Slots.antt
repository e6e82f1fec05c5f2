-- Which kinds have which slot, and which answers suit it (this project's own).
use Rattle.std.specs.Prelude.{Bool, true, false}
use Rattle.page_units.specs.declared.value.Value.{Value}
use Rattle.page_units.specs.declared.value.Value.TheVariants as v
use Rattle.cell_places.specs.declared.kind.CellKind.{CellKind}
use Rattle.cell_places.specs.declared.place.Slot.{Slot}
use Rattle.cell_places.specs.declared.place.Slot.TheVariants as s
use Rattle.cell_places.specs.declared.answer.Answer.{Answer}
use Rattle.cell_places.specs.declared.answer.Answer.TheVariants as a
use Rattle.cell_places.specs.Kinds.{is_scope, is_page, is_list, is_event, is_element, is_chars, is_object, is_parent, is_node}

-- the kind has the slot
abbrev pub has_slot : CellKind → Slot → Bool
has_slot k (s.Own key) = is_object k
has_slot k s.Keys = is_object k
has_slot k s.Proto = is_object k
has_slot k s.Length = is_list k
has_slot k (s.Bind name) = is_scope k
has_slot k s.Parent = is_node k
has_slot k s.Children = is_parent k
has_slot k (s.Attr name) = is_element k
has_slot k s.AttrNames = is_element k
has_slot k s.Chars = is_chars k
has_slot k s.Heard = is_parent k
has_slot k s.Flags = is_event k
has_slot k s.Clock = is_page k
has_slot k s.NextTimer = is_page k
has_slot k s.Timers = is_page k
has_slot k s.NextGuess = is_page k
has_slot k s.Guesses = is_page k

-- what a slot holds
pub data Sort : Type 0 where
  value reference number text names cells heard timers guesses : Sort

abbrev pub sort_of : Slot → Sort
sort_of (s.Own key) = value
sort_of s.Keys = names
sort_of s.Proto = reference
sort_of s.Length = number
sort_of (s.Bind name) = value
sort_of s.Parent = reference
sort_of s.Children = cells
sort_of (s.Attr name) = text
sort_of s.AttrNames = names
sort_of s.Chars = text
sort_of s.Heard = heard
sort_of s.Flags = number
sort_of s.Clock = number
sort_of s.NextTimer = number
sort_of s.Timers = timers
sort_of s.NextGuess = number
sort_of s.Guesses = guesses

-- a value; a cell or null; a number; a text
abbrev pub suits_one : Sort → Value → Bool
suits_one value x = true
suits_one reference (v.Cell c) = true
suits_one reference v.Null = true
suits_one number (v.Num n) = true
suits_one text (v.Str t) = true
suits_one _ _ = false

-- Absent suits every slot.
abbrev pub suits : Sort → Answer → Bool
suits sort a.Absent = true
suits sort (a.One x) = suits_one sort x
suits names (a.Names ns) = true
suits cells (a.Cells cs) = true
suits heard (a.Heard next ls) = true
suits timers (a.Timers ts) = true
suits guesses (a.Guesses gs) = true
suits _ _ = false
