-- The items of lists, and the loops over them (ECMA-262 5.1, 15.4; the order of the acts is this project's own).
use Rattle.std.specs.Prelude.{ℕ, zero, suc, ◌+◌, ◌-◌, ◌==◌, min, nat_abs, ℤ, pos, ◌+ℤ◌, ◌-ℤ◌, int_lt, List, [], ◌∷◌, ◌++◌, Option, Some, None, if◌then◌else◌}
use Rattle.page_units.specs.declared.value.CellName.{CellName}
use Rattle.page_units.specs.declared.value.Value.{Value}
use Rattle.page_units.specs.declared.value.Value.TheVariants as v
use Rattle.cell_places.specs.declared.place.Slot.TheVariants as s
use Rattle.cell_places.specs.declared.kind.CellKind.TheVariants as k
use Rattle.cell_places.specs.Kinds.{is_list, is_function}
use Rattle.cell_places.specs.Heap.{place, number_in}
use Rattle.js_ops.specs.Conversions.{truth}
use Rattle.cell_places.specs.Known.{list_prototype}
use Rattle.js_rules.specs.Indices.{key_of}
use Rattle.js_rules.specs.Tasks.{Kind, Values, Nothing, Keys, Lists, Maybes, Counts, Outcomes, plain, GetProperty, PutProperty, DeleteProperty, SetLength, NewObject, ToText, IsSame, ListLength, PutItems, PutPieces, PlaceItem, MoveItems, CopyItems, ConcatAll, ItemTexts, ReverseItems, LookFor, ListItems}
use Rattle.js_rules.specs.Prog.{Prog, Ret, ◌>>=◌, ◌>>◌, ask, look, charge, tick, part, done, not_a_function, bad_argument, number, weight}
use Rattle.std.specs.Prelude.{unwrap_or}

-- ---- results, indices and lists

-- a function gives this value
abbrev pub answers : Value → Prog Outcomes
answers x = Ret (plain x)

abbrev pub undefined : Prog Outcomes
undefined = answers v.Undefined

abbrev pub count : ℕ → Value
count n = number (pos n)

-- so many indices, from k on
abbrev pub indices : ℕ → ℕ → List ℕ
indices k zero = []
indices k (suc n) = k ∷ indices (k + 1) n

-- from k up to and without n
abbrev pub up_to : ℕ → ℕ → List ℕ
up_to k n = indices k (n - k)

abbrev pub nat_or_zero : ℤ → ℕ
nat_or_zero z = if int_lt z (pos 0) then 0 else nat_abs z

-- a place counted from the end where it is negative, within the length
abbrev pub relative_index : ℤ → ℕ → ℕ
relative_index z n = if int_lt z (pos 0) then nat_or_zero (pos n +ℤ z) else min (nat_abs z) n

-- a callback must be a function
abbrev pub need_function : Value → Prog Nothing
need_function (v.Cell f) = do
  kind ← look f
  if is_function kind then done else not_a_function
need_function _ = not_a_function

-- the length of a list, which is asked first
abbrev pub list_length : CellName → Prog Counts
list_length c = do
  kind ← look c
  if is_list kind then (do
    n ← ask (place c s.Length)
    Ret (nat_abs (number_in n))) else bad_argument

-- what is done on a list of this length
abbrev pub on_list : {K : Kind} → Value → (CellName → ℕ → Prog K) → Prog K
on_list (v.Cell c) m = do
  n ← part (ListLength c)
  m c n
on_list _ m = bad_argument

-- what is done with a new list
abbrev pub new_list : {K : Kind} → (CellName → Prog K) → Prog K
new_list m = part (NewObject k.List (v.Cell list_prototype)) >>= m

-- the step of an item, and what stands there
abbrev pub item : CellName → ℕ → Prog Maybes
item c k = do
  tick 1
  part (GetProperty c (key_of k))

abbrev pub put_at : CellName → ℕ → Value → Prog Nothing
put_at c k x = part (PutProperty c (key_of k) x)

-- an absent item that is copied stays absent
abbrev pub place_item : CellName → ℕ → Option Value → Prog Nothing
place_item c k (Some x) = put_at c k x
place_item c k None = do
  part (DeleteProperty c (key_of k))
  done

-- ---- loops over items

abbrev pub put_items : CellName → ℕ → List Value → Prog Nothing
put_items c k [] = done
put_items c k (x ∷ more) = do
  tick 1
  put_at c k x
  part (PutItems c (k + 1) more)

abbrev pub put_pieces : CellName → ℕ → List (List ℕ) → Prog Nothing
put_pieces c k [] = done
put_pieces c k (t ∷ more) = do
  charge (weight t)
  tick 1
  put_at c k (v.Str t)
  part (PutPieces c (k + 1) more)

-- each item from one index to another
abbrev pub move_items : CellName → List (ℕ × ℕ) → Prog Nothing
move_items c [] = done
move_items c (m ∷ more) = do
  x ← item c m.0
  part (PlaceItem c m.1 x)
  part (MoveItems c more)

abbrev pub copy_then : CellName → List ℕ → CellName → ℕ → Option Value → Prog Nothing
copy_then c more to at (Some x) = do
  put_at to at x
  part (CopyItems c more to (at + 1))
copy_then c more to at None = part (CopyItems c more to (at + 1))

abbrev pub copy_items : CellName → List ℕ → CellName → ℕ → Prog Nothing
copy_items c [] to at = done
copy_items c (k ∷ more) to at = do
  x ← item c k
  copy_then c more to at x

-- a new list's length counts absent places too
abbrev pub end_length : CellName → ℕ → Prog Nothing
end_length c n = do
  old ← ask (place c s.Length)
  if nat_abs (number_in old) == n then done else part (SetLength c (pos n))

abbrev pub concat_one : CellName → ℕ → Value → List Value → Prog Counts
concat_one to at x more = do
  tick 1
  put_at to at x
  part (ConcatAll to (at + 1) more)

abbrev pub concat_list : CellName → ℕ → CellName → List Value → Prog Counts
concat_list to at c more = do
  n ← part (ListLength c)
  part (CopyItems c (indices 0 n) to at)
  part (ConcatAll to (at + n) more)

-- lists among the arguments are spread
abbrev pub concat_all : CellName → ℕ → List Value → Prog Counts
concat_all to at [] = Ret at
concat_all to at (v.Cell c ∷ more) = do
  kind ← look c
  if is_list kind then concat_list to at c more else concat_one to at (v.Cell c) more
concat_all to at (x ∷ more) = concat_one to at x more

abbrev pub item_text : CellName → List ℕ → Value → Prog Keys
item_text c more v.Undefined = do
  ts ← part (ItemTexts c more)
  Ret ([] ∷ ts)
item_text c more v.Null = do
  ts ← part (ItemTexts c more)
  Ret ([] ∷ ts)
item_text c more x = do
  t ← part (ToText x)
  ts ← part (ItemTexts c more)
  Ret (t ∷ ts)

-- the texts of items; undefined, null and absent are empty
abbrev pub item_texts : CellName → List ℕ → Prog Keys
item_texts c [] = Ret []
item_texts c (k ∷ more) = do
  x ← item c k
  item_text c more (unwrap_or x v.Undefined)

abbrev pub joined_texts : List ℕ → List (List ℕ) → List ℕ
joined_texts separator [] = []
joined_texts separator (t ∷ []) = t
joined_texts separator (t ∷ u ∷ more) = t ++ separator ++ joined_texts separator (u ∷ more)

-- two items change places; an absent one takes its absence along
abbrev pub reverse_items : CellName → List (ℕ × ℕ) → Prog Nothing
reverse_items c [] = done
reverse_items c (m ∷ more) = do
  x ← item c m.0
  y ← item c m.1
  part (PlaceItem c m.0 y)
  part (PlaceItem c m.1 x)
  part (ReverseItems c more)

abbrev pub look_on : CellName → Value → ℕ → List ℕ → Option Value → Prog Values
look_on c x k more None = part (LookFor c x more)
look_on c x k more (Some y) = do
  same ← part (IsSame y x)
  if truth same then Ret (count k) else part (LookFor c x more)

-- the first of these indices that is there and `===`
abbrev pub look_for : CellName → Value → List ℕ → Prog Values
look_for c x [] = Ret (number (pos 0 -ℤ pos 1))
look_for c x (k ∷ more) = do
  y ← item c k
  look_on c x k more y

-- the items, absent ones as undefined
abbrev pub list_items : CellName → List ℕ → Prog Lists
list_items c [] = Ret []
list_items c (k ∷ more) = do
  x ← item c k
  xs ← part (ListItems c more)
  Ret (unwrap_or x v.Undefined ∷ xs)
