-- The built-in functions of lists that call a function for each item (ECMA-262 5.1, 15.4.4.16 to 15.4.4.21):
-- their loops.
use Rattle.std.specs.Prelude.{ℕ, ◌+◌, true, false, List, [], ◌∷◌, Option, Some, None, if◌then◌else◌}
use Rattle.page_units.specs.declared.value.CellName.{CellName}
use Rattle.page_units.specs.declared.value.Value.{Value}
use Rattle.page_units.specs.declared.value.Value.TheVariants as v
use Rattle.js_ops.specs.Conversions.{truth}
use Rattle.js_rules.specs.Tasks.{Values, Nothing, Truths, Maybes, Call, ForEach, MapItems, FilterItems, SomeItem, EveryItem, Reduce}
use Rattle.js_rules.specs.Prog.{Prog, Ret, ◌>>=◌, ◌>>◌, part, done}
use Rattle.js_rules.specs.ListItems.{count, item, put_at}

-- Each index is read before its callback is called; an absent one is skipped.

-- a call with the item, its index and the list
abbrev pub callback : Value → Value → CellName → ℕ → Value → Prog Values
callback f this c k x = part (Call f this (x ∷ count k ∷ v.Cell c ∷ []))

abbrev pub for_each_then : Value → Value → CellName → ℕ → List ℕ → Option Value → Prog Nothing
for_each_then f this c k more None = part (ForEach f this c more)
for_each_then f this c k more (Some x) = do
  callback f this c k x
  part (ForEach f this c more)

abbrev pub for_each : Value → Value → CellName → List ℕ → Prog Nothing
for_each f this c [] = done
for_each f this c (k ∷ more) = do
  x ← item c k
  for_each_then f this c k more x

abbrev pub map_then : Value → Value → CellName → ℕ → List ℕ → CellName → Option Value → Prog Nothing
map_then f this c k more to None = part (MapItems f this c more to)
map_then f this c k more to (Some x) = do
  y ← callback f this c k x
  put_at to k y
  part (MapItems f this c more to)

abbrev pub map_items : Value → Value → CellName → List ℕ → CellName → Prog Nothing
map_items f this c [] to = done
map_items f this c (k ∷ more) to = do
  x ← item c k
  map_then f this c k more to x

abbrev pub filter_then : Value → Value → CellName → ℕ → List ℕ → CellName → ℕ → Option Value →
    Prog Nothing
filter_then f this c k more to at None = part (FilterItems f this c more to at)
filter_then f this c k more to at (Some x) = do
  y ← callback f this c k x
  if truth y
      then (put_at to at x >> part (FilterItems f this c more to (at + 1)))
      else part (FilterItems f this c more to at)

abbrev pub filter_items : Value → Value → CellName → List ℕ → CellName → ℕ → Prog Nothing
filter_items f this c [] to at = done
filter_items f this c (k ∷ more) to at = do
  x ← item c k
  filter_then f this c k more to at x

abbrev pub some_then : Value → Value → CellName → ℕ → List ℕ → Option Value → Prog Truths
some_then f this c k more None = part (SomeItem f this c more)
some_then f this c k more (Some x) = do
  y ← callback f this c k x
  if truth y then Ret true else part (SomeItem f this c more)

abbrev pub some_item : Value → Value → CellName → List ℕ → Prog Truths
some_item f this c [] = Ret false
some_item f this c (k ∷ more) = do
  x ← item c k
  some_then f this c k more x

abbrev pub every_then : Value → Value → CellName → ℕ → List ℕ → Option Value → Prog Truths
every_then f this c k more None = part (EveryItem f this c more)
every_then f this c k more (Some x) = do
  y ← callback f this c k x
  if truth y then part (EveryItem f this c more) else Ret false

abbrev pub every_item : Value → Value → CellName → List ℕ → Prog Truths
every_item f this c [] = Ret true
every_item f this c (k ∷ more) = do
  x ← item c k
  every_then f this c k more x

abbrev pub reduce_then : Value → CellName → ℕ → List ℕ → Option Value → Option Value → Prog Maybes
reduce_then f c k more so_far None = part (Reduce f c more so_far)
reduce_then f c k more None (Some x) = part (Reduce f c more (Some x))
reduce_then f c k more (Some y) (Some x) = do
  z ← part (Call f v.Undefined (y ∷ x ∷ count k ∷ v.Cell c ∷ []))
  part (Reduce f c more (Some z))

abbrev pub reduce : Value → CellName → List ℕ → Option Value → Prog Maybes
reduce f c [] so_far = Ret so_far
reduce f c (k ∷ more) so_far = do
  x ← item c k
  reduce_then f c k more so_far x
