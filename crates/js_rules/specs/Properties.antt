-- Properties: read, written, deleted and listed (ECMA-262 5.1, 8.7, 8.12, 15.4.5 and 15.5.5), where every property is
-- writable data. Which places are asked, in which order, is this project's own.
use Rattle.std.specs.Prelude.{ℕ, ◌+◌, ℤ, pos, Bool, true, false, ◌||◌, nat_lt, nat_eq, int_lt, List, [], ◌∷◌, ◌++◌, length, Option, Some, None, slice_get, nat_abs, if◌then◌else◌}
use Rattle.page_units.specs.declared.value.CellName.{CellName}
use Rattle.page_units.specs.declared.value.Value.{Value}
use Rattle.page_units.specs.declared.value.Value.TheVariants as v
use Rattle.cell_places.specs.declared.place.Slot.TheVariants as s
use Rattle.cell_places.specs.declared.answer.Answer.{Answer}
use Rattle.cell_places.specs.declared.answer.Answer.TheVariants as a
use Rattle.cell_places.specs.declared.kind.CellKind.{CellKind}
use Rattle.cell_places.specs.declared.kind.CellKind.TheVariants as k
use Rattle.cell_places.specs.Kinds.{is_list}
use Rattle.cell_places.specs.Heap.{place, names_in, number_in}
use Rattle.cell_places.specs.Known.{string_prototype, number_prototype, boolean_prototype}
use Rattle.js_rules.specs.NodeKeys.{NodeKey, node_key}
use Rattle.js_rules.specs.Indices.{most_items, is_index, index_of, is_length, is_prototype, has_key, without, and_new, in_order, falling_from, kept_below}
use Rattle.js_rules.specs.Tasks.{Values, Nothing, Truths, Keys, Maybes, GetProperty, OwnProperty, PutProperty, SetLength, DropIndices, DeleteProperty, OwnKeys, ChainKeys, InChain, ToNumber, NodeProperty, PutNodeProperty}
use Rattle.js_rules.specs.Prog.{Prog, Ret, ◌>>=◌, ◌>>◌, ask, look, put, charge, tick, part, done, not_an_object, read_only, too_long, own, text, number, weight}
use Rattle.js_rules.specs.Stages.{is_property_built}
use Rattle.js_rules.specs.Prog.{not_built}
use Rattle.std.specs.Prelude.{is_some}
use Rattle.std.specs.Prelude.{unwrap_or}

-- ---- along the chain of prototypes

-- each prototype further is a step
abbrev pub further : Answer → List ℕ → Prog Maybes
further (a.One (v.Cell p)) key = do
  tick 1
  part (GetProperty p key)
further _ key = Ret None

abbrev pub own_or_further : CellName → List ℕ → Answer → Prog Maybes
own_or_further c key (a.One x) = Ret (Some x)
own_or_further c key _ = do
  prototype ← ask (place c s.Proto)
  further prototype key

abbrev pub length_property : CellName → Prog Maybes
length_property c = do
  n ← ask (place c s.Length)
  Ret (Some (number (number_in n)))

-- the own property, or else that of the prototypes
abbrev pub own_property : CellName → List ℕ → Prog Maybes
own_property c key = do
  x ← ask (own c key)
  own_or_further c key x

-- a list's `length` is its slot (15.4.5.2)
abbrev pub property_of_kind : CellKind → CellName → List ℕ → Prog Maybes
property_of_kind k.List c key =
    if is_length key then length_property c else part (OwnProperty c key)
property_of_kind _ c key = part (OwnProperty c key)

-- [[GetProperty]] (8.12.2): the value, or None where the chain has no such property
abbrev pub get_property : CellName → List ℕ → Prog Maybes
get_property c key = do
  kind ← look c
  property_of_kind kind c key

abbrev pub names_cell : CellName → Value → Bool
names_cell c (v.Cell d) = nat_eq c.0 d.0
names_cell c _ = false

abbrev pub in_further : Value → Answer → Prog Truths
in_further wanted (a.One (v.Cell p)) = do
  tick 1
  if names_cell p wanted then Ret true else part (InChain p wanted)
in_further wanted _ = Ret false

-- whether an object stands in the chain of another's prototypes (15.2.4.6, 15.3.5.3)
abbrev pub in_chain : CellName → Value → Prog Truths
in_chain c wanted = do
  prototype ← ask (place c s.Proto)
  in_further wanted prototype

-- ---- writing

-- a new property is added, its key as the last
abbrev pub add_property : CellName → List ℕ → Value → Prog Nothing
add_property c key x = do
  keys ← ask (place c s.Keys)
  charge (weight key)
  put (own c key) (a.One x)
  put (place c s.Keys) (a.Names (names_in keys ++ key ∷ []))

abbrev pub put_over : CellName → List ℕ → Value → Answer → Prog Nothing
put_over c key x (a.One y) = put (own c key) (a.One x)
put_over c key x _ = add_property c key x

-- [[Put]] (8.12.5)
abbrev pub put_own : CellName → List ℕ → Value → Prog Nothing
put_own c key x = do
  there ← ask (own c key)
  put_over c key x there

-- an index at or past the length raises it
abbrev pub raise_length : CellName → ℕ → ℤ → Prog Nothing
raise_length c index n =
    if int_lt (pos index) n then done
    else put (place c s.Length) (a.One (number (pos (index + 1))))

abbrev pub add_item : CellName → List ℕ → Value → Prog Nothing
add_item c key x = do
  keys ← ask (place c s.Keys)
  n ← ask (place c s.Length)
  charge (weight key)
  put (own c key) (a.One x)
  put (place c s.Keys) (a.Names (names_in keys ++ key ∷ []))
  raise_length c (index_of key) (number_in n)

abbrev pub put_item_over : CellName → List ℕ → Value → Answer → Prog Nothing
put_item_over c key x (a.One y) = put (own c key) (a.One x)
put_item_over c key x _ = add_item c key x

-- [[DefineOwnProperty]] of a list's index (15.4.5.1, step 4)
abbrev pub put_item : CellName → List ℕ → Value → Prog Nothing
put_item c key x = if nat_lt (index_of key) most_items then (do
  there ← ask (own c key)
  put_item_over c key x there) else too_long

-- a length is a number here
abbrev pub length_in : Value → ℤ
length_in (v.Num n) = n
length_in _ = pos 0

abbrev pub put_list : CellName → List ℕ → Value → Prog Nothing
put_list c key x =
    if is_length key then part (SetLength c (length_in x))
    else if is_index key then put_item c key x
    else put_own c key x

-- [[Put]] of an object; lists have rules of their own (15.4.5.1)
abbrev pub put_property : CellName → List ℕ → Value → Prog Nothing
put_property c key x = do
  kind ← look c
  if is_list kind then put_list c key x else put_own c key x

abbrev pub put_length : CellName → ℤ → Prog Nothing
put_length c n = put (place c s.Length) (a.One (number n))

-- indices at or past a lower length go, the greatest first
abbrev pub lower_length : CellName → ℤ → Prog Nothing
lower_length c n = do
  keys ← ask (place c s.Keys)
  part (DropIndices c (falling_from (nat_abs n) (names_in keys)))
  put (place c s.Keys) (a.Names (kept_below (nat_abs n) (names_in keys)))
  put_length c n

-- [[DefineOwnProperty]] of a list's `length` (15.4.5.1, step 3)
abbrev pub set_length : CellName → ℤ → Prog Nothing
set_length c n =
    if int_lt n (pos 0) || int_lt (pos most_items) n then too_long
    else (do
      old ← ask (place c s.Length)
      if int_lt n (number_in old) then lower_length c n else put_length c n)

abbrev pub drop_indices : CellName → List (List ℕ) → Prog Nothing
drop_indices c [] = done
drop_indices c (key ∷ more) = do
  put (own c key) a.Absent
  part (DropIndices c more)

-- ---- deleting

-- a property that can't be deleted
abbrev pub is_kept : CellKind → List ℕ → Bool
is_kept k.List key = is_length key
is_kept (k.Fun code scope) key = is_prototype key
is_kept _ key = false

-- the key goes too, unless the property isn't enumerable
abbrev pub drop_key : CellName → List ℕ → List (List ℕ) → Prog Values
drop_key c key keys = if has_key key keys then (do
  put (place c s.Keys) (a.Names (without key keys))
  Ret (v.Bool true)) else Ret (v.Bool true)

abbrev pub delete_own : CellName → List ℕ → Answer → Prog Values
delete_own c key (a.One x) = do
  keys ← ask (place c s.Keys)
  put (own c key) a.Absent
  drop_key c key (names_in keys)
delete_own c key _ = Ret (v.Bool true)

-- [[Delete]] (8.12.7)
abbrev pub delete_property : CellName → List ℕ → Prog Values
delete_property c key = do
  kind ← look c
  if is_kept kind key then read_only else (do
    there ← ask (own c key)
    delete_own c key there)

-- ---- keys

-- the enumerable own keys (12.6.4, 15.2.3.14)
abbrev pub own_keys : CellName → Prog Keys
own_keys c = do
  keys ← ask (place c s.Keys)
  Ret (in_order (names_in keys))

abbrev pub keys_further : List (List ℕ) → Answer → Prog Keys
keys_further keys (a.One (v.Cell p)) = do
  tick 1
  more ← part (ChainKeys p)
  Ret (and_new keys more)
keys_further keys _ = Ret keys

-- the keys of a chain, own before prototype, none twice
abbrev pub chain_keys : CellName → Prog Keys
chain_keys c = do
  keys ← part (OwnKeys c)
  prototype ← ask (place c s.Proto)
  keys_further keys prototype

-- ---- properties of any value (8.7)

abbrev pub read_from : CellName → List ℕ → Prog Values
read_from c key = do
  x ← part (GetProperty c key)
  Ret (unwrap_or x v.Undefined)

-- the unit at an index of a text, as a text (15.5.5.2)
abbrev pub unit_at : List ℕ → List ℕ → Option ℕ
unit_at t key = if is_index key then slice_get t (index_of key) else None

abbrev pub unit_or_further : List ℕ → Option ℕ → Prog Values
unit_or_further key (Some unit) = Ret (text (unit ∷ []))
unit_or_further key None = read_from string_prototype key

abbrev pub text_property : List ℕ → List ℕ → Prog Values
text_property t key =
    if is_length key then Ret (number (pos (length t))) else unit_or_further key (unit_at t key)

-- a built-in property of a node is never an own one, and throws where it isn't built yet
abbrev pub read_in : CellName → List ℕ → Option NodeKey → Prog Values
read_in c key None = read_from c key
read_in c key (Some x) = if is_property_built x then part (NodeProperty c x) else not_built

-- GetValue of a property (8.7.1)
abbrev pub get_value : Value → List ℕ → Prog Values
get_value v.Undefined key = not_an_object
get_value v.Null key = not_an_object
get_value (v.Bool b) key = read_from boolean_prototype key
get_value (v.Num n) key = read_from number_prototype key
get_value (v.Str t) key = text_property t key
get_value (v.Cell c) key = do
  kind ← look c
  read_in c key (node_key kind key)

-- a list's new length is a number first (15.4.5.1, 3.c)
abbrev pub put_in : CellKind → CellName → List ℕ → Value → Prog Nothing
put_in k.List c key x = if is_length key then (do
  n ← part (ToNumber x)
  part (PutProperty c key n)) else part (PutProperty c key x)
put_in _ c key x = part (PutProperty c key x)

abbrev pub write_in : CellKind → CellName → List ℕ → Value → Option NodeKey → Prog Nothing
write_in kind c key x None = put_in kind c key x
write_in kind c key x (Some y) =
    if is_property_built y then part (PutNodeProperty c y x) else not_built

-- PutValue of a property (8.7.2)
abbrev pub put_value : Value → List ℕ → Value → Prog Nothing
put_value (v.Cell c) key x = do
  kind ← look c
  write_in kind c key x (node_key kind key)
put_value _ key x = not_an_object

abbrev pub delete_in : CellName → List ℕ → Option NodeKey → Prog Values
delete_in c key None = part (DeleteProperty c key)
delete_in c key (Some x) = Ret (v.Bool true)

-- `delete` of a property (11.4.1); a text's own properties can't be deleted (15.5.5.2)
abbrev pub delete_value : Value → List ℕ → Prog Values
delete_value v.Undefined key = not_an_object
delete_value v.Null key = not_an_object
delete_value (v.Cell c) key = do
  kind ← look c
  delete_in c key (node_key kind key)
delete_value (v.Str t) key =
    if is_length key || is_some (unit_at t key) then read_only else Ret (v.Bool true)
delete_value _ key = Ret (v.Bool true)

-- [[HasProperty]] (8.12.6)
abbrev pub has_property : CellName → List ℕ → Prog Truths
has_property c key = do
  x ← part (GetProperty c key)
  Ret (is_some x)
