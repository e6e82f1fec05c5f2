-- The built-in functions of lists (ECMA-262 5.1, 15.4; the order of their acts, and what they answer for
-- anything but a list, are this project's own).
use Rattle.std.specs.Prelude.{ℕ, zero, suc, ◌+◌, ◌-◌, ◌/◌, min, nat_lt, nat_abs, ℤ, pos, ◌+ℤ◌, int_lt, false, ◌||◌, List, [], ◌∷◌, map, length, reverse, drop, Option, Some, None, codes, if◌then◌else◌}
use Rattle.page_units.specs.declared.value.CellName.{CellName}
use Rattle.page_units.specs.declared.value.Value.{Value}
use Rattle.page_units.specs.declared.value.Value.TheVariants as v
use Rattle.cell_places.specs.declared.place.Slot.TheVariants as s
use Rattle.cell_places.specs.declared.answer.Answer.TheVariants as a
use Rattle.cell_places.specs.Kinds.{is_list}
use Rattle.cell_places.specs.Heap.{place}
use Rattle.js_rules.specs.Indices.{most_items}
use Rattle.js_rules.specs.Arguments.{arg}
use Rattle.js_rules.specs.Tasks.{Outcomes, made, SetLength, ToInteger, NeedFunction, PutItems, MoveItems, CopyItems, EndLength, ConcatAll, ItemTexts, ReverseItems, LookFor, ForEach, MapItems, FilterItems, SomeItem, EveryItem, Reduce}
use Rattle.js_rules.specs.Prog.{Prog, Ret, ◌>>=◌, ◌>>◌, look, put, part, bad_argument, too_long, number}
use Rattle.js_rules.specs.ListItems.{answers, undefined, count, indices, up_to, nat_or_zero, relative_index, on_list, new_list, item, joined_texts}
use Rattle.std.specs.Prelude.{unwrap_or}

-- Array (15.4.1)
abbrev pub array_items : List Value → Prog Outcomes
array_items args = new_list λ list. do
  part (PutItems list 0 args)
  answers (v.Cell list)

abbrev pub array_of_length : ℤ → Prog Outcomes
array_of_length n =
    if int_lt n (pos 0) || int_lt (pos most_items) n then too_long
    else (new_list λ list. do
      put (place list s.Length) (a.One (number n))
      answers (v.Cell list))

abbrev pub array : List Value → Prog Outcomes
array (v.Num n ∷ []) = array_of_length n
array args = array_items args

-- Array.isArray (15.4.3.2)
abbrev pub is_array : Value → Prog Outcomes
is_array (v.Cell c) = do
  kind ← look c
  answers (v.Bool (is_list kind))
is_array _ = answers (v.Bool false)

-- push (15.4.4.7)
abbrev pub push : Value → List Value → Prog Outcomes
push this args = on_list this λ c n. do
  part (PutItems c n args)
  answers (count (n + length args))

abbrev pub pop_from : CellName → ℕ → Prog Outcomes
pop_from c zero = undefined
pop_from c (suc n) = do
  x ← item c n
  part (SetLength c (pos n))
  answers (unwrap_or x v.Undefined)

-- pop (15.4.4.6)
abbrev pub pop : Value → Prog Outcomes
pop this = on_list this pop_from

-- each item to the index one lower
abbrev pub one_lower : List ℕ → List (ℕ × ℕ)
one_lower ks = map (λ k. (k, k - 1)) ks

abbrev pub shift_from : CellName → ℕ → Prog Outcomes
shift_from c zero = undefined
shift_from c (suc n) = do
  x ← item c 0
  part (MoveItems c (one_lower (indices 1 n)))
  part (SetLength c (pos n))
  answers (unwrap_or x v.Undefined)

-- shift (15.4.4.9)
abbrev pub shift : Value → Prog Outcomes
shift this = on_list this shift_from

-- each item to the index m higher, the last one first
abbrev pub higher : ℕ → List ℕ → List (ℕ × ℕ)
higher m ks = reverse (map (λ k. (k, k + m)) ks)

abbrev pub unshift_all : CellName → ℕ → List Value → Prog Outcomes
unshift_all c n args = do
  part (MoveItems c (higher (length args) (indices 0 n)))
  part (PutItems c 0 args)
  part (SetLength c (pos (n + length args)))
  answers (count (n + length args))

-- unshift (15.4.4.13)
abbrev pub unshift : Value → List Value → Prog Outcomes
unshift this [] = on_list this λ c n. answers (count n)
unshift this (x ∷ args) = on_list this λ c n.
    if nat_lt most_items (n + length (x ∷ args)) then too_long else unshift_all c n (x ∷ args)

-- where a part of n items ends, of which no end may be given
abbrev pub end_of : Value → ℕ → ℤ → ℕ
end_of v.Undefined n z = n
end_of _ n z = relative_index z n

-- slice (15.4.4.10)
abbrev pub slice : Value → List Value → Prog Outcomes
slice this args = on_list this λ c n. do
  from ← part (ToInteger (pos 0) (arg 0 args))
  until ← part (ToInteger (pos 0) (arg 1 args))
  new_list λ to. do
    part (CopyItems c (up_to (relative_index from n) (end_of (arg 1 args) n until)) to 0)
    part (EndLength to (end_of (arg 1 args) n until - relative_index from n))
    answers (v.Cell to)

-- how many items are taken out: without a second argument all
abbrev pub taken : List Value → ℕ → ℕ → ℤ → ℕ
taken [] n start z = 0
taken (x ∷ []) n start z = n - start
taken (x ∷ y ∷ more) n start z = min (if int_lt z (pos 0) then 0 else nat_abs z) (n - start)

-- The items after those that are taken, to their new places: rising where the list shrinks, falling where it grows.
abbrev pub moves : (start away new n : ℕ) → List (ℕ × ℕ)
moves start away new n =
    if nat_lt new away then map (λ k. (k + away, k + new)) (up_to start (n - away))
    else if nat_lt away new then reverse (map (λ k. (k + away, k + new)) (up_to start (n - away)))
    else []

abbrev pub splice_at : CellName → ℕ → ℕ → ℕ → List Value → Prog Outcomes
splice_at c n start away items =
    new_list λ to.
    if nat_lt most_items (n - away + length items) then too_long
    else (do
      part (CopyItems c (indices start away) to 0)
      part (EndLength to away)
      part (MoveItems c (moves start away (length items) n))
      part (PutItems c start items)
      part (SetLength c (pos (n - away + length items)))
      answers (v.Cell to))

-- splice (15.4.4.12)
abbrev pub splice : Value → List Value → Prog Outcomes
splice this args = on_list this λ c n. do
  start ← part (ToInteger (pos 0) (arg 0 args))
  away ← part (ToInteger (pos 0) (arg 1 args))
  splice_at c n (relative_index start n) (taken args n (relative_index start n) away) (drop 2 args)

-- concat (15.4.4.4)
abbrev pub concat : Value → List Value → Prog Outcomes
concat this args = on_list this λ c n. new_list λ to. do
  part (CopyItems c (indices 0 n) to 0)
  at ← part (ConcatAll to n args)
  part (EndLength to at)
  answers (v.Cell to)

abbrev pub join_by : List ℕ → CellName → ℕ → Prog Outcomes
join_by separator c n = do
  ts ← part (ItemTexts c (indices 0 n))
  Ret (made (joined_texts separator ts))

-- the separator is a text, or undefined
abbrev pub separator_of : Value → List ℕ
separator_of (v.Str t) = t
separator_of _ = codes ","

-- join (15.4.4.5)
abbrev pub join : Value → List Value → Prog Outcomes
join this args = on_list this (join_by (separator_of (arg 0 args)))

abbrev pub pairs : ℕ → List (ℕ × ℕ)
pairs n = map (λ k. (k, n - 1 - k)) (indices 0 (n / 2))

-- reverse (15.4.4.8)
abbrev pub reverse_list : Value → Prog Outcomes
reverse_list this = on_list this λ c n. do
  part (ReverseItems c (pairs n))
  answers this

-- indexOf (15.4.4.14)
abbrev pub list_index_of : Value → List Value → Prog Outcomes
list_index_of this args = on_list this λ c n. do
  start ← part (ToInteger (pos 0) (arg 1 args))
  found ← part (LookFor c (arg 0 args) (up_to (relative_index start n) n))
  answers found

-- the last index to look at, as how many indices there are up to it
abbrev pub back_from : ℤ → ℕ → ℕ
back_from z n =
    if int_lt z (pos 0) then nat_or_zero ((pos n +ℤ z) +ℤ pos 1) else min (nat_abs z + 1) n

-- lastIndexOf (15.4.4.15)
abbrev pub list_last_index_of : Value → List Value → Prog Outcomes
list_last_index_of this (x ∷ y ∷ more) = on_list this λ c n. do
  start ← part (ToInteger (pos 0) y)
  found ← part (LookFor c x (reverse (indices 0 (back_from start n))))
  answers found
list_last_index_of this args = on_list this λ c n. do
  found ← part (LookFor c (arg 0 args) (reverse (indices 0 n)))
  answers found

-- a list and a callback
abbrev pub with_callback : Value → List Value → (CellName → ℕ → Prog Outcomes) → Prog Outcomes
with_callback this args m = on_list this λ c n. do
  part (NeedFunction (arg 0 args))
  m c n

-- forEach (15.4.4.18)
abbrev pub for_each_of : Value → List Value → Prog Outcomes
for_each_of this args = with_callback this args λ c n. do
  part (ForEach (arg 0 args) (arg 1 args) c (indices 0 n))
  undefined

abbrev pub map_into : Value → List Value → CellName → ℕ → CellName → Prog Outcomes
map_into this args c n to = do
  part (MapItems (arg 0 args) (arg 1 args) c (indices 0 n) to)
  answers (v.Cell to)

-- the result has the same length
abbrev pub map_length : Value → List Value → CellName → ℕ → CellName → Prog Outcomes
map_length this args c zero to = map_into this args c 0 to
map_length this args c (suc n) to = do
  put (place to s.Length) (a.One (count (suc n)))
  map_into this args c (suc n) to

-- map (15.4.4.19)
abbrev pub map_of : Value → List Value → Prog Outcomes
map_of this args = with_callback this args λ c n. new_list λ to. map_length this args c n to

-- filter (15.4.4.20)
abbrev pub filter_of : Value → List Value → Prog Outcomes
filter_of this args = with_callback this args λ c n. new_list λ to. do
  part (FilterItems (arg 0 args) (arg 1 args) c (indices 0 n) to 0)
  answers (v.Cell to)

-- some (15.4.4.17)
abbrev pub some_of : Value → List Value → Prog Outcomes
some_of this args = with_callback this args λ c n. do
  found ← part (SomeItem (arg 0 args) (arg 1 args) c (indices 0 n))
  answers (v.Bool found)

-- every (15.4.4.16)
abbrev pub every_of : Value → List Value → Prog Outcomes
every_of this args = with_callback this args λ c n. do
  all ← part (EveryItem (arg 0 args) (arg 1 args) c (indices 0 n))
  answers (v.Bool all)

abbrev pub first_result : List Value → Option Value
first_result (f ∷ x ∷ more) = Some x
first_result _ = None

abbrev pub reduced : Option Value → Prog Outcomes
reduced None = bad_argument
reduced (Some x) = answers x

-- reduce (15.4.4.21)
abbrev pub reduce_of : Value → List Value → Prog Outcomes
reduce_of this args = with_callback this args λ c n. do
  x ← part (Reduce (arg 0 args) c (indices 0 n) (first_result args))
  reduced x
