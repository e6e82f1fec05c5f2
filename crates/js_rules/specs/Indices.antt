-- Keys that are indices of lists, and the order of keys (ECMA-262 5.1, 15.4; that an index has no upper end here, and
-- its order, are this project's own).
use Prim.Native.Char.{code}
use Rattle.std.specs.Prelude.{ℕ, Bool, false, not, ◌&&◌, ◌||◌, cond, ◌==◌, nat_lt, List, [], ◌∷◌, ◌++◌, length, filter, reverse, decimal, codes}
use Rattle.std.specs.List.{list_any}
use Rattle.std.specs.Str.{bytes_eq}
use Rattle.std.specs.Str.Parse.{digits_value}
use Rattle.js_ops.specs.TextNumbers.{is_digits}

-- how long a list may be
abbrev pub most_items : ℕ
most_items = 65536

abbrev pub begins_with_zero : List ℕ → Bool
begins_with_zero [] = false
begins_with_zero (c ∷ cs) = c == code "0"

-- an index: digits without a needless zero
abbrev pub is_index : List ℕ → Bool
is_index key = is_digits key && (not (begins_with_zero key) || length key == 1)

abbrev pub index_of : List ℕ → ℕ
index_of key = digits_value 10 key

-- the key of an index
abbrev pub key_of : ℕ → List ℕ
key_of n = decimal n

abbrev pub is_length : List ℕ → Bool
is_length key = bytes_eq key (codes "length")

abbrev pub is_prototype : List ℕ → Bool
is_prototype key = bytes_eq key (codes "prototype")

-- ---- lists of keys

abbrev pub has_key : List ℕ → List (List ℕ) → Bool
has_key key keys = list_any (λ k. bytes_eq k key) keys

-- the list without a key
abbrev pub without : List ℕ → List (List ℕ) → List (List ℕ)
without key keys = filter (λ k. not (bytes_eq k key)) keys

-- the first list, and after it the keys of the second that aren't in it
abbrev pub and_new : List (List ℕ) → List (List ℕ) → List (List ℕ)
and_new keys more = keys ++ filter (λ k. not (has_key k keys)) more

-- an index at its place among rising indices
abbrev pub index_among : List ℕ → List (List ℕ) → List (List ℕ)
index_among key [] = key ∷ []
index_among key (k ∷ keys) =
    cond (nat_lt (index_of key) (index_of k)) (key ∷ k ∷ keys) (k ∷ index_among key keys)

-- indices, rising
abbrev pub rising : List (List ℕ) → List (List ℕ)
rising [] = []
rising (k ∷ keys) = index_among k (rising keys)

-- the order of for-in (12.6.4): indices rising, then the others in order of insertion
abbrev pub in_order : List (List ℕ) → List (List ℕ)
in_order keys = rising (filter is_index keys) ++ filter (λ k. not (is_index k)) keys

-- ---- what a lower length removes

abbrev pub is_past : ℕ → List ℕ → Bool
is_past n key = is_index key && not (nat_lt (index_of key) n)

-- the indices at or past n, falling
abbrev pub falling_from : ℕ → List (List ℕ) → List (List ℕ)
falling_from n keys = reverse (rising (filter (is_past n) keys))

abbrev pub kept_below : ℕ → List (List ℕ) → List (List ℕ)
kept_below n keys = filter (λ k. not (is_past n k)) keys
