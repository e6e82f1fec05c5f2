-- JSON texts as trees, and how they are read (RFC 8259). That numbers are whole and in range, and that there
-- are at most 128 levels, is this project's own.
use Prim.Native.Char.{code}
use Rattle.std.specs.Prelude.{ℕ, zero, suc, ◌==◌, nat_lt, ℤ, pos, neg_ℤ, Bool, true, false, not, ◌&&◌, ◌||◌, List, [], ◌∷◌, length, take, drop, Option, Some, None, codes, if◌then◌else◌}
use Rattle.std.specs.List.{prefix_len}
use Rattle.std.specs.Char.{is_ascii_digit, digit_value}
use Rattle.std.specs.Str.Parse.{digits_value}
use Rattle.page_units.specs.declared.value.Value.{Value}
use Rattle.page_units.specs.declared.value.Value.TheVariants as v
use Rattle.js_ops.specs.Whole.{is_in_range}

mutual
  pub data Json : Type 0 where
    -- null, a truth value or a number
    scalar : Value → Json
    string : List ℕ → Json
    list : JsonList → Json
    object : JsonEntries → Json

  pub data JsonList : Type 0 where
    no_items : JsonList
    one_item : Json → JsonList → JsonList

  pub data JsonEntries : Type 0 where
    no_entries : JsonEntries
    one_entry : List ℕ → Json → JsonEntries → JsonEntries

abbrev pub is_space : ℕ → Bool
is_space c = c == code " " || c == code "\t" || c == code "\n" || c == code "\r"

abbrev pub after_spaces : List ℕ → List ℕ
after_spaces t = drop (prefix_len is_space t) t

-- what was read, and the units after it; None where nothing can be read
abbrev pub Read : Type 0 → Type 0
Read A = Option (A × List ℕ)

-- what comes after these units
abbrev pub after_prefix : List ℕ → List ℕ → Option (List ℕ)
after_prefix [] t = Some t
after_prefix (c ∷ cs) [] = None
after_prefix (c ∷ cs) (d ∷ t) = if c == d then after_prefix cs t else None

-- ---- texts

abbrev pub hex4 : ℕ → ℕ → ℕ → ℕ → Option ℕ
hex4 a b c d =
    if nat_lt (digit_value a) 16 && nat_lt (digit_value b) 16
    && nat_lt (digit_value c) 16 && nat_lt (digit_value d) 16
    then Some (digits_value 16 (a ∷ b ∷ c ∷ d ∷ [])) else None

abbrev pub short_escape : ℕ → Option ℕ
short_escape c =
    if c == code "\"" || c == code "\\" || c == code "/" then Some c
    else if c == code "b" then Some (code "\u{8}")
    else if c == code "f" then Some (code "\u{c}")
    else if c == code "n" then Some (code "\n")
    else if c == code "r" then Some (code "\r")
    else if c == code "t" then Some (code "\t")
    else None

abbrev pub with_unit : Option ℕ → Read (List ℕ) → Read (List ℕ)
with_unit None r = None
with_unit (Some c) None = None
with_unit (Some c) (Some r) = Some (c ∷ r.0, r.1)

-- the unit of the four hexadecimal digits that come first
abbrev pub hex_of : List ℕ → Option ℕ
hex_of (w ∷ x ∷ y ∷ z ∷ more) = hex4 w x y z
hex_of _ = None

-- what an escape stands for whose backslash comes before these units, and how many units it has after that
abbrev pub escaped : List ℕ → Option ℕ
escaped [] = None
escaped (c ∷ cs) = if c == code "u" then hex_of cs else short_escape c

abbrev pub escape_length : List ℕ → ℕ
escape_length [] = 0
escape_length (c ∷ cs) = if c == code "u" then 5 else 1

-- after the first quote; the next `skip` units belong to an escape that was read
abbrev pub read_units : (skip : ℕ) → List ℕ → Read (List ℕ)
read_units skip [] = None
read_units (suc n) (c ∷ cs) = read_units n cs
read_units zero (c ∷ cs) =
    if c == code "\"" then Some ([], cs)
    else if nat_lt c 32 then None
    else if c == code "\\" then with_unit (escaped cs) (read_units (escape_length cs) cs)
    else with_unit (Some c) (read_units zero cs)

-- ---- numbers

abbrev pub ends_number : List ℕ → Bool
ends_number [] = true
ends_number (c ∷ cs) = not (is_ascii_digit c || c == code "." || c == code "e" || c == code "E")

abbrev pub is_whole_digits : List ℕ → Bool
is_whole_digits [] = false
is_whole_digits (c ∷ cs) = not (c == code "0") || length cs == 0

abbrev pub signed : Bool → ℕ → ℤ
signed true n = neg_ℤ (pos n)
signed false n = pos n

abbrev pub read_digits : Bool → List ℕ → Read Json
read_digits minus t =
    let n = prefix_len is_ascii_digit t in
    if is_whole_digits (take n t) && ends_number (drop n t) && is_in_range (signed minus (digits_value 10 (take n t)))
    then Some (scalar (v.Num (signed minus (digits_value 10 (take n t)))), drop n t) else None

abbrev pub read_number : List ℕ → Read Json
read_number [] = None
read_number (c ∷ cs) = if c == code "-" then read_digits true cs else read_digits false (c ∷ cs)

-- ---- lists and objects, where V reads a value

abbrev pub as_string : Read (List ℕ) → Read Json
as_string None = None
as_string (Some r) = Some (string r.0, r.1)

abbrev pub closes : ℕ → List ℕ → Bool
closes close [] = false
closes close (c ∷ cs) = c == close

abbrev pub and_items : Json → Read JsonList → Read JsonList
and_items x None = None
and_items x (Some r) = Some (one_item x r.0, r.1)

abbrev pub and_entries : List ℕ → Json → Read JsonEntries → Read JsonEntries
and_entries key x None = None
and_entries key x (Some r) = Some (one_entry key x r.0, r.1)

-- after an item: `]`, or `,` and further items
abbrev pub after_item : (List ℕ → Read JsonList) → Read Json → Read JsonList
after_item more None = None
after_item more (Some r) =
    if closes (code "]") (after_spaces r.1) then Some (one_item r.0 no_items, drop 1 (after_spaces r.1))
    else if closes (code ",") (after_spaces r.1) then and_items r.0 (more (drop 1 (after_spaces r.1)))
    else None

-- at most so many items
abbrev pub read_items : (List ℕ → Read Json) → ℕ → List ℕ → Read JsonList
read_items V zero t = None
read_items V (suc n) t = after_item (read_items V n) (V t)

abbrev pub after_entry : (List ℕ → Read JsonEntries) → List ℕ → Read Json → Read JsonEntries
after_entry more key None = None
after_entry more key (Some r) =
    if closes (code "}") (after_spaces r.1) then Some (one_entry key r.0 no_entries, drop 1 (after_spaces r.1))
    else if closes (code ",") (after_spaces r.1) then and_entries key r.0 (more (drop 1 (after_spaces r.1)))
    else None

abbrev pub after_key : (List ℕ → Read Json) → (List ℕ → Read JsonEntries) → Read (List ℕ) →
    Read JsonEntries
after_key V more None = None
after_key V more (Some r) =
    if closes (code ":") (after_spaces r.1) then after_entry more r.0 (V (drop 1 (after_spaces r.1)))
    else None

abbrev pub read_entries : (List ℕ → Read Json) → ℕ → List ℕ → Read JsonEntries
read_entries V zero t = None
read_entries V (suc n) t =
    if closes (code "\"") (after_spaces t)
    then after_key V (read_entries V n) (read_units 0 (drop 1 (after_spaces t)))
    else None

abbrev pub as_list : Read JsonList → Read Json
as_list None = None
as_list (Some r) = Some (list r.0, r.1)

abbrev pub as_object : Read JsonEntries → Read Json
as_object None = None
as_object (Some r) = Some (object r.0, r.1)

abbrev pub read_list : (List ℕ → Read Json) → List ℕ → Read Json
read_list V t =
    if closes (code "]") (after_spaces t) then Some (list no_items, drop 1 (after_spaces t))
    else as_list (read_items V (length t) t)

abbrev pub read_object : (List ℕ → Read Json) → List ℕ → Read Json
read_object V t =
    if closes (code "}") (after_spaces t) then Some (object no_entries, drop 1 (after_spaces t))
    else as_object (read_entries V (length t) t)

abbrev pub as_word : Value → Option (List ℕ) → Read Json
as_word x None = None
as_word x (Some rest) = Some (scalar x, rest)

abbrev pub word : List ℕ → Value → List ℕ → Read Json
word w x t = as_word x (after_prefix w t)

-- a value that comes first; a list or an object only where levels are left
abbrev pub read_at : (List ℕ → Read Json) → Bool → List ℕ → Read Json
read_at V nests [] = None
read_at V nests (c ∷ cs) =
    if c == code "\"" then as_string (read_units 0 cs)
    else if c == code "[" then (if nests then read_list V cs else None)
    else if c == code "{" then (if nests then read_object V cs else None)
    else if c == code "t" then word (codes "true") (v.Bool true) (c ∷ cs)
    else if c == code "f" then word (codes "false") (v.Bool false) (c ∷ cs)
    else if c == code "n" then word (codes "null") v.Null (c ∷ cs)
    else read_number (c ∷ cs)

-- with so many levels of lists and objects
abbrev pub read_value : (levels : ℕ) → List ℕ → Read Json
read_value zero t = read_at (λ u. None) false (after_spaces t)
read_value (suc n) t = read_at (read_value n) true (after_spaces t)

abbrev pub all_read : Read Json → Option Json
all_read None = None
all_read (Some r) = if length (after_spaces r.1) == 0 then Some r.0 else None

-- the tree of a whole text
abbrev pub read_json : List ℕ → Option Json
read_json t = all_read (read_value 128 t)
