-- Examples of the definitions of texts, numbers, keys and JSON, each by computation.
use Rattle.std.specs.Prelude.{pos, negsuc, true, false, [], ◌∷◌, Some, None, codes, ◌≡◌, refl}
use Rattle.page_units.specs.declared.value.Value.TheVariants as v
use Rattle.js_rules.specs.Indices.{is_index, in_order}
use Rattle.js_rules.specs.JsonTrees.{scalar, string, list, object, no_items, one_item, no_entries, one_entry, read_json}
use Rattle.js_rules.specs.Json.{quoted}
use Rattle.js_rules.specs.Numbers.{parsed, whole_power}
use Rattle.js_rules.specs.Texts.{first_place, last_from, split_by, replaced, unit_of}
use Rattle.js_rules.specs.NodeFunctions.{is_node_name, lowered}

quoted_escapes : quoted (codes "a\"\\\n\u{1f}\u{8}") ≡ codes "\"a\\\"\\\\\\n\\u001f\\b\""
quoted_escapes = refl

read_list : read_json (codes " [1, -20 ,\"\\u0041/\"] ") ≡
    Some (list (one_item (scalar (v.Num (pos 1)))
    (one_item (scalar (v.Num (negsuc 19))) (one_item (string (codes "A/")) no_items))))
read_list = refl

read_object : read_json (codes "{\"a\":{},\"b\" : [ ]}") ≡
    Some (object (one_entry (codes "a") (object no_entries) (one_entry (codes "b") (list no_items) no_entries)))
read_object = refl

read_literals : read_json (codes "[true,null]") ≡
    Some (list (one_item (scalar (v.Bool true)) (one_item (scalar v.Null) no_items)))
read_literals = refl

no_needless_zero : read_json (codes "01") ≡ None
no_needless_zero = refl

no_point : read_json (codes "1.0") ≡ None
no_point = refl

no_trailing_comma : read_json (codes "[1,]") ≡ None
no_trailing_comma = refl

no_control : read_json (codes "\"\n\"") ≡ None
no_control = refl

no_short_hex : read_json (codes "\"\\u004g\"") ≡ None
no_short_hex = refl

parsed_hex : parsed (codes " 0x1F!") (pos 0) ≡ Some (pos 31)
parsed_hex = refl

parsed_binary : parsed (codes "-1012") (pos 2) ≡ Some (negsuc 4)
parsed_binary = refl

parsed_nothing : parsed (codes "x1") (pos 10) ≡ None
parsed_nothing = refl

parsed_radix : parsed (codes "1") (pos 37) ≡ None
parsed_radix = refl

power_in_range : whole_power (negsuc 1) (pos 53) ≡ None
power_in_range = refl

power_of_two : whole_power (negsuc 1) (pos 3) ≡ Some (negsuc 7)
power_of_two = refl

power_of_minus_one : whole_power (negsuc 0) (negsuc 2) ≡ Some (negsuc 0)
power_of_minus_one = refl

is_an_index : is_index (codes "0") ≡ true
is_an_index = refl

is_no_index : is_index (codes "01") ≡ false
is_no_index = refl

keys_in_order : in_order (codes "b" ∷ codes "10" ∷ codes "a" ∷ codes "9" ∷ []) ≡
    codes "9" ∷ codes "10" ∷ codes "b" ∷ codes "a" ∷ []
keys_in_order = refl

first_of_three : first_place 1 (codes "a") (codes "aba") ≡ Some 2
first_of_three = refl

last_up_to : last_from 0 1 (codes "a") (codes "aba") ≡ Some 0
last_up_to = refl

split_in_three : split_by (codes "--") (codes "a--b--") ≡ codes "a" ∷ codes "b" ∷ [] ∷ []
split_in_three = refl

replaced_once : replaced (codes "a") (codes "xy") (codes "baa") ≡ codes "bxya"
replaced_once = refl

unit_of_minus_one : unit_of (negsuc 0) ≡ 65535
unit_of_minus_one = refl

node_name : is_node_name (codes "h1-b") ≡ true
node_name = refl

no_node_name : is_node_name (codes "1h") ≡ false
no_node_name = refl

lowered_name : lowered (codes "DIV") ≡ codes "div"
lowered_name = refl
