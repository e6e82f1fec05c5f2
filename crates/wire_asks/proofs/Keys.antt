-- The keys of an object.
use Rattle.std.proofs.Common.{◌≡◌, ℕ, ◌&&◌, List, [], ◌∷◌, map, String, string_bytes, Global, refl, ap, eqb, arith}
use Rattle.std.specs.List.{list_any, list_all}
use Rattle.std.specs.Map.{keys_of}
use Rattle.std.specs.Str.{bytes_eq}
use Rattle.serde_json.specs.View.{members_view}
use Rattle.serde_json.specs.declared.value.Value.{Value}
use Rattle.wire_asks.specs.Bodies.{keys_are_among}
use denote.Bor.{Bor}

pub eqb_sym : (a b : ℕ) → eqb a b ≡ eqb b a
eqb_sym a b = grind arith

pub bytes_eq_sym : (a b : List ℕ) → bytes_eq a b ≡ bytes_eq b a
bytes_eq_sym [] [] = refl
bytes_eq_sym [] (y ∷ b) = refl
bytes_eq_sym (x ∷ a) [] = refl
bytes_eq_sym (x ∷ a) (y ∷ b) = rw (eqb_sym x y, bytes_eq_sym a b) refl

-- a key among the keys behind references
pub any_known : (key : List ℕ) (keys : List (Bor (List ℕ)))
    → list_any (λ known. bytes_eq known.now key) keys ≡ list_any (λ known. bytes_eq key known) (map (λ known. known.now) keys)
any_known key [] = refl
any_known key (k ∷ keys) = rw (bytes_eq_sym k.now key, any_known key keys) refl

-- each key of a map
pub all_known : (known : List (List ℕ)) (entries : List (String Global × Value))
    → list_all (λ key. list_any (λ k. bytes_eq (string_bytes key) k) known) (keys_of entries) ≡ keys_are_among known (members_view entries)
all_known known [] = refl
all_known known (e ∷ entries) = ap (λ b. list_any (λ k. bytes_eq (string_bytes e.0) k) known && b) (all_known known entries)
