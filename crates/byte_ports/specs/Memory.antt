-- Objects in memory: which of their calls fail, and how long their pieces are (this project's own).
use Rattle.std.specs.Prelude.{◌≡◌, ℕ, ◌+◌, ◌-◌, ◌^◌, min, Bool, List, drop, Option, Some, nat_eq, nat_lt, slice_index_or}
use Rattle.std.specs.List.{list_any, list_all}
use Rattle.byte_ports.specs.declared.source.Took.{Took}
use Rattle.byte_ports.specs.declared.source.Took.TheVariants.{Got, End, Failed}

-- one more, and at the last value of a counter the same
abbrev pub next_count : ℕ → ℕ
next_count count = min (count + 1) (2 ^ 64 - 1)

-- whether the call after so many is one that fails; the first has the number 1
abbrev pub is_failing : List ℕ → ℕ → Bool
is_failing fails calls = list_any (λ number. nat_eq number (next_count calls)) fails

-- whether each piece has a byte
abbrev pub are_pieces : List ℕ → Bool
are_pieces pieces = list_all (λ piece. nat_lt 0 piece) pieces

-- how many of so many bytes come after so many pieces: the next piece, or all where they are fewer
-- or no piece is left
abbrev pub piece_length : List ℕ → ℕ → ℕ → ℕ
piece_length pieces given most = min (slice_index_or pieces given most) most

-- the bytes from a place on, which are told
abbrev pub left_from : List ℕ → ℕ → Option (List ℕ)
left_from bytes at = Some (drop at bytes)

-- a read moves the place in the bytes by as many as it got
abbrev pub MovesOn : Took → (at at' : ℕ) → Type 0
MovesOn (Got count) at at' = at' ≡ at + count
MovesOn End at at' = at' ≡ at
MovesOn Failed at at' = at' ≡ at
