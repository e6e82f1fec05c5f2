-- Each field line has at least three bytes, so short bytes never hold too many fields.
use Prim.Native.Char.{code}
use Rattle.std.proofs.Common.{◌≡◌, ℕ, ◌+◌, ◌*◌, ◌<◌, ◌≤◌, List, [], ◌∷◌, ◌++◌, length, arith, length-append, ap}
use Rattle.std.specs.Prelude.{All}
use Rattle.std.specs.List.{flat_map}
use Rattle.std.proofs.lemmas.List.Elements.{All-head, All-tail}
use Rattle.std.proofs.lemmas.List.Concat.{flat_map-cons}
use Rattle.httparse.specs.Grammar.{LineEnd, crlf, lf, print_end, print_blank, print_version, Field, print_field, IsField, print_section, RequestHead, print_request}
use Rattle.httparse.specs.Spans.{RequestExceeds}

pub end_length : (e : LineEnd) → 1 ≤ length (print_end e)
end_length crlf = omega arith
end_length lf = omega arith

tail_length : (a b : List ℕ) → length b ≤ length (a ++ b)
tail_length a b = omega (arith, length-append a b)

-- a name, a byte, the rest and an end
line_length : (name raw end : List ℕ) → 0 < length name → 1 ≤ length end → 3 ≤ length (name ++ code ":" ∷ raw ++ end)
line_length name raw end a b = simp length-append (omega (arith, a, b))

pub field_length : (f : Field) → IsField f → 3 ≤ length (print_field f)
field_length f x = line_length f.name f.raw (print_end f.end) x.name.0 (end_length f.end)

pub fields_length : (fs : List Field) → All IsField fs → 3 * length fs ≤ length (flat_map print_field fs)
fields_length [] x = omega arith
fields_length (f ∷ fs) x =
    let rest : 3 * length fs ≤ length (flat_map print_field fs) = fields_length fs (All-tail IsField f fs x) in
    let one : 3 ≤ length (print_field f) = field_length f (All-head IsField f fs x) in
    omega (arith, rest, one, length-append (print_field f) (flat_map print_field fs), ap length (flat_map-cons print_field f fs))

section_length : (fs : List Field) (last : LineEnd) → All IsField fs → 3 * length fs + 1 ≤ length (print_section fs last)
section_length fs last x =
    omega (arith, fields_length fs x, end_length last, length-append (flat_map print_field fs) (print_end last))

-- six parts and the bytes between them
parts_length : (a b c d e f : List ℕ) (n : ℕ) → n ≤ length f → n ≤ length (a ++ b ++ code " " ∷ c ++ code " " ∷ d ++ e ++ f)
parts_length a b c d e f n x = simp length-append (omega (arith, x))

pub head_length : (h : RequestHead) → All IsField h.fields → 3 * length h.fields + 1 ≤ length (print_request h)
unfolding print_request
head_length h x = parts_length (print_blank h.blank) h.method h.target (print_version h.minor) (print_end h.line_end)
    (print_section h.fields h.last) _ (section_length h.fields h.last x)

pub never_exceeds : (room : ℕ) (buf : List ℕ) → RequestExceeds room buf → 3 * room + 3 ≤ length buf
never_exceeds room buf x =
    let front = x.0 in
    let rest = x.1 in
    let e : buf ≡ front ++ rest = x.2 in
    let h = x.3 in
    let more : room < length h.fields = x.5 in
    let reads : front ++ code "\n" ∷ [] ≡ print_request h ++ [] = x.4.1 in
    omega (
      arith,
      more,
      head_length h x.4.0.fields,
      ap length reads,
      ap length e,
      length-append front rest,
      length-append front (code "\n" ∷ []),
      length-append (print_request h) [],
    )
