-- What the bytes that are held show.
use Rattle.std.specs.Prelude.{◌≡◌, ℕ, ◌+◌, ◌≤◌, List, [], ◌∷◌, length, drop, Ok}
use Rattle.httparse.specs.Grammar.{RequestHead, print_request, HasNoRequest, NeverHasRequest, MayBecomeRequest}
use Rattle.httparse.specs.declared.spans.HeaderSpan.{HeaderSpan}
use Rattle.httparse.specs.Spans.{span_bytes, IsWithin, IsRequestOf, IsRequestWithin}
use Rattle.http_wire.specs.Fields.{closes}
use Rattle.http_wire.specs.Messages.{BeginsHead, fields_of, length_behind}
use Rattle.http_wire.specs.Outcomes.{Refuses, IsUnfinished}
use Rattle.http_wire.specs.declared.fields.Named.{Named}
use Rattle.http_wire.specs.declared.fields.Named.TheVariants.{Absent, Single, Several}
use Rattle.http_wire.specs.declared.head.Head.{Head}
use Rattle.http_wire.specs.declared.head.Head.TheVariants as head
use Rattle.http_wire.specs.declared.held.Whole.{Whole}
use Rattle.http_wire.specs.declared.held.Held.{Held}
use Rattle.http_wire.specs.declared.held.Held.TheVariants as held

-- what is told of a head: it is whole, no bytes make it one, or it isn't whole yet
abbrev pub HeadIs : List ℕ → List HeaderSpan → Head → Type 0
HeadIs bytes room (head.Whole spans) = IsRequestOf bytes room spans × IsRequestWithin bytes room spans
HeadIs bytes room head.Bad = NeverHasRequest bytes
HeadIs bytes room head.Unfinished = HasNoRequest bytes × MayBecomeRequest bytes

-- a whole request stands at the front of the bytes, and these are its parts
pub record WholeIs (bytes : List ℕ) (w : Whole) : Type 0 where
  pub h : RequestHead
  pub head : BeginsHead bytes h (drop w.spans.len bytes)
  pub len : w.spans.len ≡ length (print_request h)
  pub method : span_bytes bytes w.spans.method ≡ h.method
  pub target : span_bytes bytes w.spans.path ≡ h.target
  pub minor : w.spans.version ≡ h.minor
  pub close : w.close ≡ closes h.minor (fields_of h)
  pub length_is : length_behind h ≡ Ok w.body_length
  pub body_fits : w.spans.len + w.body_length ≤ length bytes
  pub method_within : IsWithin w.spans.len w.spans.method
  pub target_within : IsWithin w.spans.len w.spans.path

-- what is told of the bytes that are held
abbrev pub HeldIs : List ℕ → Held → Type 0
HeldIs bytes (held.Whole w) = WholeIs bytes w
HeldIs bytes (held.Refused refusal) = Refuses bytes refusal
HeldIs bytes held.Unfinished = IsUnfinished bytes

-- what is told of the values of the fields of one name
abbrev pub NamedIs : List ℕ → List (List ℕ) → Named → Type 0
NamedIs bytes values Absent = values ≡ []
NamedIs bytes values (Single span) = (values ≡ span_bytes bytes span ∷ []) × IsWithin (length bytes) span
NamedIs bytes values Several = (first : List ℕ) × (second : List ℕ) × (others : List (List ℕ)) × (values ≡ first ∷ second ∷ others)
