-- The value of a field that was found.
use Rattle.std.proofs.Common.{ℕ, List, [], ◌∷◌, Option, Some, None}
use Rattle.httparse.specs.declared.spans.Span.{Span}
use Rattle.httparse.specs.Spans.{span_bytes}

-- the value that was found so far, if one was
abbrev pub found_values : List ℕ → Option Span → List (List ℕ)
found_values bytes None = []
found_values bytes (Some span) = span_bytes bytes span ∷ []
