-- What the bytes of a body hold, by what the JSON reader says of them.
use Rattle.std.proofs.Common.{◌≡◌, ℕ, Bool, true, false, List, Some, None, refl}
use Rattle.std.specs.Str.{IsUtf8, is_utf8}
use Rattle.std.proofs.lemmas.Str.{IsUtf8-from_is_utf8, is_utf8-from_IsUtf8}
use Rattle.serde_json.specs.Data.{Data}
use Rattle.serde_json.specs.Read.{read}
use Rattle.wire_asks.specs.Bodies.{json_of}

pub reads : (bytes : List ℕ) (d : Data) → IsUtf8 bytes → read bytes ≡ Some d → Some d ≡ json_of bytes
reads bytes d utf8 r = rw (is_utf8-from_IsUtf8 bytes utf8, r) refl

reads_nothing_if : (bytes : List ℕ) (b : Bool) → is_utf8 bytes ≡ b → (IsUtf8 bytes → read bytes ≡ None) → None ≡ json_of bytes
reads_nothing_if bytes true e f = rw (e, f (IsUtf8-from_is_utf8 bytes e)) refl
reads_nothing_if bytes false e f = rw e refl

pub reads_nothing : (bytes : List ℕ) → (IsUtf8 bytes → read bytes ≡ None) → None ≡ json_of bytes
reads_nothing bytes f = reads_nothing_if bytes _ refl f
