-- What the bytes are that begin no whole request: refused, or an unfinished one.
use Rattle.std.specs.Prelude.{◌≡◌, ℕ, ◌<◌, ◌≤◌, List, length, take, Ok, Err}
use Rattle.httparse.specs.Grammar.{RequestHead, HasNoRequest, NeverHasRequest, MayBecomeRequest}
use Rattle.wire_asks.specs.declared.asked.Refusal.{Refusal}
use Rattle.wire_asks.specs.declared.asked.Refusal.TheVariants.{BadHead, HeadTooLarge}
use Rattle.http_wire.specs.Bounds.{head_bytes}
use Rattle.http_wire.specs.Messages.{BeginsHead, length_behind}

-- the bytes in which a head is looked for: the first 16,384
abbrev pub look : List ℕ → List ℕ
look bytes = take head_bytes bytes

-- The bytes are refused. A head that ends inside its target, and that no bytes can complete, may be called bad or
-- unfinished: that choice is open.
pub data Refuses : List ℕ → Refusal → Type 0 where
  -- no bytes behind them make a head of what is looked at
  bad_head : (bytes : List ℕ) → NeverHasRequest (look bytes) → Refuses bytes BadHead
  -- the head isn't whole where the look ends
  long_head : (bytes : List ℕ) → head_bytes ≤ length bytes → HasNoRequest (look bytes) → MayBecomeRequest (look bytes) → Refuses bytes HeadTooLarge
  -- the head is whole, and tells no length of a body that is read
  no_body : (bytes : List ℕ) (h : RequestHead) (behind : List ℕ) (refusal : Refusal) → BeginsHead bytes h behind → length_behind h ≡ Err refusal → Refuses bytes refusal

-- The bytes end inside a request, or begin none yet.
pub data IsUnfinished : List ℕ → Type 0 where
  in_head : (bytes : List ℕ) → length bytes < head_bytes → HasNoRequest bytes → MayBecomeRequest bytes → IsUnfinished bytes
  in_body : (bytes : List ℕ) (h : RequestHead) (behind : List ℕ) (count : ℕ) → BeginsHead bytes h behind → length_behind h ≡ Ok count → length behind < count → IsUnfinished bytes
