-- The host that never speculates.
use Rattle.std.specs.Prelude.{◌≡◌, ◌≤◌, ◌<◌, ◌+◌, ℕ, ℤ, pos, Bool, true, false, List, [], ◌∷◌, ◌++◌, length, Option, Some, None, Result, Ok, Err, ◌⊎◌, ⊤}
use Rattle.std.specs.List.{flat_map}
use Rattle.page_units.specs.declared.limits.Limit.{Limit}
use Rattle.page_units.specs.declared.limits.Limit.TheVariants.{Weight, DomText, Served}
use Rattle.page_units.specs.declared.value.CellName.{CellName}
use Rattle.page_units.specs.declared.event.PageEvent.{PageEvent}
use Rattle.page_units.specs.declared.event.Response.{Response}
use Rattle.page_units.specs.declared.limits.Limits.{Limits}
use Rattle.page_units.specs.Limits.{default_limit}
use Rattle.page_units.specs.LimitsOf.{number_of}
use Rattle.cell_places.specs.Heap.{Heap}
use Rattle.cell_places.specs.Acts.{Act}
use Rattle.cell_places.specs.Start.{start, document_cell}
use Rattle.tree_shape.specs.Trees.{Trees}
use Rattle.tree_writer.specs.NodeText.{IsTreeText}
use Rattle.dom_tree.specs.Ids.{Finds}
use Rattle.page_reader.specs.Page.{IsPage}
use Rattle.page_reader.specs.Planting.{planted}
use Rattle.http_wire.specs.Asked.{Asked}
use Rattle.http_wire.specs.Asked.TheVariants as a
use Rattle.http_wire.specs.Refusal.{Refusal}
use Rattle.http_wire.specs.Refusal.TheVariants.{NoTarget}
use Rattle.http_wire.specs.declared.wire.Incoming.{Incoming}
use Rattle.http_wire.specs.Incoming.{Comes}
use Rattle.httparse.specs.Grammar.{EndsInTarget}
use Rattle.http_wire.specs.Outcomes.{look}
use Rattle.http_wire.specs.Requests.{EndsAs, ended, truncated}
use Rattle.crom_host.specs.Replying.{Reply, tree, long_text, refused, not_built, halted, bytes_of}

-- ---- what is fixed, and what changes

-- what is fixed while a page is hosted: the bounds of its work, the clock as it starts, in milliseconds, how many codes its
-- functions have, and the address that its requests are resolved against
pub record Settings : Type 0 where
  pub limits : Limit → ℕ
  pub moment : ℤ
  pub codes : ℕ
  pub address : List ℕ

-- the settings with these bounds, where nothing else is asked for and no script is run
abbrev pub settings_of : Limits → Settings
settings_of limits = record { limits = number_of limits; moment = pos 0; codes = 0; address = [] }

-- the same, where each bound is its default
abbrev pub default_settings : Settings
default_settings = record { limits = default_limit; moment = pos 0; codes = 0; address = [] }

-- the plain host between two requests: the heap, the reply to `/load`, and how many events ran
pub record PlainHost : Type 0 where
  pub heap : Heap
  pub loaded : Reply
  pub events : ℕ

-- a host of this heap, where loading isn't reported yet and no event ran
abbrev pub hosted : Heap → PlainHost
hosted H = record { heap = H; loaded = not_built; events = 0 }

-- The bytes are a page without scripts, and the heap is the one that a page starts with, with the page's tree under the
-- document.
pub record Loads (s : Settings) (page : List ℕ) (H : Heap) : Type 0 where
  pub trees : Trees
  pub reads : IsPage page trees []
  pub heap : H ≡ planted (start (s.limits Weight) s.moment) trees

-- the answers that the page's GETs and POSTs get, in order; None is a failed one
abbrev pub Answers : Type 0
Answers = List (Option Response)

-- ---- one request

-- the reply with a node's tree text, or that it is too long
pub data Serves (s : Settings) (H : Heap) (n : CellName) : Reply → Type 0 where
  text : (bytes : List ℕ) → IsTreeText H n bytes → length bytes ≤ s.limits DomText → Serves s H n (tree bytes)
  long : (bytes : List ℕ) → IsTreeText H n bytes → s.limits DomText < length bytes → Serves s H n long_text

-- the reply with the tree text of the first element with an id, or that there is none
pub data ServesId (s : Settings) (H : Heap) (id : List ℕ) : Reply → Type 0 where
  found : (n : CellName) (count : ℕ) (acts : List Act) (r : Reply) → Finds H id (Some n) count acts → Serves s H n r → ServesId s H id r
  none : (count : ℕ) (acts : List Act) → Finds H id None count acts → ServesId s H id (refused NoTarget)

-- What a command changes and replies, where its GETs and POSTs get just these answers. `/dom`, `/node/{id}`, `/load` and
-- `/halt` change nothing; the others aren't built yet.
pub data PlainStep (s : Settings) : PlainHost → Asked → (gets posts : Answers) → Reply → PlainHost → Type 0 where
  dom : (h : PlainHost) (r : Reply) → Serves s h.heap document_cell r → PlainStep s h a.Dom [] [] r h
  node : (h : PlainHost) (id : List ℕ) (r : Reply) → ServesId s h.heap id r → PlainStep s h (a.Node id) [] [] r h
  halt : (h : PlainHost) → PlainStep s h a.Halt [] [] halted h
  load : (h : PlainHost) → PlainStep s h a.Load [] [] h.loaded h
  stats : (h : PlainHost) → PlainStep s h a.Stats [] [] not_built h
  event : (h : PlainHost) (e : PageEvent) → PlainStep s h (a.Event e) [] [] not_built h
  tick : (h : PlainHost) (ms : ℤ) → PlainStep s h (a.Tick ms) [] [] not_built h

-- the same for what came, whole or refused
pub data Answered (s : Settings) : PlainHost → Result Asked Refusal → (gets posts : Answers) → Reply → PlainHost → Type 0 where
  whole : (h h' : PlainHost) (asked : Asked) (gets posts : Answers) (r : Reply) → PlainStep s h asked gets posts r h' → Answered s h (Ok asked) gets posts r h'
  refusal : (h : PlainHost) (r : Refusal) → Answered s h (Err r) [] [] (refused r) h

-- it is a `/halt`, which is always obeyed
abbrev pub is_halt : Result Asked Refusal → Bool
is_halt (Ok a.Halt) = true
is_halt _ = false

-- ---- one stream

-- how a stream ends
pub data Ending : Type 0 where
  -- between two requests
  at_end : Ending
  -- after a reply that closes
  closed : Ending
  -- after the reply to a `/halt`
  halted_so : Ending
  -- inside a request
  cut_off : Ending
  -- as many requests were answered as may be, and one more is there
  at_bound : Ending
  -- not yet: these bytes are left, and nothing more was looked at
  paused : List ℕ → Ending

abbrev pub ending_of : (halts : Bool) → Ending
ending_of true = halted_so
ending_of false = closed

abbrev pub ending_behind : Incoming → Ending
ending_behind i = ending_of (is_halt i.asked)

-- a reply, and whether the connection ends after it
pub record Sent : Type 0 where
  pub reply : Reply
  pub closes : Bool

-- the bytes of replies, one after another
abbrev pub bytes_sent : List Sent → List ℕ
bytes_sent sent = flat_map (λ (r : Sent). bytes_of r.reply r.closes) sent

-- A stream of bytes on the plain host, to its ending: from a host, and so many requests answered before, of at most as many
-- as the limit of requests; the answers are used in order and used up, and each request that is answered has one reply.
pub data PlainRun (s : Settings) : PlainHost → (served : ℕ) → (bytes : List ℕ) → (gets posts : Answers) → (sent : List Sent) → PlainHost → (served' : ℕ) → Ending → Type 0 where
  end : (h : PlainHost) (n : ℕ) (bytes : List ℕ) → EndsAs bytes ended → PlainRun s h n bytes [] [] [] h n at_end
  cut : (h : PlainHost) (n : ℕ) (bytes : List ℕ) → EndsAs bytes truncated → PlainRun s h n bytes [] [] [] h n cut_off
  bound : (h : PlainHost) (n : ℕ) (bytes rest : List ℕ) (i : Incoming) → n ≡ s.limits Served → Comes bytes i rest → PlainRun s h n bytes [] [] [] h n at_bound
  pause : (h : PlainHost) (n : ℕ) (bytes : List ℕ) → PlainRun s h n bytes [] [] [] h n (paused bytes)
  last : (h h' : PlainHost) (n : ℕ) (bytes rest : List ℕ) (i : Incoming) (gets posts : Answers) (r : Reply) → n < s.limits Served → Comes bytes i rest
      → Answered s h i.asked gets posts r h' → i.close ≡ true → PlainRun s h n bytes gets posts (record { reply = r; closes = true } ∷ []) h' (n + 1) (ending_behind i)
  more : (h mid h' : PlainHost) (n m : ℕ) (bytes rest : List ℕ) (i : Incoming) (g p gs ps : Answers) (r : Reply) (sent : List Sent) (e : Ending) → n < s.limits Served → Comes bytes i rest
      → Answered s h i.asked g p r mid → i.close ≡ false → PlainRun s mid (n + 1) rest gs ps sent h' m e
      → PlainRun s h n bytes (g ++ gs) (p ++ ps) (record { reply = r; closes = false } ∷ sent) h' m e

-- ---- one run

-- the stream came to its end
abbrev pub IsEnd : Ending → Type 0
IsEnd (paused rest) = ⊥
IsEnd _ = ⊤

-- The bytes end inside a target that no bytes complete, after requests that were read whole: whether that is a bad head or
-- an unfinished one is the one open choice.
pub data EndsOpen : List ℕ → Type 0 where
  here : (bytes : List ℕ) → EndsInTarget (look bytes) → EndsOpen bytes
  after : (bytes rest : List ℕ) (i : Incoming) → Comes bytes i rest → EndsOpen rest → EndsOpen bytes

-- Two runs of these bytes are one: the replies, the hosts, the counts and the endings are the same, but for that choice.
abbrev pub OneRun : (bytes : List ℕ) → (sent others : List Sent) → (h k : PlainHost) → (m l : ℕ) → (e f : Ending) → Type 0
OneRun bytes sent others h k m l e f = ((sent ≡ others) × (h ≡ k) × (m ≡ l) × (e ≡ f)) ⊎ EndsOpen bytes
