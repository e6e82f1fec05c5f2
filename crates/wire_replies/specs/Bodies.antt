-- The JSON of the replies' bodies, compact (RFC 8259; the keys and their order are this project's own). A text is
-- written in UTF-8, each lone surrogate as U+FFFD.
use Rattle.std.specs.Prelude.{ℕ, Bool, List, ◌++◌, map, codes}
use Rattle.serde_json.specs.Data.{Data, member, no_members, number, unsigned, string, boolean, array, object}
use Rattle.serde_json.specs.View.{items_of}
use Rattle.page_units.specs.Coding.{utf8_of_units}
use Rattle.page_units.specs.declared.fault.Stopped.{Stopped}
use Rattle.page_units.specs.declared.fault.Stopped.TheVariants as s
use Rattle.wire_asks.specs.declared.asked.Refusal.{Refusal}
use Rattle.wire_asks.specs.Refusals.{name_of}
use Rattle.wire_replies.specs.declared.bodies.Outcome.{Outcome}
use Rattle.wire_replies.specs.declared.bodies.Outcome.TheVariants as o
use Rattle.wire_replies.specs.declared.bodies.Stats.{Stats}

-- texts as a list
abbrev pub texts : List (List ℕ) → Data
texts lines = array (items_of (map (λ (units : List ℕ). string (utf8_of_units units)) lines))

abbrev pub count : ℕ → Data
count n = number (unsigned n)

-- the name of a bound
abbrev pub bound_name : Stopped → List ℕ
bound_name s.Steps = codes "steps"
bound_name s.Weight = codes "weight"
bound_name s.Depth = codes "depth"
bound_name s.Requests = codes "requests"
bound_name s.Timers = codes "timers"

abbrev pub outcome_name : Outcome → List ℕ
outcome_name o.Ok = codes "ok"
outcome_name (o.Bound stopped) = codes "bound " ++ bound_name stopped

-- an object with one text
abbrev pub said : List ℕ → List ℕ → Data
said key text = object (member key (string text) no_members)

abbrev pub event_data : (ends : List (List ℕ)) → (handled : ℕ) → (lines : List (List ℕ)) → Outcome → (prevented : Bool) → Data
event_data ends handled lines outcome prevented =
    object (member (codes "ends") (texts ends) (member (codes "handled") (count handled) (member (codes "lines") (texts lines)
    (member (codes "outcome") (string (outcome_name outcome)) (member (codes "prevented") (boolean prevented) no_members)))))

abbrev pub tick_data : (ends : List (List ℕ)) → (fired : ℕ) → (lines : List (List ℕ)) → Outcome → Data
tick_data ends fired lines outcome =
    object (member (codes "ends") (texts ends) (member (codes "fired") (count fired) (member (codes "lines") (texts lines)
    (member (codes "outcome") (string (outcome_name outcome)) no_members))))

abbrev pub load_data : (ends : List (List ℕ)) → (lines : List (List ℕ)) → Outcome → Data
load_data ends lines outcome =
    object (member (codes "ends") (texts ends) (member (codes "lines") (texts lines)
    (member (codes "outcome") (string (outcome_name outcome)) no_members)))

abbrev pub stats_data : Stats → Data
stats_data s =
    object (member (codes "afresh") (count s.afresh) (member (codes "committed") (count s.committed) (member (codes "contexts") (count s.contexts)
    (member (codes "dropped") (count s.dropped) (member (codes "failed") (count s.failed) (member (codes "made") (count s.made) no_members))))))

abbrev pub refusal_data : Refusal → Data
refusal_data refusal = said (codes "refused") (name_of refusal)

-- the body of a `/halt` that was obeyed, and of a tree text above its bound
abbrev pub halted_data : Data
halted_data = said (codes "outcome") (codes "halted")

abbrev pub long_text_data : Data
long_text_data = said (codes "outcome") (codes "bound text")
