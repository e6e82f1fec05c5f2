-- The tasks that the host begins, a script, a timer and an answer, and how the end of a task is reported (this
-- project's own).
use Rattle.std.specs.Prelude.{ℕ, ℤ, pos, false, List, [], ◌∷◌, Option, Some, None}
use Rattle.page_units.specs.declared.value.CellName.{CellName}
use Rattle.page_units.specs.declared.value.Value.TheVariants as v
use Rattle.page_units.specs.declared.event.Response.{Response}
use Rattle.cell_places.specs.Outward.{began}
use Rattle.js_rules.specs.Fixed.{Fixed}
use Rattle.js_rules.specs.Tasks.{Nothing, ReportEnd, Script, Call}
use Rattle.js_rules.specs.Prog.{Prog, ◌>>◌, charge, write, part, ends, number, weight}
use Rattle.std.specs.Prelude.{Bool, true, false, ◌++◌, Result, Ok, Err, codes}
use Rattle.page_units.specs.declared.value.Value.{Value}
use Rattle.cell_places.specs.Outward.{line, ended, handled}
use Rattle.js_rules.specs.Shows.{cut}
use Rattle.js_rules.specs.Tasks.{Nothing, Show}
use Rattle.js_rules.specs.Prog.{Prog, ◌>>=◌, ◌>>◌, charge, write, part, weight}

-- ---- reports of calls that the host makes

-- the line of what was thrown and not caught
abbrev pub uncaught : List ℕ → Prog Nothing
uncaught t = do
  charge (weight (codes "uncaught " ++ cut t))
  write (line (codes "uncaught " ++ cut t))

-- The end of a task or of a listener's call; a listener's call is counted before the line of a throw is charged.
abbrev pub report_end : Bool → Result Value Value → Prog Nothing
report_end false (Ok x) = do
  t ← part (Show x)
  write (ended (codes "return " ++ cut t))
report_end true (Ok x) = do
  t ← part (Show x)
  write (ended (codes "return " ++ cut t))
  write handled
report_end false (Err x) = do
  t ← part (Show x)
  write (ended (codes "throw " ++ cut t))
  uncaught t
report_end true (Err x) = do
  t ← part (Show x)
  write (ended (codes "throw " ++ cut t))
  write handled
  uncaught t

-- ---- tasks that the host begins, each with its end reported

-- a script of the page, by its number
abbrev pub reported_script : Fixed → ℕ → Prog Nothing
reported_script fixed number = do
  write (began fixed.task_steps)
  ends (Script number) λ r. part (ReportEnd false r)

-- a timer's callback
abbrev pub fire : Fixed → CellName → Prog Nothing
fire fixed callback = do
  write (began fixed.task_steps)
  ends (Call (v.Cell callback) v.Undefined []) λ r. part (ReportEnd false r)

-- a failed request has the status 0 and the empty text
abbrev pub status_of : Option Response → ℤ
status_of None = pos 0
status_of (Some r) = pos r.status

abbrev pub text_of : Option Response → List ℕ
text_of None = []
text_of (Some r) = r.text

-- the callback of a request, with the status and the text of the answer
abbrev pub answered : Fixed → CellName → Option Response → Prog Nothing
answered fixed callback got = do
  write (began fixed.task_steps)
  charge (weight (text_of got))
  ends (Call (v.Cell callback) v.Undefined (number (status_of got) ∷ v.Str (text_of got) ∷ []))
      λ r. part (ReportEnd false r)
