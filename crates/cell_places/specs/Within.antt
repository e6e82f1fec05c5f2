-- Whose names are all of a set D.
use Rattle.std.specs.Prelude.{◌≡◌, ℕ, Bool, true, nat_lt, Option, Some, None}
use Rattle.page_units.specs.declared.value.CellName.{CellName}
use Rattle.page_units.specs.declared.value.Value.{Value}
use Rattle.page_units.specs.declared.value.Value.TheVariants as v
use Rattle.cell_places.specs.declared.answer.Answer.{Answer}
use Rattle.cell_places.specs.declared.answer.Answer.TheVariants as a
use Rattle.cell_places.specs.declared.answer.Listener.{Listener}
use Rattle.cell_places.specs.declared.answer.Timer.{Timer}
use Rattle.cell_places.specs.declared.answer.Guess.{Guess}
use Rattle.cell_places.specs.declared.kind.CellKind.{CellKind}
use Rattle.cell_places.specs.declared.kind.CellKind.TheVariants as k
use Rattle.cell_places.specs.Lists.{Every}

-- the names below n
abbrev pub is_below : ℕ → ℕ → Bool
is_below n m = nat_lt m n

abbrev pub NameIn : (ℕ → Bool) → CellName → Type 0
NameIn D c = D c.0 ≡ true

abbrev pub OptionIn : (ℕ → Bool) → Option CellName → Type 0
OptionIn D None = Unit {0}
OptionIn D (Some c) = NameIn D c

abbrev pub ValueIn : (ℕ → Bool) → Value → Type 0
ValueIn D v.Undefined = Unit {0}
ValueIn D v.Null = Unit {0}
ValueIn D (v.Bool b) = Unit {0}
ValueIn D (v.Num n) = Unit {0}
ValueIn D (v.Str t) = Unit {0}
ValueIn D (v.Cell c) = NameIn D c

abbrev pub AnswerIn : (ℕ → Bool) → Answer → Type 0
AnswerIn D a.Absent = Unit {0}
AnswerIn D (a.One x) = ValueIn D x
AnswerIn D (a.Names ns) = Unit {0}
AnswerIn D (a.Cells cs) = Every (NameIn D) cs
AnswerIn D (a.Heard next ls) = Every (λ (l : Listener). NameIn D l.callback) ls
AnswerIn D (a.Timers ts) = Every (λ (t : Timer). NameIn D t.callback) ts
AnswerIn D (a.Guesses gs) = Every (λ (g : Guess). OptionIn D g.mutator × OptionIn D g.sketch) gs

abbrev pub KindIn : (ℕ → Bool) → CellKind → Type 0
KindIn D (k.Scope outer) = OptionIn D outer
KindIn D k.Plain = Unit {0}
KindIn D k.List = Unit {0}
KindIn D (k.Fault name) = Unit {0}
KindIn D (k.Fun code scope) = NameIn D scope
KindIn D (k.Native which) = Unit {0}
KindIn D k.Page = Unit {0}
KindIn D k.Document = Unit {0}
KindIn D (k.Element name) = Unit {0}
KindIn D k.Chars = Unit {0}
KindIn D k.Event = Unit {0}
