-- A function value that reads the rules of a level.
use Rattle.std.specs.Prelude.{ℕ, ◌≤◌, List, Result, Ok, Err, None}
use denote.Ref.{MutBor}
use Rattle.grammar.specs.Reading.{Outcome, read}
use Rattle.js_nodes.specs.declared.fault.Fault.{Fault}
use Rattle.js_nodes.specs.declared.fault.ParseError.{ParseError}
use Rattle.js_nodes.specs.declared.operand.Operand.{Operand}
use Rattle.js_nodes.specs.declared.series.Said.{Said}
use Rattle.js_nodes.specs.declared.series.Body.{Body}
use Rattle.js_parser.specs.declared.rules.Ask.{Ask}
use Rattle.js_parser.specs.declared.rules.Ask.TheVariants as a
use Rattle.js_parser.specs.declared.rules.Answer.{Answer}
use Rattle.js_parser.specs.declared.rules.Answer.TheVariants as v
use Rattle.js_nodes.specs.Next.{Next}
use Rattle.js_parser.specs.Levels.{Level}
use Rattle.js_parser.specs.Sources.{level}
use Rattle.js_cursor.specs.Reads.{Reads}

-- what may be asked where so many levels are left
abbrev pub Fits : ℕ → Ask → Type 0
Fits room (a.Binary x n codes) = n ≤ 10
Fits room (a.Source inside b) = b.depth.height ≤ room
Fits room _ = Unit {0}

-- What was read takes no more levels than were left.
abbrev pub Low : ℕ → Result Answer ParseError → Type 0
Low room (Ok (v.Operand x)) = x.depth.height ≤ room
Low room (Ok (v.Said x)) = x.depth.height ≤ room
Low room (Ok (v.Body b)) = b.depth.height ≤ room
Low room (Err e) = Unit {0}

abbrev pub ReadsOperand : Outcome Next Fault Operand → Result Answer ParseError → List Next → Type 0
ReadsOperand o (Ok (v.Operand x)) new = Reads o (Ok x) new
ReadsOperand o (Ok _) new = ⊥
ReadsOperand o (Err e) new = Reads o (Err e) new

abbrev pub ReadsSaid : Outcome Next Fault Said → Result Answer ParseError → List Next → Type 0
ReadsSaid o (Ok (v.Said x)) new = Reads o (Ok x) new
ReadsSaid o (Ok _) new = ⊥
ReadsSaid o (Err e) new = Reads o (Err e) new

abbrev pub ReadsBody : Outcome Next Fault Body → Result Answer ParseError → List Next → Type 0
ReadsBody o (Ok (v.Body x)) new = Reads o (Ok x) new
ReadsBody o (Ok _) new = ⊥
ReadsBody o (Err e) new = Reads o (Err e) new

-- The answer is what the rule that was asked for reads.
abbrev pub ReadsAnswer : Level → Ask → List Next → Result Answer ParseError → List Next → Type 0
ReadsAnswer l (a.Binary x n codes) ts r new = ReadsOperand (read None (l.binary x n codes) ts) r new
ReadsAnswer l (a.Assign x codes) ts r new = ReadsOperand (read None (l.assign x codes) ts) r new
ReadsAnswer l (a.Expr x codes) ts r new = ReadsOperand (read None (l.expr x codes) ts) r new
ReadsAnswer l (a.Callee codes) ts r new = ReadsOperand (read None (l.callee codes) ts) r new
ReadsAnswer l (a.First codes) ts r new = ReadsOperand (read None (l.first codes) ts) r new
ReadsAnswer l (a.Variables x at n added) ts r new = ReadsSaid (read None (l.variables x at n added) ts) r new
ReadsAnswer l (a.Statement inside added) ts r new = ReadsSaid (read None (l.statement inside added) ts) r new
ReadsAnswer l (a.Source inside b) ts r new = ReadsBody (read None (l.source inside b) ts) r new

pub record Nests (room : ℕ) (pre : MutBor (List Next) → ℕ → Ask → Type 0)
    (post : MutBor (List Next) → ℕ → Ask → Result Answer ParseError → MutBor (List Next) → Type 0) : Type 0 where
  pub callable : (old : MutBor (List Next)) (ask : Ask) → Fits room ask → pre old room ask
  pub reads : (old new : MutBor (List Next)) (ask : Ask) (r : Result Answer ParseError) → post old room ask r new
      → ReadsAnswer (level room) ask old.now r new.now
  pub low : (old new : MutBor (List Next)) (ask : Ask) (r : Result Answer ParseError) → post old room ask r new → Low room r
