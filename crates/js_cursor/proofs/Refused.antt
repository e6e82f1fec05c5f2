-- What is read where a rule refuses its next token.
use Rattle.std.proofs.Common.{◌≡◌, List, Option, Some, None, Err, refl, sym, subst}
use Rattle.grammar.specs.Grammar.{first}
use Rattle.grammar.specs.Reading.{Outcome, Bad, read}
use Rattle.js_nodes.specs.declared.context.Context.{Context}
use Rattle.js_nodes.specs.declared.fault.Fault.{Fault}
use Rattle.js_nodes.specs.declared.fault.ParseError.{ParseError}
use Rattle.js_nodes.specs.declared.operand.Operand.{Operand}
use Rattle.js_nodes.specs.Next.{Next}
use Rattle.js_cursor.specs.Questions.{flaw_shown}
use Rattle.js_cursor.specs.Reads.{Reads, Unfits}
use Rattle.js_cursor.specs.Rules.{prefix_end}

-- What is refused so is read as the error that says so.
pub bad_reads : {A : Type 0} (w : Option Fault) (ts : List Next) (e : ParseError) (o : Outcome Next Fault A) → o ≡ Bad w ts → Unfits w e → Reads o (Err e) ts
bad_reads None ts e o q h = rw h q
bad_reads (Some f) ts e o q h = rw h q

-- An operand with a flaw is refused behind its operator.
pub prefix_refused : (x : Context) (t : Next) (y : Operand) (o : Option Fault) (f : Fault) (ts : List Next) (e : ParseError) → o ≡ Some f → Unfits (flaw_shown x f (first ts None)) e → Reads (read None (prefix_end x t y o) ts) (Err e) ts
unfolding prefix_end
prefix_refused x t y o f ts e h u =
    subst (λ (o : Option Fault). Reads (read None (prefix_end x t y o) ts) (Err e) ts) (sym h)
    (bad_reads (flaw_shown x f (first ts None)) ts e (read None (prefix_end x t y (Some f)) ts) refl u)
