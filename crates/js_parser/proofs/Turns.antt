-- Turns of the loops: what is left of a loop after one of its turns.
use Rattle.std.proofs.Common.{◌≡◌, ℕ, zero, suc, ◌<◌, Bool, true, List, length, None, arith}
use Rattle.std.proofs.lemmas.Bool.{eq-eqb}
use Rattle.grammar.specs.Grammar.{again, first}
use Rattle.std.specs.Prelude.{Result}
use Rattle.std.specs.Result.{IsErr, IsErrAnd}
use Rattle.grammar.specs.Reading.{Outcome, Got, read}
use Rattle.grammar.proofs.Words.{turn}
use Rattle.js_lexer.specs.declared.token.Kind.{Kind}
use Rattle.js_lexer.specs.declared.token.Punct.TheVariants as p
use Rattle.js_nodes.specs.declared.context.Context.{Context}
use Rattle.js_nodes.specs.declared.context.Inside.{Inside}
use Rattle.js_nodes.specs.declared.fault.Fault.{Fault}
use Rattle.js_nodes.specs.declared.fault.ParseError.{ParseError}
use Rattle.js_cursor.specs.Reads.{Reads}
use Rattle.js_parser.proofs.Failing.{failed, last_failed}
use Rattle.js_nodes.specs.declared.operand.Operand.{Operand}
use Rattle.js_nodes.specs.declared.operand.Row.{Row}
use Rattle.js_nodes.specs.declared.operand.Entries.{Entries}
use Rattle.js_nodes.specs.declared.series.Series.{Series}
use Rattle.js_nodes.specs.declared.series.Decls.{Decls}
use Rattle.js_nodes.specs.declared.series.Cases.{Cases}
use Rattle.js_nodes.specs.declared.series.Body.{Body}
use Rattle.js_nodes.specs.Next.{Next, of, shows, is_there}
use Rattle.js_nodes.specs.Operands.{binds}
use Rattle.js_cursor.specs.Rules.{more_parameters}
use Rattle.js_cursor.specs.Questions.{in_block}
use Rattle.js_nodes.specs.Pieces.{called}
use Rattle.js_parser.specs.Primary.{list_more, object_more}
use Rattle.js_parser.specs.Chains.{argument_more, link}
use Rattle.js_parser.specs.Expressions.{binds_at, operation, comma}
use Rattle.js_parser.specs.Statements.{series_more, decl_more, case_part}
use Rattle.js_cursor.specs.Questions.{in_case, is_case}
use Rattle.js_parser.specs.Sources.{level}
use Rattle.js_nodes.specs.Pieces.{outside}
use Rattle.js_parser.proofs.DecidedOperands.{parameter_turns, source_turns, list_turns, object_turns, argument_turns, link_turns}
use Rattle.js_parser.proofs.DecidedExpressions.{operation_turns, comma_turns}
use Rattle.js_parser.proofs.DecidedStatements.{block_turns, case_turns, decl_turns, switch_turns}
use Rattle.js_parser.proofs.DecidedSources.{level_known, program_turns}
use Rattle.js_cursor.specs.Rules as rules
use Rattle.js_cursor.specs.Words as words
use Rattle.js_parser.specs.Primary as primaries

pub parameter_turn : (x : List (List ℕ)) (ts : List Next) (u : List (List ℕ)) (r : List Next) → shows p.Comma (first ts None) ≡ true → read None (more_parameters x) ts ≡ Got u r → (read None (again (λ _ t. shows p.Comma t) more_parameters x) ts ≡ read None (again (λ _ t. shows p.Comma t) more_parameters u) r) × (length r < length ts)
unfolding more_parameters rules.parameter words.sign words.sound
parameter_turn x ts u r h e = turn None (λ _ t. shows p.Comma t) more_parameters x ts u r (parameter_turns x) h e

pub source_turn : (room : ℕ) (x : Body) (ts : List Next) (u : Body) (r : List Next) → in_block (first ts None) ≡ true → read None ((level room).source called x) ts ≡ Got u r → (read None (again (λ _ t. in_block t) (λ b. (level room).source called b) x) ts ≡ read None (again (λ _ t. in_block t) (λ b. (level room).source called b) u) r) × (length r < length ts)
source_turn room x ts u r h e = turn None (λ _ t. in_block t) (λ b. (level room).source called b) x ts u r (source_turns (level room) (level_known room) x) h e

pub list_turn : (room : ℕ) (x : Row) (ts : List Next) (u : Row) (r : List Next) → shows p.Comma (first ts None) ≡ true → read None (list_more (level room) x) ts ≡ Got u r → (read None (again (λ _ t. shows p.Comma t) (list_more (level room)) x) ts ≡ read None (again (λ _ t. shows p.Comma t) (list_more (level room)) u) r) × (length r < length ts)
unfolding list_more primaries.item words.sign
list_turn room x ts u r h e = turn None (λ _ t. shows p.Comma t) (list_more (level room)) x ts u r (list_turns (level room) (level_known room) x) h e

pub object_turn : (here room : ℕ) (x : Entries) (ts : List Next) (u : Entries) (r : List Next) → shows p.Comma (first ts None) ≡ true → read None (object_more here (level room) x) ts ≡ Got u r → (read None (again (λ _ t. shows p.Comma t) (object_more here (level room)) x) ts ≡ read None (again (λ _ t. shows p.Comma t) (object_more here (level room)) u) r) × (length r < length ts)
unfolding object_more words.sign
object_turn here room x ts u r h e = turn None (λ _ t. shows p.Comma t) (object_more here (level room)) x ts u r (object_turns (level room) (level_known room) here x) h e

pub argument_turn : (room : ℕ) (x : Row) (ts : List Next) (u : Row) (r : List Next) → shows p.Comma (first ts None) ≡ true → read None (argument_more (level room) x) ts ≡ Got u r → (read None (again (λ _ t. shows p.Comma t) (argument_more (level room)) x) ts ≡ read None (again (λ _ t. shows p.Comma t) (argument_more (level room)) u) r) × (length r < length ts)
unfolding argument_more primaries.item words.sign
argument_turn room x ts u r h e = turn None (λ _ t. shows p.Comma t) (argument_more (level room)) x ts u r (argument_turns (level room) (level_known room) x) h e

pub link_turn : (class : Kind → Bool) (here room : ℕ) (x : Operand) (ts : List Next) (u : Operand) (r : List Next) → of class (first ts None) ≡ true → read None (link class here (level room) x) ts ≡ Got u r → (read None (again (λ _ t. of class t) (link class here (level room)) x) ts ≡ read None (again (λ _ t. of class t) (link class here (level room)) u) r) × (length r < length ts)
link_turn class here room x ts u r h e = turn None (λ _ t. of class t) (link class here (level room)) x ts u r (link_turns (level room) (level_known room) class here x) h e

pub operation_turn : (here room : ℕ) (context : Context) (n : ℕ) (x : Operand) (ts : List Next) (u : Operand) (r : List Next) → 0 < n → binds context (first ts None) ≡ n → read None (operation here (level room) context n x) ts ≡ Got u r → (read None (again (λ _ t. binds_at context n t) (operation here (level room) context n) x) ts ≡ read None (again (λ _ t. binds_at context n t) (operation here (level room) context n) u) r) × (length r < length ts)
operation_turn here room context zero x ts u r k h e = absurd (omega arith)
operation_turn here room context (suc n) x ts u r k h e = turn None (λ _ t. binds_at context (suc n) t) (operation here (level room) context (suc n)) x ts u r (operation_turns (level room) (level_known room) here context n x) (eq-eqb _ _ h) e

pub comma_turn : (here room : ℕ) (context : Context) (x : Operand) (ts : List Next) (u : Operand) (r : List Next) → shows p.Comma (first ts None) ≡ true → read None (comma here (level room) context x) ts ≡ Got u r → (read None (again (λ _ t. shows p.Comma t) (comma here (level room) context) x) ts ≡ read None (again (λ _ t. shows p.Comma t) (comma here (level room) context) u) r) × (length r < length ts)
comma_turn here room context x ts u r h e = turn None (λ _ t. shows p.Comma t) (comma here (level room) context) x ts u r (comma_turns (level room) (level_known room) here context x) h e

pub block_turn : (inside : Inside) (room : ℕ) (x : Series) (ts : List Next) (u : Series) (r : List Next) → in_block (first ts None) ≡ true → read None (series_more inside (level room) x) ts ≡ Got u r → (read None (again (λ _ t. in_block t) (series_more inside (level room)) x) ts ≡ read None (again (λ _ t. in_block t) (series_more inside (level room)) u) r) × (length r < length ts)
unfolding series_more
block_turn inside room x ts u r h e = turn None (λ _ t. in_block t) (series_more inside (level room)) x ts u r (block_turns (level room) (level_known room) inside x) h e

pub case_turn : (inside : Inside) (room : ℕ) (x : Series) (ts : List Next) (u : Series) (r : List Next) → in_case (first ts None) ≡ true → read None (series_more inside (level room) x) ts ≡ Got u r → (read None (again (λ _ t. in_case t) (series_more inside (level room)) x) ts ≡ read None (again (λ _ t. in_case t) (series_more inside (level room)) u) r) × (length r < length ts)
unfolding series_more
case_turn inside room x ts u r h e = turn None (λ _ t. in_case t) (series_more inside (level room)) x ts u r (case_turns (level room) (level_known room) inside x) h e

pub decl_turn : (here room : ℕ) (context : Context) (x : Decls) (ts : List Next) (u : Decls) (r : List Next) → shows p.Comma (first ts None) ≡ true → read None (decl_more here (level room) context x) ts ≡ Got u r → (read None (again (λ _ t. shows p.Comma t) (decl_more here (level room) context) x) ts ≡ read None (again (λ _ t. shows p.Comma t) (decl_more here (level room) context) u) r) × (length r < length ts)
decl_turn here room context x ts u r h e = turn None (λ _ t. shows p.Comma t) (decl_more here (level room) context) x ts u r (decl_turns (level room) (level_known room) here context x) h e

pub switch_turn : (inside : Inside) (room : ℕ) (x : Cases) (ts : List Next) (u : Cases) (r : List Next) → is_case (first ts None) ≡ true → read None (case_part (level room) inside x) ts ≡ Got u r → (read None (again (λ _ t. is_case t) (case_part (level room) inside) x) ts ≡ read None (again (λ _ t. is_case t) (case_part (level room) inside) u) r) × (length r < length ts)
switch_turn inside room x ts u r h e = turn None (λ _ t. is_case t) (case_part (level room) inside) x ts u r (switch_turns (level room) (level_known room) inside x) h e

pub program_turn : (x : Body) (ts : List Next) (u : Body) (r : List Next) → is_there (first ts None) ≡ true → read None ((level 128).source outside x) ts ≡ Got u r → (read None (again (λ _ t. is_there t) (λ b. (level 128).source outside b) x) ts ≡ read None (again (λ _ t. is_there t) (λ b. (level 128).source outside b) u) r) × (length r < length ts)
program_turn x ts u r h e = turn None (λ _ t. is_there t) (λ b. (level 128).source outside b) x ts u r (program_turns x) h e

pub operation_failed : (X : Outcome Next Fault Operand) (here room : ℕ) (context : Context) (n : ℕ) (x : Operand) (ts : List Next) (e : ParseError) (new : List Next) (res : Result Operand ParseError) → 0 < n → X ≡ read None (again (λ _ t. binds_at context n t) (operation here (level room) context n) x) ts → binds context (first ts None) ≡ n → Reads (read None (operation here (level room) context n x) ts) (failed e) new → IsErr res × IsErrAnd res (λ g. g ≡ e) → Reads X res new
operation_failed X here room context zero x ts e new res k inv h r q = absurd (omega arith)
operation_failed X here room context (suc n) x ts e new res k inv h r q = last_failed X (λ _ t. binds_at context (suc n) t) (operation here (level room) context (suc n)) x ts e new res (operation_turns (level room) (level_known room) here context n x) inv (eq-eqb _ _ h) r q
