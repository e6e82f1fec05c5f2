-- What the rules of a level are.
use Rattle.std.proofs.Common.{◌≡◌, Bool, false, ℕ, zero, suc, ◌-◌, ◌<◌, List, Some, None, refl, sym, ap, subst, ◌∙◌, Result, Err, arith}
use Rattle.grammar.specs.Reading.{Outcome, Got, Bad, and_then, read}
use Rattle.js_nodes.specs.declared.fault.Fault.{Fault}
use Rattle.js_nodes.specs.declared.fault.ParseError.{ParseError}
use Rattle.std.specs.Prelude.{Option}
use Rattle.std.proofs.Math.Dec.{eqb-zero-suc}
use Rattle.grammar.specs.Grammar.{again, first}
use Rattle.js_tree.specs.declared.code.FnCode.{FnCode}
use Rattle.js_nodes.specs.declared.context.Context.{Context}
use Rattle.js_nodes.specs.declared.context.Inside.{Inside}
use Rattle.js_nodes.specs.declared.operand.Operand.{Operand}
use Rattle.js_nodes.specs.declared.series.State.{State}
use Rattle.js_nodes.specs.Operands.{binds}
use Rattle.js_nodes.specs.Operators.{is_prefix}
use Rattle.js_parser.specs.Primary.{primary}
use Rattle.js_nodes.specs.Next.{Next, of, is_name, shows, says}
use Rattle.js_cursor.specs.Words.{sound}
use Rattle.js_cursor.specs.Questions.{operand_too_deep, unless_name}
use Rattle.js_cursor.specs.Rules.{lone_name}
use Rattle.js_parser.specs.Expressions.{unary, binary, binds_at, operation}
use Rattle.js_parser.specs.Levels.{Level}
use Rattle.js_parser.specs.Sources.{level, no_level, next_level, statement}
use Rattle.js_nodes.specs.Classes.{opens}
use Rattle.js_cursor.specs.Reads.{Reads, Unfits}
use Rattle.js_cursor.proofs.Refused.{bad_reads}
use Rattle.js_cursor.specs.Words as words
use Rattle.js_parser.specs.Primary as primaries
use Rattle.js_parser.specs.Sources as sources

-- Where a level is left, its rules stand on those of the next.
pub level_some : (room : ℕ) → 0 < room → level room ≡ next_level room (level (room - 1))
unfolding level
level_some zero h = absurd (omega arith)
level_some (suc room) h = let e : suc room - 1 ≡ room = omega arith in rw e refl

pub level_none : (room : ℕ) → room ≡ 0 → level room ≡ no_level
unfolding level
level_none room z = rw z refl

-- What a function reads where a level is left, the rule of the level reads.
pub some_reads : {A : Type 0} (field : Level → Outcome Next Fault A) (room : ℕ) (res : Result A ParseError) (new : List Next) → 0 < room → Reads (field (next_level room (level (room - 1)))) res new → Reads (field (level room)) res new
some_reads {A} field room res new h k = subst (λ (l : Level). Reads (field l) res new) (sym (level_some room h)) k

failed : {A : Type 0} → ParseError → Result A ParseError
failed e = Err e

-- Where none is left, it is refused so.
pub none_reads : {A : Type 0} (field : Level → Outcome Next Fault A) (room : ℕ) (w : Option Fault) (ts : List Next) (e : ParseError) → room ≡ 0 → field no_level ≡ Bad w ts → Unfits w e → Reads (field (level room)) (Err e) ts
none_reads {A} field room w ts e z q h = subst (λ (l : Level). Reads (field l) (Err e) ts) (sym (level_none room z)) (bad_reads w ts e (field no_level) q h)

-- A token of no class that shows this flaw is refused so.
pub sound_bad : (flaw : Next → Option Fault) (class : Next → Bool) (ts : List Next) (w : Option Fault) → flaw (first ts None) ≡ w → class (first ts None) ≡ false → read None (sound flaw class) ts ≡ Bad w ts
unfolding sound
sound_bad flaw class ts None q h = rw q rw h refl
sound_bad flaw class ts (Some f) q h = rw q refl

lone_flaw : (t : Next) → of is_name t ≡ false → unless_name t ≡ operand_too_deep t
lone_flaw t h = rw h refl

-- What is no name is refused as an operand that has no level.
pub lone_refused : (codes : List FnCode) (ts : List Next) (e : ParseError) → of is_name (first ts None) ≡ false → Unfits (operand_too_deep (first ts None)) e → Reads (read None (lone_name codes) ts) (Err e) ts
unfolding lone_name sound
lone_refused codes ts e h u = bad_reads (operand_too_deep (first ts None)) ts e (read None (lone_name codes) ts) (rw (sound_bad unless_name (of is_name) ts (operand_too_deep (first ts None)) (lone_flaw (first ts None) h) h) refl) u

-- ---- operators between two operands

pub binary_none : (room : ℕ) (below : Level) (context : Context) (n : ℕ) (codes : List FnCode) (ts : List Next) (res : Result Operand ParseError) (new : List Next) → n ≡ 0 → Reads (read None (unary room below context codes) ts) res new → Reads (read None (binary room below context n codes) ts) res new
unfolding binary
binary_none room below context n codes ts res new z h = subst (λ (m : ℕ). Reads (read None (binary room below context m codes) ts) res new) (sym z) h

pub binary_some : (room : ℕ) (below : Level) (context : Context) (n : ℕ) (codes : List FnCode) (ts : List Next) → 0 < n → read None (binary room below context n codes) ts ≡ and_then (read None (binary room below context (n - 1) codes) ts) (λ x r. read None (again (λ _ t. binds_at context n t) (operation room below context n) x) r)
unfolding binary
binary_some room below context zero codes ts h = absurd (omega arith)
binary_some room below context (suc n) codes ts h = let e : suc n - 1 ≡ n = omega arith in rw e refl

pub binary_begun : (room : ℕ) (below : Level) (context : Context) (n : ℕ) (codes : List FnCode) (ts : List Next) (x : Operand) (r : List Next) → 0 < n → read None (binary room below context (n - 1) codes) ts ≡ Got x r → read None (binary room below context n codes) ts ≡ read None (again (λ _ t. binds_at context n t) (operation room below context n) x) r
binary_begun room below context n codes ts x r h e = binary_some room below context n codes ts h ∙ ap (λ (o : Outcome Next Fault Operand). and_then o (λ x r. read None (again (λ _ t. binds_at context n t) (operation room below context n) x) r)) e

-- ---- at the end

pub no_operation : (room : ℕ) (below : Level) (context : Context) (n : ℕ) (x : Operand) (ts : List Next) → 0 < n → first ts None ≡ None → read None (operation room below context n x) ts ≡ Bad None ts
unfolding operation binds sound words.takes
no_operation room below context zero x ts h e = absurd (omega arith)
no_operation room below context (suc n) x ts h e = rw e rw (eqb-zero-suc n) refl

pub no_primary : (room : ℕ) (below : Level) (codes : List FnCode) (ts : List Next) → first ts None ≡ None → read None (primary room below codes) ts ≡ Bad None ts
unfolding primary shows primaries.primary_by sound
no_primary room below codes ts e = rw e refl

pub no_statement : (room : ℕ) (below : Level) (inside : Inside) (added : State) (ts : List Next) → first ts None ≡ None → read None (statement room below inside added) ts ≡ Bad None ts
unfolding statement opens shows says is_prefix sound sources.statement_by sources.told_statement
no_statement room below inside added ts e = rw e refl
