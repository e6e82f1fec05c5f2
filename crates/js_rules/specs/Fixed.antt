-- What doesn't change while page code runs (this project's own): the programs of the page's scripts, what an
-- address of a request stands for, and the bounds that rules name.
use Rattle.std.specs.Prelude.{sum, map, ℕ, ◌+◌, ◌-◌, Bool, false, not, ◌&&◌, ◌||◌, cond, ◌==◌, nat_lt, nat_eq, List, [], ◌∷◌, length, Option, Some, None, slice_get, option_map, is_some}
use Rattle.std.specs.List.{list_any}
use Rattle.page_units.specs.declared.value.CellName.{CellName}
use Rattle.page_units.specs.declared.value.Value.{Value}
use Rattle.cell_places.specs.declared.kind.CellKind.{CellKind}
use Rattle.cell_places.specs.declared.kind.CellKind.TheVariants as k
use Rattle.js_tree.specs.declared.code.FnCode.{FnCode}
use Rattle.js_tree.specs.declared.code.Program.{Program}
pub use Rattle.js_rules.specs.declared.frame.Frame.{Frame}

-- What an address of a request stands for, joined to the page's own (URL Standard): an address, none, or one of
-- another origin.
pub data Resolved : Type 0 where
  url : List ℕ → Resolved
  bad_url cross_origin : Resolved

pub record Fixed : Type 0 where
  -- the programs of the page's scripts, in tree order
  pub programs : List Program
  -- what an address of a request stands for
  pub resolve : List ℕ → Resolved
  -- how many guesses the page may have
  pub guesses : ℕ
  -- how many steps a task may take
  pub task_steps : ℕ

-- where a body is evaluated
abbrev pub frame : CellName → Value → ℕ → Frame
frame scope this first = record { scope = scope; this = this; first = first }

-- the same frame, in an inner scope
abbrev pub in_scope : CellName → Frame → Frame
in_scope scope f = frame scope f.this f.first

-- ---- the codes of all programs, numbered one program after another

abbrev pub codes_in : List Program → ℕ
codes_in programs = sum (map (λ (p : Program). length p.codes) programs)

-- how many codes there are
abbrev pub codes_of : Fixed → ℕ
codes_of fixed = codes_in fixed.programs

-- A code, the number of the first code of its program, and whether a declaration makes its function.
pub record Coded : Type 0 where
  pub code : FnCode
  pub first : ℕ
  pub is_declared : Bool

abbrev pub is_listed : ℕ → List ℕ → Bool
is_listed n ns = list_any (λ m. m == n) ns

-- a declaration of the program makes the function with this code
abbrev pub declares : Program → ℕ → Bool
declares p n = is_listed n p.funs || list_any (λ (c : FnCode). is_listed n c.funs) p.codes

abbrev pub coded : Program → ℕ → ℕ → FnCode → Coded
coded p first n code = record { code = code; first = first; is_declared = declares p n }

abbrev pub code_from : ℕ → List Program → ℕ → Option Coded
code_from first [] n = None
code_from first (p ∷ more) n = cond (nat_lt n (length p.codes))
    (option_map (coded p first n) (slice_get p.codes n))
    (code_from (first + length p.codes) more (n - length p.codes))

-- the code of a number
abbrev pub code_of : Fixed → ℕ → Option Coded
code_of fixed n = code_from 0 fixed.programs n

-- a script, with the number of its first code
abbrev pub script_from : ℕ → List Program → ℕ → Option (Program × ℕ)
script_from first [] n = None
script_from first (p ∷ more) n =
    cond (n == 0) (Some (p, first)) (script_from (first + length p.codes) more (n - 1))

abbrev pub script_of : Fixed → ℕ → Option (Program × ℕ)
script_of fixed n = script_from 0 fixed.programs n

-- ---- the name of a function expression

abbrev pub names_itself : Option Coded → Bool
names_itself None = false
names_itself (Some c) = not c.is_declared && is_some c.code.name

-- A function of this kind is the named expression whose own name this scope binds (13): no other function has
-- that scope.
abbrev pub is_own_scope : Fixed → CellName → CellKind → Bool
is_own_scope fixed owner (k.Fun code scope) =
    nat_eq scope.0 owner.0 && names_itself (code_of fixed code)
is_own_scope fixed owner _ = false
