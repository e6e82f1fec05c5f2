-- Words are of one command at most.
use Rattle.std.proofs.Common.{◌≡◌, ℕ, List, Option, Some, None, subst}
use Rattle.crom_commands.specs.declared.status.Status.{Status}
use Rattle.crom_commands.specs.declared.status.Status.TheVariants.{Usage}
use Rattle.crom_commands.specs.Checking.{EndsCheck, RunsCheck}
use Rattle.crom_commands.specs.Headline.{Counts, RunsStdio}
use Rattle.crom_commands.specs.Words.{Command, stdio, check}

module _ (given : Option Command) (name other : List ℕ) where
  pub same_stdio : Some (stdio name) ≡ given → given ≡ Some (stdio other) → name ≡ other
  same_stdio is also = cc

  pub same_check : Some (check name) ≡ given → given ≡ Some (check other) → name ≡ other
  same_check is also = cc

  pub stdio_or_check : Some (stdio name) ≡ given → given ≡ Some (check other) → ⊥
  stdio_or_check is also = cc

  pub check_or_none : Some (check name) ≡ given → given ≡ None → ⊥
  check_or_none is also = cc

  pub check_or_stdio : Some (check name) ≡ given → given ≡ Some (stdio other) → ⊥
  check_or_stdio is also = cc

-- checking never ends with usage
pub never_usage : (status : Status) → EndsCheck status → status ≡ Usage → ⊥
never_usage status ends same = subst EndsCheck same ends

-- What is said of one name is said of another that is the same.
module _ (status : Status) (file : List ℕ → Option (List ℕ)) (name other : List ℕ) where
  pub stdio_at : (left left' told told' : Option (List ℕ)) (old new : Counts) → name ≡ other → RunsStdio status (file name) left left' told told' old new → RunsStdio status (file other) left left' told told' old new
  stdio_at left left' told told' old new same runs = subst (λ (z : List ℕ). RunsStdio status (file z) left left' told told' old new) same runs

  pub check_at : (told told' : Option (List ℕ)) (old new : Counts) → name ≡ other → RunsCheck status (file name) told told' old new → RunsCheck status (file other) told told' old new
  check_at told told' old new same runs = subst (λ (z : List ℕ). RunsCheck status (file z) told told' old new) same runs
