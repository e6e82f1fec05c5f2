-- Reads one after another.
use Rattle.std.proofs.Common.{◌≡◌, ◌<◌, ◌≤◌, ℕ, List, ◌++◌, length, refl, sym, subst}
use Rattle.byte_ports.specs.declared.source.Took.{Took}
use Rattle.byte_ports.specs.declared.source.Took.TheVariants.{Got}
use Rattle.http_wire.specs.Bounds.{read_bytes}
use Rattle.http_wire.specs.Outcomes.{IsUnfinished}
use Rattle.http_wire.specs.Reading.{ReadsOn, none, more}

-- a read of bytes goes on with the reads
pub read_on : {S : Type 0} (once : S → Took → S → Type 0) (held : List ℕ) (source : S) (kept came kept' : List ℕ) (count : ℕ) (mid new : S) → ReadsOn once held source kept mid → IsUnfinished kept → once mid (Got count) new → count ≡ length came → 0 < length came → length came ≤ read_bytes → kept' ≡ kept ++ came → ReadsOn once held source kept' new
read_on once held source kept came kept' count mid new reads open_yet read many some few then_kept =
    let step = more kept came mid new reads open_yet (subst (λ (n : ℕ). once mid (Got n) new) many read) some few in
    subst (λ (z : List ℕ). ReadsOn once held source z new) (sym then_kept) step

-- where what is held is no unfinished request, there is no read
pub no_reads : {S : Type 0} (once : S → Took → S → Type 0) (held : List ℕ) (source : S) (kept : List ℕ) (new : S) → ReadsOn once held source kept new → ¬ (IsUnfinished held) → (new ≡ source) × (kept ≡ held)
no_reads once held source kept new none shown = (refl, refl)
no_reads once held source kept new (more last came mid _ reads open_yet read some few) shown =
    let before_it = no_reads once held source last mid reads shown in
    absurd (shown (subst IsUnfinished before_it.1 open_yet))
