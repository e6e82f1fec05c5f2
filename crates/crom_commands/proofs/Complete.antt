-- What whole requests end with.
use Rattle.std.proofs.Common.{◌≡◌, ◌⊎◌, ℕ, Result, Ok, Err, inl, inr, refl}
use Rattle.std.specs.declared.alloc.AllocError.{AllocError}
use Rattle.byte_ports.specs.Streams.{Rose}
use Rattle.crom_commands.specs.declared.status.Status.TheVariants as s
use Rattle.crom_host.specs.declared.stream.Ended.{Ended}
use Rattle.crom_host.specs.declared.stream.Ended.TheVariants.{End, Closed, Halted, Truncated, RequestBound, ReadFault, WriteFault}
use Rattle.crom_host.specs.Stream.{StreamCauses, IsWholeEnd}
use Rattle.crom_commands.specs.Headline.{status_of}

-- with whole requests and no fault a stream comes to its end, or finds no memory
pub complete_of : (outcome : Result Ended AllocError) (input input' output output' : ℕ) → IsWholeEnd outcome → StreamCauses outcome input input' output output'
    → (Rose input input' → ⊥) → (Rose output output' → ⊥) → (status_of outcome ≡ s.Ended) ⊎ (status_of outcome ≡ s.NoMemory)
complete_of (Ok End) _ _ _ _ w c b d = inl refl
complete_of (Ok Closed) _ _ _ _ w c b d = inl refl
complete_of (Ok Halted) _ _ _ _ w c b d = inl refl
complete_of (Ok Truncated) _ _ _ _ w c b d = absurd w
complete_of (Ok RequestBound) _ _ _ _ w c b d = absurd w
complete_of (Ok ReadFault) _ _ _ _ w c b d = absurd (b c.0)
complete_of (Ok WriteFault) _ _ _ _ w c b d = absurd (d c.1)
complete_of (Err e) _ _ _ _ w c b d = inr refl
