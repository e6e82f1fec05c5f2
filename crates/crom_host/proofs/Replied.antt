-- From what the makers of replies promise to the replies of the host.
use Rattle.std.proofs.Common.{◌≡◌, Result, Ok, Err}
use Rattle.std.specs.Prelude.{IfOk}
use Rattle.std.specs.declared.alloc.AllocError.{AllocError}
use Rattle.http_wire.specs.Reply as written
use Rattle.crom_host.specs.Replying.{Reply, status, is_html, allow, body, IsOf}

-- What is made is this reply, where it has its code, its kind, its method and its body.
pub is_of : (made : Result written.Reply AllocError) (r : Reply) → IfOk made (λ w. w.status ≡ status r) → IfOk made (λ w. w.html ≡ is_html r)
    → IfOk made (λ w. w.allow ≡ allow r) → IfOk made (λ w. w.body.items ≡ body r) → IfOk made (λ w. IsOf w r)
is_of (Ok w) r code html allowed text = record { code = code; html = html; allowed = allowed; text = text }
is_of (Err e) r code html allowed text = tt
