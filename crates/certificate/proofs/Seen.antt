-- What is seen where nothing was read.
use Rattle.std.proofs.Common.{◌≡◌, Option, None, sym, subst}
use Rattle.certificate.specs.Fields.{Sees}

-- where nothing is read, nothing is seen
pub none_seen : {X Y : Type 0} (view : X → Y) (r : Option X) (read : Option Y) → r ≡ None → read ≡ None → Sees view r read
none_seen {X} view r read none e = subst (λ (o : Option X). Sees view o read) (sym none) e
