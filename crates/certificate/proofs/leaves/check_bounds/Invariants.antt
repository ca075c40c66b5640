use Rattle.std.proofs.Common.{◌≡◌, drop}
use Rattle.certificate.specs.Refusals.{first_refusal}
use Rattle.certificate.specs.Verdict.{leaf_bound_refusal, bounds_refusal}
use Rattle.certificate.proofs.leaves.check_bounds.Given as goal

abbrev pub invariant-loop-l : goal.invariant-loop-l
invariant-loop-l l =
    bounds_refusal l.b l.view l.leaves ≡ first_refusal (leaf_bound_refusal l.b l.view) l.l (drop l.l l.leaves)
