use Rattle.std.proofs.Common.{◌≡◌, drop}
use Rattle.certificate.specs.Refusals.{first_refusal}
use Rattle.certificate.specs.Verdict.{leaf_low_refusal, lows_refusal}
use Rattle.certificate.proofs.leaves.check_lows.Given as goal

abbrev pub invariant-loop-l : goal.invariant-loop-l
invariant-loop-l l =
    lows_refusal l.b l.last l.leaves ≡ first_refusal (leaf_low_refusal l.b l.last) l.l (drop l.l l.leaves)
