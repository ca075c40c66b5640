use Rattle.std.proofs.Common.{◌≡◌, drop}
use Rattle.certificate.specs.Refusals.{first_refusal}
use Rattle.certificate.specs.Verdict.{missed_refusal, misses_refusal}
use Rattle.certificate.proofs.misses.check_misses.Given as goal

abbrev pub invariant-loop-number : goal.invariant-loop-number
invariant-loop-number g l =
    misses_refusal (g.R.Rows.collection l.rows) l.b l.query l.last l.answers
    ≡ first_refusal (missed_refusal l.b l.query l.last l.answers) l.number
    (drop l.number (g.R.Rows.collection l.rows).series)
