use Rattle.certificate.specs.Missing.{MissesNoneOf}
use Rattle.certificate.proofs.misses.misses_one_of.Given as goal

abbrev pub invariant-loop-number : goal.invariant-loop-number
invariant-loop-number g l = MissesNoneOf (g.R.Rows.collection l.rows) l.query l.last l.answers l.first l.number
