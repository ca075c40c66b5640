use Rattle.std.proofs.Common.{◌*◌}
use Rattle.certificate.specs.Missing.{MissNoneOf}
use Rattle.certificate.proofs.misses.is_any_missed.Given as goal

abbrev pub invariant-loop-group : goal.invariant-loop-group
invariant-loop-group g l =
    MissNoneOf (g.R.Rows.collection l.rows) (g.Q.Rows.collection l.queries) l.k 0 (l.group * 128) l.blocks
