-- The rows of the members so far stand in front.
use Rattle.std.proofs.Common.{◌≡◌, ◌*◌, take}
use Rattle.subtree_build.specs.Means.{all_values}
use Rattle.subtree_build.proofs.fetched.fetch.Given as goal

abbrev pub invariant-loop-i : goal.invariant-loop-i
invariant-loop-i g l =
    take (l.i * (g.R.Rows.collection l.fn.rows).points) l.into
    ≡ all_values (g.R.Rows.collection l.fn.rows) (take l.i l.fn.members)
