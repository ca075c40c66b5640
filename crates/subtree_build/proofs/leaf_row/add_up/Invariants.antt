-- What is left of the members beside those of the leaves so far.
use Rattle.std.proofs.Common.{◌≡◌, ◌+◌, take}
use Rattle.list_totals.specs.Totals.{total}
use Rattle.subtree_build.proofs.leaf_row.add_up.Given as goal

abbrev pub invariant-loop-i : goal.invariant-loop-i
invariant-loop-i l = total (λ n. n) (take l.i l.counts) + l.left ≡ l.members
