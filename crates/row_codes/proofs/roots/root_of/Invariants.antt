-- The guess falls until its square is at most the number, and rises until that of the next is above it.
use Rattle.std.proofs.Common.{◌*◌, ◌-◌, ◌<◌, ◌≤◌}
use Rattle.row_codes.proofs.roots.root_of.Given as goal

abbrev pub invariant-loop-root : goal.invariant-loop-root
invariant-loop-root l = l.root < 4294967296

abbrev pub decreases-loop-root : goal.decreases-loop-root
decreases-loop-root l = l.root

abbrev pub invariant-loop-root-2 : goal.invariant-loop-root-2
invariant-loop-root-2 l = record {
  low : l.root * l.root ≤ l.n;
  small : l.root < 2147483648;
}

abbrev pub decreases-loop-root-2 : goal.decreases-loop-root-2
decreases-loop-root-2 l = l.n - l.root
