-- What is left of the root children lies among all of them, and gets less.
use Rattle.std.proofs.Common.{◌-◌, ◌≤◌, length}
use Rattle.nearest_answer.proofs.first_leaf.root_with.Given as goal

abbrev pub invariant-loop-first : goal.invariant-loop-first
invariant-loop-first l = l.end ≤ length l.index.roots

abbrev pub decreases-loop-first : goal.decreases-loop-first
decreases-loop-first l = l.end - l.first
