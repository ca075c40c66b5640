-- The groups so far are those of the first boxes, and the others are left.
use Rattle.std.proofs.Common.{◌≡◌, ◌*◌, length, drop}
use Rattle.subtree_build.proofs.Grouping.{FirstGroups}
use Rattle.subtree_build.proofs.boxes.grouped.Given as goal

abbrev pub invariant-loop-rest : goal.invariant-loop-rest
invariant-loop-rest l = record {
  left : l.rest ≡ drop (length l.groups.items * l.size) l.boxes;
  first : FirstGroups l.size l.boxes (length l.groups.items) l.groups.items;
}

abbrev pub decreases-loop-rest : goal.decreases-loop-rest
decreases-loop-rest l = length l.rest
