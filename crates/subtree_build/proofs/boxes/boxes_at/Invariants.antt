-- The boxes of the places so far.
use Rattle.std.proofs.Common.{◌≡◌, take}
use Rattle.subtree_build.specs.Places.{boxes_seen}
use Rattle.subtree_build.proofs.boxes.boxes_at.Given as goal

abbrev pub invariant-loop-place : goal.invariant-loop-place
invariant-loop-place l = l.boxes.items ≡ boxes_seen l.means (take l.place-index l.places)
