-- The places of the leaves so far.
use Rattle.std.proofs.Common.{◌≡◌, take}
use Rattle.subtree_build.specs.Grown.{members_in}
use Rattle.subtree_build.specs.Places.{places_from}
use Rattle.subtree_build.proofs.part.placed.Given as goal

abbrev pub invariant-loop-leaf : goal.invariant-loop-leaf
invariant-loop-leaf l =
    (l.places.items ≡ places_from 0 (take l.leaf-index l.leaves))
    × (l.first ≡ members_in (take l.leaf-index l.leaves))
