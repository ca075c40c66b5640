-- The worker has made the root child of each place that it drew.
use Rattle.std.proofs.Common.{◌≡◌, ◌-◌, false, All}
use Rattle.subtree_build.specs.Building.{IsPartAt, places_of}
use Rattle.subtree_build.proofs.building.built.Given as goal

abbrev pub invariant-loop-place : goal.invariant-loop-place
invariant-loop-place g l =
    (l.worker.pass.claims ≡ l.claims) × (l.worker.pass.ended ≡ false)
    × (places_of l.parts.items ≡ l.worker.pass.draws)
    × All (IsPartAt l.settings l.found) l.parts.items

-- each draw leaves fewer numbers undrawn
abbrev pub decreases-loop-place : goal.decreases-loop-place
decreases-loop-place g l = l.claims.count - l.worker.pass.met
