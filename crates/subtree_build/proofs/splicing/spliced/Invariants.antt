-- The lists of the buffers so far, which are emptied.
use Rattle.std.proofs.Common.{◌≡◌, ◌++◌, map, take, drop}
use Rattle.summary_phase.specs.Roots.{root_of_all}
use Rattle.subtree_build.specs.Splicing.{emptied}
use Rattle.subtree_build.proofs.splicing.spliced.Given as goal

abbrev pub invariant-loop-own : goal.invariant-loop-own
invariant-loop-own l =
    (l.list ≡ root_of_all (take l.own-index l.initial.buffers) l.root)
    × (l.buffers ≡ map (emptied l.root) (take l.own-index l.initial.buffers) ++ drop l.own-index l.initial.buffers)
