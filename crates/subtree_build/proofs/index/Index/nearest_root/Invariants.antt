-- The nearest of the root children seen so far, and its bound.
use Rattle.std.proofs.Common.{◌≡◌}
use Rattle.subtree_build.specs.Start.{root_bound}
use Rattle.subtree_build.proofs.Nearest.{IsLeastOf}
use Rattle.subtree_build.proofs.index.Index.nearest_root.Given as goal

abbrev pub invariant-loop-i : goal.invariant-loop-i
invariant-loop-i l =
    (l.least ≡ root_bound l.view l.self l.nearest) × IsLeastOf l.view l.self l.i l.nearest
