-- No searcher so far has put the leaf.
use Rattle.std.proofs.Common.{◌≡◌, ◌≢◌, ◌<◌, ℕ, Some, true, slice_get}
use Rattle.live_query.specs.Parts.{Resting}
use Rattle.live_query.proofs.marked.was_put.Given as goal

abbrev pub invariant-loop-searcher : goal.invariant-loop-searcher
invariant-loop-searcher g l =
    (j : ℕ) (c : Resting) → j < l.searcher-index → slice_get l.team j ≡ Some c
    → slice_get c.hand.marks l.leaf ≢ Some true
