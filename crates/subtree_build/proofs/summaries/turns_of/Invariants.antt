-- One number for each worker so far.
use Rattle.std.proofs.Common.{◌≡◌, vec_len}
use Rattle.subtree_build.proofs.summaries.turns_of.Given as goal

abbrev pub invariant-loop-worker : goal.invariant-loop-worker
invariant-loop-worker l = vec_len l.turns ≡ l.worker-index
