-- The root numbers so far fit, and each is below the next.
use Rattle.std.proofs.Common.{ℕ, ◌+◌, ◌^◌, ◌<◌, get_or}
use Rattle.subtree_build.proofs.assembly.are_roots.Given as goal

abbrev pub invariant-loop-i : goal.invariant-loop-i
invariant-loop-i l = record {
  fit : (k : ℕ) → k < l.i → get_or l.roots k 0 < 2 ^ l.segments;
  ascend : (k : ℕ) → k + 1 < l.i → get_or l.roots k 0 < get_or l.roots (k + 1) 0;
}
