-- The members that are left are those that are not yet counted, and no count is above the number of the others.
use Rattle.std.proofs.Common.{◌≡◌, ℕ, ◌+◌, ◌<◌, ◌≤◌, get_or, length}
use Rattle.std.specs.Prelude.{All, count_by}
use Rattle.std.specs.Simd.Lanes.{Each1}
use Rattle.subtree_build.specs.Splitting.{goes_high}
use Rattle.subtree_build.proofs.split.high_counts.Given as goal

abbrev pub invariant-loop-rest : goal.invariant-loop-rest
invariant-loop-rest l = record {
  lanes : length l.counts ≡ 16;
  segments : All (λ m. length m.full ≡ length l.word) l.rest;
  counted : (j : ℕ) → j < length l.word
      → get_or l.counts j 0 + count_by (goes_high l.word j) l.rest ≡ count_by (goes_high l.word j) l.members;
  few : Each1 (λ n. n + length l.rest ≤ length l.members) l.counts;
}

abbrev pub decreases-loop-rest : goal.decreases-loop-rest
decreases-loop-rest l = length l.rest
