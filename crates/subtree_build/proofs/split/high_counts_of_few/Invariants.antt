-- The counts of the members so far, none of them above the number of these members.
use Rattle.std.proofs.Common.{◌≡◌, ℕ, ◌<◌, ◌≤◌, get_or, length, take}
use Rattle.std.specs.Prelude.{count_by}
use Rattle.std.specs.Simd.Lanes.{Each1}
use Rattle.subtree_build.specs.Splitting.{goes_high}
use Rattle.subtree_build.proofs.split.high_counts_of_few.Given as goal

abbrev pub invariant-loop-member : goal.invariant-loop-member
invariant-loop-member l = record {
  lanes : length l.counts ≡ 16;
  counted : (j : ℕ) → j < length l.word → get_or l.counts j 0 ≡ count_by (goes_high l.word j) (take l.member-index l.members);
  few : Each1 (λ n. n ≤ l.member-index) l.counts;
}
