-- The members so far are below the count, and each is below the next.
use Rattle.std.proofs.Common.{ℕ, ◌+◌, ◌<◌, get_or}
use Rattle.isax_word.specs.declared.member.Member.{Member}
use Rattle.saved_index.proofs.savable.are_saved.Given as goal

abbrev pub invariant-loop-i : goal.invariant-loop-i
invariant-loop-i l = record {
  below : (k : ℕ) (d : Member) → k < l.i → (get_or l.members k d).number < l.count;
  ascend : (k : ℕ) (d : Member) → k + 1 < l.i → (get_or l.members k d).number < (get_or l.members (k + 1) d).number;
}
