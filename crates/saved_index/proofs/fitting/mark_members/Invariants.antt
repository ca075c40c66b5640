-- The marks so far, each raised by what the members so far weigh for its series.
use Rattle.std.proofs.Common.{◌≡◌, ℕ, ◌+◌, ◌<◌, ◌≤◌, length, min, slice_index, take, All}
use Rattle.list_totals.specs.Totals.{total}
use Rattle.saved_index.specs.Membership.{weight_for}
use Rattle.saved_index.proofs.fitting.mark_members.Given as goal

abbrev pub invariant-loop-member : goal.invariant-loop-member
invariant-loop-member l = record {
  each : (i : ℕ) → i < length l.fn.marks → slice_index l.marks i
      ≡ min 2 (slice_index l.fn.marks i + total (weight_for i l.word) (take l.member-index l.members));
  small : All (λ mark. mark ≤ 2) l.marks;
}
