-- The marks so far are what the members of the leaves so far weigh, up to 2.
use Rattle.std.proofs.Common.{◌≡◌, ℕ, ◌<◌, length, min, slice_index, take}
use Rattle.list_totals.specs.Totals.{total}
use Rattle.saved_index.specs.Membership.{leaf_weight}
use Rattle.saved_index.proofs.fitting.first_unfit.Given as goal

abbrev pub invariant-loop-l : goal.invariant-loop-l
invariant-loop-l l = record {
  long : length l.marks.items ≡ l.count;
  each : (i : ℕ) → i < l.count → slice_index l.marks.items i ≡ min 2 (total (leaf_weight i) (take l.l l.index.leaves));
}
