-- The fours before this one have met the members of the stretch, and those from it on all before.
use Rattle.std.proofs.Common.{length}
use Rattle.std.specs.List.{AllWithin}
use Rattle.group_answer.specs.Sweeping.{AreSwept}
use Rattle.group_answer.proofs.sweep.sweep_stretch.Given as goal

abbrev pub invariant-loop-four : goal.invariant-loop-four
invariant-loop-four g l = record {
  done : AllWithin (AreSwept g.R.Rows.collection l.asked l.to) l.fours 0 l.four-index;
  left : AllWithin (AreSwept g.R.Rows.collection l.asked l.from) l.fours l.four-index (length l.fours);
}
