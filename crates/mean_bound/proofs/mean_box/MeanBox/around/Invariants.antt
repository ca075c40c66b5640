-- The box of the means so far, the last ones first.
use Rattle.std.proofs.Common.{◌≡◌, ◌-◌, ◌≤◌, length, drop}
use Rattle.mean_bound.specs.Boxes.{box_of}
use Rattle.mean_bound.proofs.mean_box.MeanBox.around.Given as goal

abbrev pub invariant-loop-i : goal.invariant-loop-i
invariant-loop-i l = record {
  inside : l.i ≤ length l.means;
  around : l.around ≡ box_of (drop (length l.means - l.i) l.means);
}
