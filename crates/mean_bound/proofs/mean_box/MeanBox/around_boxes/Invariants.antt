-- The box of the boxes so far, the last ones first.
use Rattle.std.proofs.Common.{◌≡◌, ◌-◌, ◌≤◌, length, drop}
use Rattle.mean_bound.specs.Boxes.{box_of_boxes}
use Rattle.mean_bound.proofs.mean_box.MeanBox.around_boxes.Given as goal

abbrev pub invariant-loop-i : goal.invariant-loop-i
invariant-loop-i l = record {
  inside : l.i ≤ length l.boxes;
  around : l.around ≡ box_of_boxes (drop (length l.boxes - l.i) l.boxes);
}
