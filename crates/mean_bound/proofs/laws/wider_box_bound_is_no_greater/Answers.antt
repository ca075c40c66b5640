-- The law is the lemma on boxes of boxes.
use Rattle.mean_bound.proofs.Boxes.{wider_below}
use Rattle.mean_bound.proofs.laws.wider_box_bound_is_no_greater.Goals as goal

pub returns : goal.returns
returns c = wider_below c.args.view.now c.args.boxes.now c.args.i c.requires
