-- The law is the lemma on boxes.
use Rattle.mean_bound.proofs.Boxes.{box_below}
use Rattle.mean_bound.proofs.laws.box_bound_is_no_greater.Goals as goal

pub returns : goal.returns
returns c = box_below c.args.view.now c.args.means.now c.args.i c.requires
