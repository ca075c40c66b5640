-- The box of one place more stands behind the others.
use Rattle.std.proofs.Common.{◌∙◌, ◌-◌, take, drop}
use Rattle.mean_bound.specs.Boxes.{box_of}
use Rattle.subtree_build.specs.declared.leaf.LeafPlace.{LeafPlace}
use Rattle.subtree_build.proofs.Meaning.{map_push}
use Rattle.subtree_build.proofs.boxes.boxes_at.Goals as goal

pub loop-place-preserved : goal.loop-place-preserved
loop-place-preserved c =
    let means = c.args.means.now in
    c.in_ok-push.ensures.items
    ∙ map_push (λ (p : LeafPlace). box_of (take (p.end - p.first) (drop p.first means))) c.args.places.now
    c.loop-place.place-index c.place-item.result c.loop-place.boxes.items c.around.result
    c.loop-place-test.true c.place-item.is c.loop-place.invariant c.around.ensures
