-- The law is the lemma on outlines.
use Rattle.subtree_build.specs.Outline.{outline}
use Rattle.subtree_build.proofs.Bounds.{leaves_no_nearer}
use Rattle.subtree_build.proofs.laws.leaf_bound_is_no_less.Goals as goal

pub returns : goal.returns
returns c =
    leaves_no_nearer c.args.view.now c.args.index.now.leaves c.args.word.now
    (outline c.args.node.now) c.segments-segments.ensures.is_view c.segments-parts.ensures.is_word
    c.requires
