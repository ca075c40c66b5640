-- A leaf's word has as many parts as the view's layout has segments.
use Rattle.std.proofs.Common.{length, ap, sym, ◌∙◌}
use Rattle.subtree_build.proofs.LeafWords.{leaf_has_segments}
use Rattle.query_core.proofs.walk.given.Goals as goal

pub bound_word-bound-requires : goal.bound_word-bound-requires
bound_word-bound-requires c =
    ap length c.leaf_word.ensures
    ∙ leaf_has_segments c.args.index.now c.segments-segments.ensures.is_index c.args.leaf c.requires.leaf
    ∙ sym c.requires.segments
