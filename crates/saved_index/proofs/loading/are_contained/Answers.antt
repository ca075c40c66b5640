-- The full words have as many symbols as the leaves' words have segments; where those of all leaves are contained, all are.
use Rattle.saved_index.proofs.Contained.{all_contained}
use Rattle.saved_index.proofs.Loaded.{words_long}
use Rattle.saved_index.proofs.loading.are_contained.Goals as goal

pub contained_side_by_side-requires-clause-segments : goal.contained_side_by_side-requires-clause-segments
contained_side_by_side-requires-clause-segments g c κs within =
    let t = c.requires in
    words_long (g.R.Rows.collection c.args.rows.now) c.args.bytes.now t.spelled c.type_inv.bytes t.saved
    c.args.loaded.now.settings t.layout t.leaf_size c.args.loaded.now.index t.is_index t.parts

pub returns : goal.returns
returns g c told =
    all_contained c.args.loaded.now.index.leaves c.leaf_count.result c.leaf_count.ensures.count (c.contained_side_by_side.ensures.0 told)
