-- The full word of a member without means has a symbol for each segment.
use Rattle.nearest_answer.proofs.FullWords.{full_word_fits}
use Rattle.nearest_answer.proofs.telling.with_member.Goals as goal

pub bound_full-requires : goal.bound_full-requires
bound_full-requires g c =
    full_word_fits c.args.search.now c.view.ensures.searched c.args.leaf c.args.place c.requires.leaf c.requires.place
    c.index-index.result.now c.leaf_members.result.now c.index-leaf_members-place.result c.view.result.now
    c.index-index.ensures.index c.leaf_members.ensures c.index-leaf_members-place.is c.view.ensures.view
