use Rattle.std.proofs.lemmas.List.Sorted.{length_permutation}
use Rattle.leaf_queues.proofs.Lines.{dealt_behind}
use Rattle.leaf_queues.proofs.line.sort_first_bucket.Goals as goal

pub returns-clause-dealt : goal.returns-clause-dealt
returns-clause-dealt c =
    dealt_behind c.args.buckets.now c.first_end-end.result c.args.entries.now c.sort_front.new.entries
    c.requires.dealt (length_permutation c.args.entries.now c.sort_front.new.entries
    c.sort_front.ensures.permutation) c.sort_front.ensures.behind
