-- A sort by bucket deals the entries.
use Rattle.std.proofs.Common.{rules}
use Rattle.std.proofs.lemmas.List.Sorted.{IsNonDecreasingBy-from_sort_by_key}
use Rattle.series_core.specs.declared.queue_words.Entry.{Entry}
use Rattle.leaf_queues.specs.Lines.{bucket_of}
use Rattle.leaf_queues.proofs.line.deal.Goals as goal

pub returns-clause-dealt : goal.returns-clause-dealt
returns-clause-dealt c =
    let b = c.over-buckets.result in
    let rises = IsNonDecreasingBy-from_sort_by_key (λ (e : Entry). bucket_of b e.bound)
    c.sort_unstable_by_key.new.self c.sort_unstable_by_key.ensures.sorted
    (λ a r q k. search rules) in record {
      shift = c.over-buckets.ensures;
      rises = λ i j d from later inside. rises i j d later inside;
    }
