-- The entries so far were put.
use Rattle.std.proofs.Common.{◌≡◌, take, vec_len}
use Rattle.live_query.proofs.QueuesFilled.{AllBy}
use Rattle.live_query.proofs.filled_queues.put_all.Given as goal

abbrev pub invariant-loop-entry : goal.invariant-loop-entry
invariant-loop-entry l = record {
  len : vec_len l.queues ≡ vec_len l.fn.queues;
  filled : AllBy (vec_len l.fn.queues) (take l.entry-index l.entries) l.fn.queues.items l.queues.items;
}
