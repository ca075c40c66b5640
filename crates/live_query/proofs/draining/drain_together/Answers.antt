-- A worker and its hand cross threads, each by itself.
use denote.Param.Send.{IsSync, sendable}
use Rattle.std.proofs.Crossing.{crosses}
use Rattle.query_core.proofs.Sends.{worker_sends}
use Rattle.live_query.proofs.drain_hand.DrainHand.TheSendSync as hand
use Rattle.live_query.proofs.sealed_queues.SealedQueues.TheSendSync as queues
use Rattle.live_query.proofs.searcher.Searcher.TheSendSync.{the_send}
use Rattle.live_query.proofs.draining.drain_together.Goals as goal

pub for_each_mut-requires-send-T : goal.for_each_mut-requires-send-T
for_each_mut-requires-send-T g c κs within =
    let shared : IsSync g.row.R = record { shared = c.type_bounds.sync-R.shared } in
    search (the_send, worker_sends, hand.the_send, queues.the_send, crosses, sendable, shared) depth 60 fits 20000
