-- A collection is shared by threads, and its writer and readers move to them (`collection_shares`, `writer_sends`,
-- `reader_sends`). An index holds nodes, and a node reaches itself, so that the search wants the lemmas of its parts by name.
use Rattle.segment_sums.proofs.cuts.Cuts.TheSendSync as cuts
use Rattle.series_core.proofs.flat.Flat.TheSendSync as flat
use Rattle.std.proofs.alloc.Global.TheSendSync as global
use Rattle.std.proofs.vec.Vec.TheSendSync as vec
use Rattle.std.proofs.sync.Arc.TheSendSync as arc
use Rattle.std.proofs.collections.LinkedList.TheSendSync as list
use Rattle.std.proofs.option.Option.TheSendSync as option
use Rattle.turn_lock.specs.contracts.object.Held as held
use Rattle.turn_lock.proofs.lock.PassOf.TheSendSync as pass
use Rattle.turn_lock.proofs.lock.LockOf.TheSendSync as lock
use denote.Param.Send.{IsSend, IsSync, sendable}
use denote.Param.SendFields.{declared_send, declared_sync}
use Rattle.std.proofs.Crossing.{crosses}
use Rattle.subtree_build.proofs.node.Node.TheLaws.TheKnot as knot
use Rattle.live_collection.specs.contracts.object.LiveObject.{the_row}
use Rattle.live_collection.specs.contracts.part.BatchPart.{the_row as part_row}
use Rattle.live_collection.specs.contracts.calls.Reply.{the_row as reply_row}
use Rattle.live_collection.specs.contracts.calls.Call.{the_row as call_row}
use Rattle.live_collection.specs.contracts.live.LiveCollection.{the_row as collection_row, the_type as collection_type}
use Rattle.live_collection.specs.contracts.live.Writer.{the_row as writer_row, the_type as writer_type}
use Rattle.live_collection.specs.contracts.live.Reader.{the_row as reader_row, the_type as reader_type}

-- a hold on a batch moves to another thread
part_sends : IsSend part_row
part_sends = search (
  cuts.the_send,
  cuts.the_sync,
  flat.the_send,
  flat.the_sync,
  vec.the_send,
  arc.the_send,
  crosses,
  knot.crosses,
  sendable,
) depth 60 fits 20000

-- the object under the lock moves with its turn
pub object_sends : IsSend the_row
object_sends = search (part_sends, global.the_send, vec.the_send, list.the_send, crosses, sendable) depth 60 fits 20000

-- what the lock guards
pub held_sends : IsSend (held.the_row the_row call_row reply_row)
held_sends = search (object_sends, option.the_field_send, crosses, sendable) depth 60 fits 20000

-- a reader moves to another thread
pub reader_sends : IsSend reader_row
reader_sends = declared_send reader_type (
  search (held_sends, pass.the_send, crosses, sendable) depth 60 fits 20000,
  (search (part_sends, global.the_send, list.the_send, crosses, sendable) depth 60 fits 20000, tt),
)

-- so does the writer
pub writer_sends : IsSend writer_row
writer_sends = declared_send writer_type (
  search (held_sends, pass.the_send, crosses, sendable) depth 60 fits 20000,
  (search (held_sends, pass.the_send, vec.the_send, crosses, sendable) depth 60 fits 20000, tt),
)

-- a collection is shared by threads
pub collection_shares : IsSync collection_row
collection_shares = declared_sync collection_type (
  search (held_sends, lock.the_sync, crosses, sendable) depth 60 fits 20000,
  (
    search (cuts.the_sync, crosses, sendable) depth 60 fits 20000,
    (search (crosses, sendable) depth 60 fits 20000, tt),
  ),
)
