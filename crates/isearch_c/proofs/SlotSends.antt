-- What C holds moves to another thread.
use denote.Param.Send.{IsSend, sendable}
use Rattle.std.proofs.Crossing.{crosses}
use Rattle.isearch_c.proofs.handle.Handle.TheSendSync as handle
use Rattle.isearch_c.specs.contracts.slot.IsearchIndex.{the_row}

pub index_sends : IsSend the_row
index_sends = search (handle.the_send, sendable, crosses) depth 30
