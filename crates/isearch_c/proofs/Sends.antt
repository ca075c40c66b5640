-- What a handle keeps moves to another thread (`held_sends`), since what it shares may be sent and shared. An index holds nodes, and a node
-- reaches itself, so that the search wants the lemmas of its parts by name.
use Rattle.segment_sums.proofs.cuts.Cuts.TheSendSync as cuts
use Rattle.series_core.proofs.flat.Flat.TheSendSync as flat
use Rattle.std.proofs.vec.Vec.TheSendSync as vec
use Rattle.std.proofs.sync.Arc.TheSendSync as arc
use denote.Param.Send.{IsSend, IsSync, sendable}
use Rattle.std.proofs.Crossing.{crosses}
use Rattle.subtree_build.proofs.node.Node.TheLaws.TheKnot as knot
use Rattle.isearch_c.specs.contracts.held.Held.{the_row}
use Rattle.isearch_c.specs.contracts.held.Searchable.{the_row as shared_row}

-- a collection with its index moves to another thread
shared_sends : IsSend shared_row
shared_sends = search (cuts.the_send, flat.the_send, vec.the_send, crosses, knot.crosses, sendable) depth 60 fits 20000

-- and is shared by threads
shared_syncs : IsSync shared_row
shared_syncs = search (cuts.the_sync, flat.the_sync, vec.the_sync, crosses, knot.crosses, sendable) depth 60 fits 20000

-- so a share of it moves
pub held_sends : IsSend the_row
held_sends = search (shared_sends, shared_syncs, arc.the_send, crosses, sendable) depth 60 fits 20000
