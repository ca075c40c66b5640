-- Each actor moves to a thread of its own.
use Rattle.std.proofs.Crossing.{crosses}
use Rattle.std.proofs.option.Option.TheSendSync as option
use denote.Param.Send.{sendable}
use Rattle.live_collection.proofs.Sends.{reader_sends, writer_sends, collection_shares}
use Rattle.live_tests.proofs.collection.threads.act_all.Goals as goal

pub for_each_mut-requires-send-T : goal.for_each_mut-requires-send-T
for_each_mut-requires-send-T g c κs within =
    search (reader_sends, writer_sends, collection_shares, option.the_field_send, crosses, sendable) depth 60 fits 20000
