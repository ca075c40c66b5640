-- The last of all readers is one of the collection.
use Rattle.std.proofs.Common.{List, All, subst}
use Rattle.live_collection.specs.declared.live.Reader.{Reader}
use Rattle.live_collection.specs.Sides.{IsReaderOf}
use Rattle.live_collection.proofs.Growing.{all_last}
use Rattle.live_tests.proofs.collection.tell_and_ask.Goals as goal

pub tell-requires-clause-reader : goal.tell-requires-clause-reader
tell-requires-clause-reader g c =
    let k = c.args.live.now in
    (all_last (IsReaderOf k) c.pop.new.self.items c.in_ok-reader.reader
    (subst (λ (rs : List Reader). All (IsReaderOf k) rs) c.in_ok-reader.ensures.items c.requires.readers.each)).0
