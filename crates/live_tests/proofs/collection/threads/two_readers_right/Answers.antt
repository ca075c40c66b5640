-- The last two of all readers are readers of the collection.
use Rattle.std.proofs.Common.{List, All, subst}
use Rattle.live_collection.specs.declared.live.Reader.{Reader}
use Rattle.live_collection.specs.Sides.{IsReaderOf}
use Rattle.live_collection.proofs.Growing.{all_last}
use Rattle.live_tests.proofs.collection.threads.two_readers_right.Goals as goal

pub all_right-requires-clause-readers : goal.all_right-requires-clause-readers
all_right-requires-clause-readers g c κs within =
    let k = c.args.live.now in
    let last = all_last (IsReaderOf k) c.pop.new.self.items c.in_ok-second.second
    (subst (λ (rs : List Reader). All (IsReaderOf k) rs) c.in_ok-second.ensures.items c.requires.readers.each) in
    let next = all_last (IsReaderOf k) c.pop-2.new.self.items c.in_ok-first.first
    (subst (λ (rs : List Reader). All (IsReaderOf k) rs) c.in_ok-first.ensures.items last.1) in
    (next.0, last.0)
