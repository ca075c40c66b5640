-- All passes are handed in, and their one history is that of the collection.
use Rattle.std.proofs.Common.{List, All, subst, sym}
use Rattle.turn_lock.specs.Passes.{AreAll, HasOneHistory, IsPassOf}
use Rattle.live_collection.specs.PlainLive.{next}
use Rattle.live_collection.specs.Steps.{Closes, LivePass}
use Rattle.live_collection.proofs.Endings.{passes_are, numbers_are, closes}
use Rattle.live_collection.proofs.live.LiveCollection.close.Goals as goal

pub close-requires-clause-passes : goal.close-requires-clause-passes
close-requires-clause-passes c =
    subst (λ (ps : List LivePass). All (λ p. IsPassOf c.args.self.lock p) ps) (sym c.all_passes-passes.ensures)
    (passes_are c.args.self c.args.writer c.args.readers.items c.requires.writer c.requires.readers)

pub close-requires-clause-all : goal.close-requires-clause-all
close-requires-clause-all c =
    subst (λ (ps : List LivePass). AreAll c.args.self.lock ps) (sym c.all_passes-passes.ensures)
    (numbers_are c.args.self c.args.writer c.args.readers.items c.requires.writer c.requires.readers)

pub returns : goal.returns
returns c =
    let k = c.args.self in
    let w = c.args.writer in
    let rs = c.args.readers.items in
    subst (λ n. Closes k w rs n) (sym c.series-2.ensures)
    (closes k w rs c.close.result c.requires.writer
    (subst (λ (ps : List LivePass). HasOneHistory next k.lock ps c.close.result) c.all_passes-passes.ensures c.close.ensures))
