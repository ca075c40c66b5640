use Rattle.std.proofs.Common.{List, arith, get_or, set, subst, sym, take, ◌∙◌}
use Rattle.std.proofs.lemmas.List.{take_all, take_more}
use Rattle.series_core.specs.declared.queue_words.Entry.{Entry}
use Rattle.search_machine.specs.declared.outcome.Fate.TheVariants.{Queue as QueueFate}
use Rattle.query_core.specs.Fates.{AreMarked, leaf_of}
use Rattle.query_core.proofs.FatesWritten.{mark_more, mark_past, mark_start}
use Rattle.query_core.proofs.conclusion.mark.Goals as goal

pub loop-entry-preserved-then-leaf-fates : goal.loop-entry-preserved-then-leaf-fates
loop-entry-preserved-then-leaf-fates c =
    subst (λ (es : List Entry). AreMarked (leaf_of c.args.start) c.args.queue es c.args.fates.now c.loop-entry.fates)
    (sym (take_more c.args.taken.now c.loop-entry.entry-index (record { bound = 0; leaf = 0 }) c.loop-entry-test.true))
    (mark_past (leaf_of c.args.start) c.args.queue (take c.loop-entry.entry-index c.args.taken.now) _
    c.args.fates.now c.loop-entry.fates c.loop-entry.invariant (omega arith))

pub loop-entry-preserved-then-is_start : goal.loop-entry-preserved-then-is_start
loop-entry-preserved-then-is_start c =
    subst (λ (es : List Entry). AreMarked (leaf_of c.args.start) c.args.queue es c.args.fates.now c.loop-entry.fates)
    (sym (take_more c.args.taken.now c.loop-entry.entry-index (record { bound = 0; leaf = 0 }) c.loop-entry-test.true))
    (mark_start (leaf_of c.args.start) c.args.queue (take c.loop-entry.entry-index c.args.taken.now) _
    c.args.fates.now c.loop-entry.fates c.loop-entry.invariant (sym c.is_start.ensures ∙ c.if-is_start.true))

pub loop-entry-preserved : goal.loop-entry-preserved
loop-entry-preserved c =
    subst (λ (es : List Entry). AreMarked (leaf_of c.args.start) c.args.queue es c.args.fates.now
    (set c.loop-entry.fates (get_or c.args.taken.now c.loop-entry.entry-index (record { bound = 0; leaf = 0 })).leaf
    (QueueFate c.args.queue)))
    (sym (take_more c.args.taken.now c.loop-entry.entry-index (record { bound = 0; leaf = 0 }) c.loop-entry-test.true))
    (mark_more (leaf_of c.args.start) c.args.queue (take c.loop-entry.entry-index c.args.taken.now) _
    c.args.fates.now c.loop-entry.fates c.loop-entry.invariant (sym c.is_start.ensures ∙ c.if-is_start.false)
    (omega arith))

pub returns : goal.returns
returns c =
    subst (λ (es : List Entry). AreMarked (leaf_of c.args.start) c.args.queue es c.args.fates.now c.loop-entry.fates)
    (take_all c.loop-entry.entry-index c.args.taken.now (omega arith)) c.loop-entry.invariant
