use Rattle.std.proofs.Common.{refl, ap, ◌∙◌, arith}
use Rattle.series_core.specs.declared.queue_words.Entry.{Entry}
use Rattle.list_totals.specs.Totals.{total, one_if_same}
use Rattle.list_totals.proofs.Totals.{total_push, once_below_more, once_below_most}
use Rattle.ground_tests.proofs.tests.sealed.plain.scattered.Goals as goal

pub loop-leaf-preserved : goal.loop-leaf-preserved
loop-leaf-preserved c x =
    let leaf_is = λ (e : Entry). one_if_same x e.leaf in
    let was = c.loop-leaf.invariant x in
    let grown = ap (total leaf_is) c.in_ok-push.ensures.items
    ∙ total_push leaf_is c.loop-leaf.entries.items _ in
    let more = once_below_more x c.loop-leaf.leaf c.loop-leaf.leaf refl in
    omega arith

pub returns : goal.returns
returns c x =
    let all = c.loop-leaf.invariant x in
    let most = once_below_most x c.loop-leaf.leaf in
    omega arith
