-- The queues were empty, and the entries that were put into them are those of the marked leaves.
use Rattle.std.proofs.Common.{◌≡◌, ◌+◌, ℕ, List, ap, arith, refl, subst, sym, vec_len, ◌∙◌}
use Rattle.std.specs.Prelude.{slice_get}
use Rattle.std.proofs.lemmas.Option.{slice_get_within}
use Rattle.series_core.specs.declared.queue_words.Entry.{Entry}
use Rattle.leaf_queues.specs.PlainQueue.{PlainQueue}
use Rattle.search_machine.specs.Ground.{Ground}
use Rattle.search_machine.specs.Machine.{empty_queues}
use Rattle.search_machine.proofs.Places.{get_some}
use Rattle.queue_histories.specs.Rooms.{opened_for}
use Rattle.search_task.specs.Questions.{search_over}
use Rattle.live_query.specs.FilledQueues.{IsFilledBy}
use Rattle.live_query.proofs.QueuesFilled.{empty_at, is_filled}
use Rattle.live_query.proofs.filled_queues.filled_queues.Goals as goal

pub returns-clause-filled : goal.returns-clause-filled
returns-clause-filled g c j q at =
    let a = c.args.plan.now.search.question in
    let ix = c.args.plan.now.search.index in
    let m = c.args.plan.now.queues in
    let ground : Ground = search_over a ix 1 m in
    let opened : List PlainQueue = c.in_ok-queues.queues.items in
    let empty : opened ≡ empty_queues ground 0 m = c.in_ok-queues.ensures.queues ground refl (sym c.leaf_count.ensures.count) in
    let low = slice_get_within c.put_all.new.queues.items j q at in
    let was = get_some opened j
    (omega (arith, low, c.put_all.ensures.len, c.put_all.new.queues.ok.0, c.in_ok-queues.queues.ok.0)) in
    let place : 0 + j ≡ j = omega arith in
    let is : was.0 ≡ opened_for ground j
    = empty_at ground 0 m j was.0 (ap (λ (qs : List PlainQueue). slice_get qs j) (sym empty) ∙ was.1)
    ∙ ap (opened_for ground) place in
    let filled = c.put_all.ensures.filled j was.0 q was.1 at in
    is_filled a ix c.args.team.now m j c.in_ok-entries.entries.items q c.in_ok-entries.ensures
    (subst (λ (n : ℕ). IsFilledBy n j c.in_ok-entries.entries.items (opened_for ground j) q) c.in_ok-queues.ensures.len
    (subst (λ (es : List Entry). IsFilledBy (vec_len c.in_ok-queues.queues) j es (opened_for ground j) q) c.deref.ensures.value
    (subst (λ (r : PlainQueue). IsFilledBy (vec_len c.in_ok-queues.queues) j c.deref.result.now r q) is filled)))
