-- The next entry is put into the queue of its leaf.
use Rattle.std.proofs.Common.{◌≡◌, ◌%◌, ◌<◌, ℕ, List, Some, ap, get_or, length, set, subst, sym, take, vec_len, ◌∙◌, arith}
use Rattle.std.specs.Prelude.{slice_get}
use Rattle.std.proofs.Math.Nat.{mod-lt}
use Rattle.std.proofs.lemmas.List.{take_all, take_more}
use Rattle.std.proofs.lemmas.Option.{slice_get-get_or}
use Rattle.series_core.specs.declared.queue_words.Entry.{Entry}
use Rattle.series_core.specs.declared.queue_words.PutReply.{PutReply}
use Rattle.leaf_queues.specs.PlainQueue.{PlainQueue}
use Rattle.live_query.proofs.QueuesFilled.{AllBy, all_more}
use Rattle.live_query.proofs.filled_queues.put_all.Goals as goal

pub loop-entry-preserved : goal.loop-entry-preserved
loop-entry-preserved c =
    let was = c.loop-entry.invariant in
    let n = vec_len c.args.queues.now in
    let done = c.loop-entry.entry-index in
    let es : List Entry = c.args.entries.now in
    let entry : Entry = get_or es done (record { bound = 0; leaf = 0 }) in
    let queues : List PlainQueue = c.loop-entry.queues.items in
    let at : ℕ = entry.leaf % c.len-count.result in
    let same : at ≡ entry.leaf % n = ap (λ (k : ℕ). entry.leaf % k) c.len-count.ensures in
    let some : 0 < c.len-count.result = omega (arith, c.requires.some, c.len-count.ensures) in
    let low : at < length queues =
    omega (arith, mod-lt entry.leaf some, c.len-count.ensures, was.len, c.loop-entry.queues.ok.0) in
    let before : PlainQueue = c.index_mut.result.now in
    let at_before : slice_get queues at ≡ Some before
    = slice_get-get_or queues at before low ∙ ap Some (sym c.index_mut.ensures.value) in
    record {
      len = was.len;
      filled = subst (λ (es : List Entry). AllBy n es c.args.queues.now.items (set queues at c.put.new.self))
          (sym (take_more es done (record { bound = 0; leaf = 0 }) c.loop-entry-test.true))
          (all_more n (take done es) entry c.args.queues.now.items queues at before c.put.new.self same at_before
          (ap (λ (r : PlainQueue × PutReply). r.0) c.put.ensures) was.filled);
    }

pub returns : goal.returns
returns c =
    let was = c.loop-entry.invariant in
    record {
      len = was.len;
      filled = subst (λ (es : List Entry). AllBy (vec_len c.args.queues.now) es c.args.queues.now.items c.loop-entry.queues.items)
          (take_all c.loop-entry.entry-index c.args.entries.now c.loop-entry-test.false) was.filled;
    }
