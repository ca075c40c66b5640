use Rattle.std.proofs.Common.{◌≡◌, ◌+◌, ◌≤◌, ◌<◌, None, true, false, IfSome, length, drop, get_or, nat_le, ap, sym, ◌∙◌, subst, arith}
use Rattle.std.proofs.lemmas.List.{length-drop}
use Rattle.std.proofs.lemmas.List.Sorted.{length_permutation}
use Rattle.series_core.specs.declared.queue_words.PopReply.TheVariants.{Leaf, Closed}
use Rattle.leaf_queues.specs.PlainQueue.{pop, shut_with}
use Rattle.leaf_queues.specs.Lines.{IsLeast, IsRun, IsDealt, ascending, waits_within}
use Rattle.leaf_queues.proofs.Lines.{run_least}
use Rattle.leaf_queues.proofs.Waiting.{none_left, queue_of, written, written_behind, same_queue, written_first, first_within, none_without_run, none_within, at_most, not_at_most, pop_leaf, pop_shuts, back}
use Rattle.leaf_queues.proofs.queue.Queue.pop.Goals as goal
use Rattle.leaf_queues.proofs.queue.Queue.pop.Goals.{then-self-gt0+else-least-far, else-self-gt0}

pub returns-then-least-far : goal.returns-then-least-far
returns-then-least-far c =
    let q = c.self.inside in
    let xs = q.entries.items in
    let ys = c.reach-self-inside.new.entries in
    let x = c.index-least.result.now in
    let run = c.reach-self-inside.ensures in
    let inside : q.next ≤ length xs = omega (arith, c.self.invariant.inside) in
    let unshut : q.kept ≡ None = none_left q.kept c.in_default.not-Some in
    let put = back q.entries c.deref_mut.result.now ys q.next c.deref_mut.ensures.value inside run.permutation in
    let ws = written xs ys q.next inside in
    let more : q.next < length ws = omega (arith, run.inside, c.if-self-gt0.true, put.count) in
    let here : x ≡ get_or ws q.next x = c.index-least.ensures ∙ ap (λ l. get_or l q.next x) put.held in
    let first : x ≡ get_or ys 0 x = here ∙ written_first xs ys q.next inside x in
    let least : IsLeast x (drop q.next ws)
    = subst (IsLeast x) (sym (written_behind xs ys q.next inside))
    (run_least c.reach-self-inside.result ys x run.run c.if-self-gt0.true first) in
    let near : nat_le x.bound c.args.limit ≡ true
    = at_most x.bound c.args.limit (omega (arith, c.if-least-far.true, c.far.ensures)) in
    (λ i. (queue_of (put.held i) (q.next + 1) q.capacity q.kept, Leaf x))
    ∙ (sym (pop_leaf ws q.next q.capacity q.kept unshut (omega (arith, more)) c.args.limit x more here
    least near)
    ∙ (ap (pop c.args.limit) (same_queue xs q.next q.capacity q.kept unshut inside ys put.moved)
    ∙ ap (pop c.args.limit) c.self.view_is))

pub invariant_of-self-2 : goal.invariant_of-self-2
invariant_of-self-2 c =
    let q = c.self.inside in
    let inv = c.self.invariant in
    let xs = q.entries.items in
    let ys = c.reach-self-inside.new.entries in
    let run = c.reach-self-inside.ensures in
    let inside : q.next ≤ length xs = omega (arith, c.self.invariant.inside) in
    let put = back q.entries c.deref_mut.result.now ys q.next c.deref_mut.ensures.value inside run.permutation in
    let behind = ap (drop q.next) put.held ∙ written_behind xs ys q.next inside in
    let count = ap length put.held ∙ put.count in
    let same = length_permutation (drop q.next xs) ys put.moved in
    let rest = length-drop q.next xs in record {
      inside = omega (arith, count, run.inside);
      run = subst (IsRun c.reach-self-inside.result) (sym behind) run.run;
      dealt = subst
          (λ l. IfSome c.reach-self-inside.new.buckets (λ b. IsDealt b c.reach-self-inside.result l))
          (sym behind) run.dealt;
      placed = omega (arith, count, same, rest, inv.placed);
      room = inv.room;
    }

pub returns : goal.returns
returns c =
    let q = c.self.inside in
    let xs = q.entries.items in
    let ys = c.reach-self-inside.new.entries in
    let run = c.reach-self-inside.ensures in
    let inside : q.next ≤ length xs = omega (arith, c.self.invariant.inside) in
    let unshut : q.kept ≡ None = none_left q.kept c.in_default.not-Some in
    let put = back q.entries c.deref_mut.result.now ys q.next c.deref_mut.ensures.value inside run.permutation in
    let ws = written xs ys q.next inside in
    let beyond : waits_within c.args.limit (ascending ys) ≡ false = elim c.if-self-gt0.branch [
      | then-self-gt0+else-least-far w ↦
          let x = w.index-least.result.now in
          let first : x ≡ get_or ys 0 x = w.index-least.ensures
          ∙ (ap (λ l. get_or l q.next x) put.held ∙ written_first xs ys q.next inside x) in
          sym (first_within c.reach-self-inside.result x ys c.args.limit run.run w.if-self-gt0.true
          (omega (arith, run.inside, w.if-self-gt0.true)) first)
          ∙ not_at_most x.bound c.args.limit
          (omega (arith, w.if-least-far.false, w.far.ensures))
      | else-self-gt0 w ↦ none_within ys c.args.limit
          (length_permutation _ ys run.permutation
          ∙ none_without_run _ c.reach-self-inside.result run.some (omega (arith, w.if-self-gt0.false)))
    ] in
    let beyond' = ap (λ l. waits_within c.args.limit (ascending l)) (written_behind xs ys q.next inside)
    ∙ beyond in
    (λ i. (shut_with c.args.limit (queue_of (put.held i) q.next q.capacity q.kept), Closed c.args.limit))
    ∙ (sym (pop_shuts ws q.next q.capacity q.kept unshut (omega (arith, put.count)) c.args.limit beyond')
    ∙ (ap (pop c.args.limit) (same_queue xs q.next q.capacity q.kept unshut inside ys put.moved)
    ∙ ap (pop c.args.limit) c.self.view_is))
