use Rattle.std.proofs.Common.{◌≡◌, ◌≤◌, ◌<◌, ◌∷◌, ◌++◌, [], None, length, take, drop, ap, sym, ◌∙◌, subst, arith, length-append}
use Rattle.std.specs.List.Sorted.{IsPermutation}
use Rattle.std.proofs.lemmas.List.{drop-append-le, take-append-le}
use Rattle.std.proofs.lemmas.List.Sorted.{IsPermutation-trans, IsPermutation-sym, IsPermutation-to_front}
use Rattle.series_core.specs.declared.queue_words.PutReply.TheVariants.{Placed}
use Rattle.leaf_queues.specs.PlainQueue.{put}
use Rattle.leaf_queues.proofs.Waiting.{none_left, queue_of, put_placed, moves, stored}
use Rattle.leaf_queues.proofs.queue.Queue.put.Goals as goal

pub returns : goal.returns
returns c =
    let q = c.self.inside in
    let e = c.args.entry in
    let xs = q.entries.items in
    let v = c.push_reserved.new.self in
    let ys = c.take_in-self-inside.new.entries in
    let whole = c.self.invariant.inside in
    let inside : q.next ≤ length xs = omega arith in
    let items = c.push_reserved.ensures.items in
    let inside' : q.next ≤ length v.items
    = omega (arith, ap length items, length-append xs (e ∷ [])) in
    let unshut : q.kept ≡ None = none_left q.kept c.in_default.not-Some in
    let room : length xs < q.capacity
    = omega (arith, c.self.invariant.placed, c.if-len-self.false, c.len.ensures, q.entries.ok.0) in
    let pushed = moves v c.deref_mut.result.now ys q.next c.deref_mut.ensures.value inside'
    c.take_in-self-inside.ensures.permutation in
    let p : IsPermutation (e ∷ drop q.next xs) ys
    = IsPermutation-trans (e ∷ drop q.next xs) (drop q.next xs ++ e ∷ []) ys
    (IsPermutation-sym (drop q.next xs ++ e ∷ []) (e ∷ drop q.next xs)
    (IsPermutation-to_front (drop q.next xs) e))
    (subst (λ l. IsPermutation l ys)
    (ap (drop q.next) items ∙ drop-append-le q.next xs (e ∷ []) inside) pushed) in
    let held = stored v c.deref_mut.result.now ys q.next c.deref_mut.ensures.value inside' pushed
    ∙ ap (λ l. l ++ ys) (ap (take q.next) items ∙ take-append-le q.next xs (e ∷ []) inside) in
    (λ i. (queue_of (held i) q.next q.capacity q.kept, Placed))
    ∙ (sym (put_placed xs q.next q.capacity q.kept unshut inside e ys room p)
    ∙ ap (put e) c.self.view_is)
