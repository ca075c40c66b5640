use Rattle.std.proofs.Common.{◌∙◌, sym, ap, subst, drop}
use Rattle.std.specs.List.Sorted.{IsPermutation}
use Rattle.std.proofs.lemmas.List.{take_rest}
use Rattle.std.proofs.lemmas.List.Sorted.{IsPermutation-sym}
use Rattle.leaf_queues.specs.Lines.{ascending}
use Rattle.leaf_queues.proofs.Ascending.{ascending_entries}
use Rattle.leaf_queues.proofs.queue.Queue.waiting.Goals as goal

pub returns : goal.returns
returns c =
    let next = c.self.inside.next in
    let xs = drop next c.self.inside.entries.items in
    let held = take_rest c.deref.result.now next ∙ ap (drop next) c.deref.ensures.value in
    subst (λ l. IsPermutation c.args.self.now.waiting l) (sym held)
    (subst (λ l. IsPermutation l xs) (ap (λ q. q.waiting) c.self.view_is)
    (IsPermutation-sym xs (ascending xs) (ascending_entries xs)))
