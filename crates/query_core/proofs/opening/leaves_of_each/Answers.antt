use Rattle.std.proofs.Common.{ℕ, ◌<◌, ◌+◌, ◌/◌, ◌%◌, sym, ap, ◌∙◌, arith}
use Rattle.list_totals.specs.Totals.{once_below}
use Rattle.query_core.proofs.EmptyQueues.{room_of}
use Rattle.query_core.proofs.opening.leaves_of_each.Goals as goal

pub returns-clause-counts : goal.returns-clause-counts
returns-clause-counts c = λ g queues i inside.
    let was = c.loop-queue.invariant in
    let low : i < c.args.queues = omega (arith, inside, was.len, c.loop-queue.counts.ok.0) in
    was.counted i (omega (arith, inside, was.len, c.loop-queue.counts.ok.0))
    ∙ ap (λ (n : ℕ). c.args.leaves / n + once_below i (c.args.leaves % n)) (sym queues)
    ∙ sym (room_of g i (omega (arith, low, queues)) c.args.leaves)
