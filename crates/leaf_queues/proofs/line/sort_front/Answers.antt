use Rattle.std.proofs.Common.{◌++◌, subst, sym}
use Rattle.leaf_queues.specs.Lines.{IsRun}
use Rattle.leaf_queues.proofs.Lines.{front_moves, sorted_front}
use Rattle.leaf_queues.proofs.line.sort_front.Goals as goal

pub returns-clause-permutation : goal.returns-clause-permutation
returns-clause-permutation c =
    let xs = c.args.entries.now in
    let front = c.sort_unstable.new.self in
    rw c.split_at_mut-front.ensures.back (front_moves c.args.n xs front c.requires.inside
    (rw (sym c.split_at_mut-front.ensures.front) c.sort_unstable.ensures.permutation))

pub returns-clause-run : goal.returns-clause-run
returns-clause-run c =
    let xs = c.args.entries.now in
    let front = c.sort_unstable.new.self in
    subst (λ l. IsRun c.args.n (front ++ l)) (sym c.split_at_mut-front.ensures.back)
    (sorted_front c.args.n xs front c.requires.inside
    (rw (sym c.split_at_mut-front.ensures.front) c.sort_unstable.ensures.permutation)
    c.sort_unstable.ensures.sorted c.requires.cut)
