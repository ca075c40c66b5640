use Rattle.outside.proofs.Progress.{Progress-write, take-rest}
use Rattle.outside.proofs.writing.write_whole.Goals as goal

pub loop-done-preserved : goal.loop-done-preserved
loop-done-preserved g c =
    let wrote = c.in_ok-count.ensures in
    Progress-write
    c.in_ok-count.count
    _
    (take-rest c.loop-done.done c.args.bytes.now)
    c.loop-done.invariant
    c.loop-done-test.true
    wrote.amount.0
    wrote.appended
    wrote.counts
    (λ enough. (wrote.sure enough).1)
    wrote.spent
