-- A member that is not near is farther than what may be.
use Rattle.search_task.proofs.Meeting.{meet_far}
use Rattle.search_task.proofs.task.Task.measure_near.Goals as goal

pub returns-then-not-near-clause-pairs : goal.returns-then-not-near-clause-pairs
returns-then-not-near-clause-pairs g c =
    meet_far c.args.self.now c.args.member.now c.args.list.now c.args.limit c.args.most c.k-k.ensures.question
    c.requires.member c.requires.list (c.requires.far c.if-not-near.true)
