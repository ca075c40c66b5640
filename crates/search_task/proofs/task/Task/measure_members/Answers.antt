-- One member more was measured.
use Rattle.std.specs.List.{All}
use Rattle.std.proofs.Common.{sym, subst}
use Rattle.std.proofs.lemmas.List.Elements.{All-get_or}
use Rattle.search_task.specs.Questions.{IsMemberOf}
use Rattle.search_task.proofs.Meeting.{all_scanned, member_scanned}
use Rattle.search_task.proofs.task.Task.measure_members.Goals as goal

pub measure-most-requires-clause-series : goal.measure-most-requires-clause-series
measure-most-requires-clause-series g c =
    let m = c.index-members-place.result in
    (subst (IsMemberOf c.args.self.now) (sym c.index-members-place.is)
    (All-get_or (IsMemberOf c.args.self.now) c.args.members.now c.loop-place.place m c.loop-place-test.true c.requires.members)).series

pub loop-place-preserved : goal.loop-place-preserved
loop-place-preserved g c =
    member_scanned c.args.members.now c.loop-place.place c.loop-place.invariant c.loop-place-test.true c.index-members-place.is
    c.measure-most.ensures.list c.measure-most.ensures.pairs

pub returns-clause-pairs : goal.returns-clause-pairs
returns-clause-pairs g c = all_scanned c.args.members.now c.loop-place.place c.loop-place.invariant c.loop-place-test.false
