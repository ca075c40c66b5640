-- One member more was scanned.
use Rattle.std.proofs.Common.{sym, subst}
use Rattle.std.proofs.lemmas.List.Elements.{All-get_or}
use Rattle.search_task.specs.Questions.{IsMemberOf}
use Rattle.search_task.proofs.Meeting.{all_scanned, member_scanned}
use Rattle.search_task.proofs.task.Task.scan_by_words.Goals as goal

pub measure_by_word-most-requires-clause-member : goal.measure_by_word-most-requires-clause-member
measure_by_word-most-requires-clause-member g c =
    subst (IsMemberOf c.args.self.now) (sym c.index-members-position.is)
    (All-get_or (IsMemberOf c.args.self.now) c.args.members.now c.loop-position.position c.index-members-position.result
    c.loop-position-test.true c.requires.members)

pub loop-position-preserved : goal.loop-position-preserved
loop-position-preserved g c =
    member_scanned c.args.members.now c.loop-position.position c.loop-position.invariant c.loop-position-test.true
    c.index-members-position.is c.measure_by_word-most.ensures.list c.measure_by_word-most.ensures.pairs

pub returns-clause-pairs : goal.returns-clause-pairs
returns-clause-pairs g c =
    all_scanned c.args.members.now c.loop-position.position c.loop-position.invariant c.loop-position-test.false
