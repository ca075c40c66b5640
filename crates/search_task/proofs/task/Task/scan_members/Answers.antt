-- One member more was scanned; its codes stand behind those of the members before it.
use Rattle.search_task.proofs.CodeRows.{codes_at_one, codes_within, member_at}
use Rattle.search_task.proofs.Meeting.{all_scanned, member_scanned}
use Rattle.search_task.proofs.task.Task.scan_members.Goals as goal

pub codes_at_place-own-requires : goal.codes_at_place-own-requires
codes_at_place-own-requires g c =
    codes_within c.args.self.now c.args.members.now c.args.codes.now c.code_blocks-blocks.result c.loop-i.i c.code_blocks-blocks.ensures.question
    c.requires.coded c.code_blocks-blocks.ensures.count c.loop-i-test.true

pub may_be_within-near-requires-clause-member : goal.may_be_within-near-requires-clause-member
may_be_within-near-requires-clause-member g c =
    member_at c.args.self.now c.args.members.now c.args.codes.now c.code_blocks-blocks.result c.loop-i.i c.code_blocks-blocks.ensures.question
    c.requires.coded c.code_blocks-blocks.ensures.count c.loop-i-test.true
    c.index-members-i.result c.index-members-i.is

pub measure_near-most-requires-clause-member : goal.measure_near-most-requires-clause-member
measure_near-most-requires-clause-member g c =
    member_at c.args.self.now c.args.members.now c.args.codes.now c.code_blocks-blocks.result c.loop-i.i c.code_blocks-blocks.ensures.question
    c.requires.coded c.code_blocks-blocks.ensures.count c.loop-i-test.true
    c.index-members-i.result c.index-members-i.is

pub may_be_within-near-requires-clause-codes : goal.may_be_within-near-requires-clause-codes
may_be_within-near-requires-clause-codes g c =
    codes_at_one c.args.self.now c.args.members.now c.args.codes.now c.code_blocks-blocks.result c.loop-i.i c.code_blocks-blocks.ensures.question
    c.requires.coded c.code_blocks-blocks.ensures.count c.loop-i-test.true
    c.codes_at_place-own.result.now c.index-members-i.result c.index-members-i.is c.codes_at_place-own.ensures

pub loop-i-preserved : goal.loop-i-preserved
loop-i-preserved g c =
    member_scanned c.args.members.now c.loop-i.i c.loop-i.invariant c.loop-i-test.true c.index-members-i.is
    c.measure_near-most.ensures.list c.measure_near-most.ensures.pairs

pub returns-clause-pairs : goal.returns-clause-pairs
returns-clause-pairs g c = all_scanned c.args.members.now c.loop-i.i c.loop-i.invariant c.loop-i-test.false
