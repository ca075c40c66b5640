-- A series is passed over where it is farther than may be, and else added.
use Rattle.std.proofs.Common.{◌∙◌, refl, arith}
use Rattle.search_task.proofs.Meeting.{meet_far, meet_near, member_of, row_is_lent}
use Rattle.search_task.proofs.task.Task.measure.Goals as goal

pub distance_within-requires-clause-same_length : goal.distance_within-requires-clause-same_length
distance_within-requires-clause-same_length g c =
    (row_is_lent _ _ _ _ c.self.view_is c.k-k.ensures.question c.requires.series c.row-row.ensures).as_long

pub distance_within-requires-clause-short : goal.distance_within-requires-clause-short
distance_within-requires-clause-short g c =
    (row_is_lent _ _ _ _ c.self.view_is c.k-k.ensures.question c.requires.series c.row-row.ensures).short

pub returns-clause-pairs : goal.returns-clause-pairs
returns-clause-pairs g c =
    let a = c.args.self.now in
    let n = c.args.number in
    let lent = row_is_lent _ _ _ _ c.self.view_is c.k-k.ensures.question c.requires.series c.row-row.ensures in
    meet_near a (member_of a n) c.args.list.now c.args.limit c.args.most c.k-k.ensures.question
    (record { series = c.requires.series; word = refl }) c.requires.list
    c.in-Some.distance c.add.new.self.pairs (c.in-Some.ensures.0 ∙ lent.distance) c.in-Some.ensures.1 c.add.ensures.pairs

pub returns-in_default-clause-pairs : goal.returns-in_default-clause-pairs
returns-in_default-clause-pairs g c =
    let a = c.args.self.now in
    let n = c.args.number in
    let lent = row_is_lent _ _ _ _ c.self.view_is c.k-k.ensures.question c.requires.series c.row-row.ensures in
    meet_far a (member_of a n) c.args.list.now c.args.limit c.args.most c.k-k.ensures.question
    (record { series = c.requires.series; word = refl }) c.requires.list
    (omega (arith, c.in_default.ensures, lent.distance))
