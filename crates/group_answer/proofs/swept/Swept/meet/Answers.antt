-- The member at a place is passed over where it is farther, and else measured.
use Rattle.std.proofs.Common.{◌<◌, ℕ, length, subst, sym}
use Rattle.search_task.specs.Scanning.{IsScannedOne}
use Rattle.group_answer.proofs.Sweeps.{met_far, met_more, number_is, number_real}
use Rattle.group_answer.proofs.swept.Swept.meet.Goals as goal

pub returns-then-not-near-clause-swept : goal.returns-then-not-near-clause-swept
returns-then-not-near-clause-swept g c =
    met_far g.R.Rows.collection c.args.asked.now c.args.self.now c.args.place c.requires.place c.requires.swept
    (c.requires.far c.if-not-near.true)

pub measure-self-requires-clause-series : goal.measure-self-requires-clause-series
measure-self-requires-clause-series g c =
    let a = c.args.asked.now in
    let chosen = c.args.self.now.chosen.now in
    subst (λ (n : ℕ). n < length chosen.task.collection.series)
    (number_is a.index.now c.args.place c.members.result.now c.index-members-place.result c.members.ensures c.requires.place c.index-members-place.is)
    (number_real g.R.Rows.collection a chosen c.requires.swept.chosen c.args.place c.requires.place)

pub returns-clause-swept : goal.returns-clause-swept
returns-clause-swept g c =
    let a = c.args.asked.now in
    let s = c.args.self.now in
    let chosen = s.chosen.now in
    met_more g.R.Rows.collection a s c.args.place c.requires.place c.requires.swept c.measure-self.new.list c.measure-self.result
    c.measure-self.ensures.list
    (subst (λ (n : ℕ). IsScannedOne chosen.task chosen.limit n s.list.pairs c.measure-self.new.list.pairs)
    (sym (number_is a.index.now c.args.place c.members.result.now c.index-members-place.result c.members.ensures c.requires.place
    c.index-members-place.is)) c.measure-self.ensures.pairs)
