-- A query that has met all members has its answer.
use Rattle.std.proofs.Common.{◌≡◌, ◌∙◌, rules}
use Rattle.group_answer.proofs.Sweeps.{answer_swept}
use Rattle.group_answer.proofs.together.answer_of.Goals as goal

pub returns : goal.returns
returns g c =
    let copied : c.in_ok-items.items.items ≡ c.args.swept.now.list.pairs = search rules in
    copied ∙ answer_swept g.R.Rows.collection c.args.asked.now c.args.swept.now c.requires.swept
