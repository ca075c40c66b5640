use Rattle.std.proofs.Common.{◌≡◌, ◌-◌, ◌≤◌, [], replicate, vec_capacity}
use Rattle.best_word.specs.Rule.{fresh}
use Rattle.best_word.specs.Passes.{pass_of}
use Rattle.best_word.proofs.number.deal.Given as goal

abbrev pub invariant-loop-made : goal.invariant-loop-made
invariant-loop-made g l =
    let terms = l.table.shared.key in
    let floor = g.T.Floor.floor l.task in
    (l.root.table_id ≡ l.table.shared.table_id)
    × (l.root.me ≡ (fresh terms floor (l.callers - l.made), []))
    × (l.passes.items ≡ replicate l.made (pass_of l.table.shared.table_id (fresh terms floor 1)))
    × (l.callers ≤ vec_capacity l.passes)
