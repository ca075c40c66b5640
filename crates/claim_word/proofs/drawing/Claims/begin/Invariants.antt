use Rattle.std.proofs.Common.{◌≡◌, ◌-◌, ◌≤◌, [], replicate, vec_capacity}
use Rattle.claim_word.specs.declared.rule.Terms.{Terms}
use Rattle.claim_word.specs.Rule.{fresh}
use Rattle.claim_word.specs.Passes.{pass_of}
use Rattle.claim_word.proofs.drawing.Claims.begin.Given as goal

abbrev pub invariant-loop-made : goal.invariant-loop-made
invariant-loop-made l =
    let terms : Terms = record { count = l.n; callers = l.parts } in
    (l.root.table_id ≡ l.table.shared.table_id)
    × (l.root.me ≡ (fresh terms (l.parts - l.made), []))
    × (l.passes.items ≡ replicate l.made (pass_of l.table.shared.table_id (fresh terms 1)))
    × (l.parts ≤ vec_capacity l.passes)
