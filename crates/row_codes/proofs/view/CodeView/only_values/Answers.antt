-- The only block is the last.
use Rattle.std.proofs.Common.{◌∙◌, ◌≤◌, List, ap, sym, subst, arith, length}
use Rattle.std.specs.Prelude.{ℤ}
use Rattle.row_codes.specs.Kept.{filled, values_at}
use Rattle.row_codes.proofs.Views.{last_block}
use Rattle.row_codes.proofs.view.CodeView.only_values.Goals as goal

pub returns-clause-value : goal.returns-clause-value
returns-clause-value c =
    let query = c.self.inside.query.now in
    let few : length query ≤ 256 = subst (λ (q : List ℤ). length q ≤ 256) (sym c.self.view_is) c.requires in
    c.self.invariant.behind ∙ last_block query 0 (omega arith) (omega (arith, few))
    ∙ ap (λ (q : List ℤ). filled (values_at q 0)) c.self.view_is
