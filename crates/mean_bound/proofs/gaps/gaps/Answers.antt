-- Cut numbers are small.
use Rattle.std.proofs.Common.{◌≤◌, List, ℕ, sym, subst}
use Rattle.std.specs.Simd.Lanes.{Each1}
use Rattle.mean_bound.proofs.Squares.{cut_small}
use Rattle.mean_bound.proofs.gaps.gaps.Goals as goal

pub returns-clause-small : goal.returns-clause-small
returns-clause-small c =
    let Small : List ℕ → Type 0 = λ ns. Each1 (λ n. n ≤ 16383) ns in
    subst Small (sym c.cut.ensures) (cut_small c.greater.result)
