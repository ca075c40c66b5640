-- Shares of bounds: one that has none (`no_bounds`), and one more bound (`more_bounds`).
use Rattle.std.proofs.Common.{◌≡◌, ℕ, ◌+◌, ◌≤◌, ◌++◌, ◌∷◌, List, [], Some, length, sym, ap, ◌∙◌, subst, ⊎_elim}
use Rattle.std.specs.Prelude.{slice_get}
use Rattle.std.proofs.lemmas.Option.{none-some}
use Rattle.lower_bound.specs.Bound.{View}
use Rattle.subtree_build.specs.Index.{IndexParts}
use Rattle.query_core.specs.BoundShares.{AreBounds, Share}
use Rattle.query_core.proofs.Pushes.{at_push}
use Rattle.search_task.specs.Questions.{leaf_bound}

pub no_bounds : (view : View) (ix : IndexParts) (s : Share) (first end : ℕ) → s ≡ record { first = first; end = end; bounds = [] }
    → end ≤ length ix.leaves → AreBounds view ix s
no_bounds view ix s first end is inside = subst (AreBounds view ix) (sym is) (record {
  inside = inside;
  each = λ i b at. absurd (none-some b at);
})

pub more_bounds : (view : View) (ix : IndexParts) (s : Share) (bounds : List ℕ) (l b : ℕ)
    → AreBounds view ix (record s { bounds = bounds }) → l ≡ s.first + length bounds → b ≡ leaf_bound view ix l
    → AreBounds view ix (record s { bounds = bounds ++ b ∷ [] })
more_bounds view ix s bounds l b are place is = record {
  inside = are.inside;
  each = λ i c at. ⊎_elim
      (λ (old : slice_get bounds i ≡ Some c). are.each i c old)
      (λ (new : (i ≡ length bounds) × (b ≡ c)).
      sym new.1 ∙ is ∙ ap (leaf_bound view ix) place ∙ ap (λ (n : ℕ). leaf_bound view ix (s.first + n)) (sym new.0))
      (at_push bounds b c i at);
}
