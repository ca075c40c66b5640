-- One group, one root child or one leaf more: what is near there is found behind the others.
use Rattle.std.proofs.Common.{◌≡◌, ℕ, ◌+◌, ◌-◌, ◌≤◌, List, [], ◌∷◌, ◌++◌, sym, ap, ◌∙◌, append-nil, append_assoc, arith}
use Rattle.std.specs.List.{flat_map, range_with_len}
use Rattle.std.proofs.lemmas.List.Concat.{flat_map-append}
use Rattle.series_core.specs.declared.pair.Pair.{Pair}
use Rattle.subtree_build.specs.Index.{IndexParts}
use Rattle.range_query.specs.Near.{Asked, near_group, near_drawn}
use Rattle.range_query.proofs.Groups.{range_more}

-- one group more
pub drawn_more : (a : Asked) (ix : IndexParts) (size : ℕ) (draws drawn : List ℕ) (g : ℕ)
    (had found : List Pair) → had ≡ near_drawn a ix size draws → drawn ≡ draws ++ g ∷ []
    → found ≡ had ++ near_group a ix size g → found ≡ near_drawn a ix size drawn
drawn_more a ix size draws drawn g had found was more put =
    put ∙ ap (λ l. l ++ near_group a ix size g) was
    ∙ ap (λ l. near_drawn a ix size draws ++ l) (sym (append-nil (near_group a ix size g)))
    ∙ sym (flat_map-append (near_group a ix size) draws (g ∷ []))
    ∙ ap (near_drawn a ix size) (sym more)

module _ (f : ℕ → List Pair) where
  -- one number more of a range
  pub next_done : (first i : ℕ) (had found more : List Pair) → first ≤ i
      → found ≡ had ++ flat_map f (range_with_len first (i - first)) → more ≡ found ++ f i
      → more ≡ had ++ flat_map f (range_with_len first (i + 1 - first))
  next_done first i had found more low was put =
      let n = i - first in
      let at : first + n ≡ i = omega arith in
      let next : n + 1 ≡ i + 1 - first = omega arith in
      let some = flat_map f (range_with_len first n) in
      put ∙ ap (λ l. l ++ f i) was
      ∙ append_assoc had some (f i)
      ∙ ap (λ l. had ++ (some ++ l)) (sym (append-nil (f i)))
      ∙ ap (λ l. had ++ l)
      (sym (flat_map-append f (range_with_len first n) (i ∷ []))
      ∙ ap (λ k. flat_map f (range_with_len first n ++ k ∷ [])) (sym at)
      ∙ ap (flat_map f) (sym (range_more first n))
      ∙ ap (λ k. flat_map f (range_with_len first k)) next)
