-- The list of one worker more is merged last (`merged_more`), and no more than k pairs are left (`merged_few`).
use Rattle.std.proofs.Common.{◌≡◌, ℕ, ◌≤◌, List, [], ◌∷◌, ◌++◌, length, refl, arith}
use Rattle.std.proofs.lemmas.List.{length-take}
use Rattle.series_core.specs.Pairs.{ascending, smallest}
use Rattle.series_core.specs.declared.pair.Pair.{Pair}
use Rattle.list_team.specs.Searchers.{merged}
use Rattle.list_team.specs.declared.searcher.Searcher.{Searcher}

-- one worker more
pub merged_more : (k : ℕ) (held : List Pair) (ws : List Searcher) (w : Searcher)
    → merged k held (ws ++ w ∷ []) ≡ smallest k (w.list.pairs ++ merged k held ws)
merged_more k held [] w = refl
merged_more k held (v ∷ ws) w = merged_more k (smallest k (v.list.pairs ++ held)) ws w

-- they are no more than k
pub merged_few : (k : ℕ) (held : List Pair) (ws : List Searcher) → length held ≤ k → length (merged k held ws) ≤ k
merged_few k held [] few = few
merged_few k held (w ∷ ws) few =
    merged_few k (smallest k (w.list.pairs ++ held)) ws (omega (arith, length-take k (ascending (w.list.pairs ++ held))))
