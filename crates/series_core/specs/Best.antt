-- What a list of the k best pairs holds.
use Rattle.std.specs.Prelude.{◌≡◌, ℕ, ◌<◌, ◌≤◌, true, false, List, length}
use Rattle.std.specs.List.{AllByRecursion}
use Rattle.std.specs.List.Sorted.{IsPartitionPoint}
use Rattle.series_core.specs.Pairs.{is_before, ascending}
use Rattle.series_core.specs.declared.pair.Pair.{Pair}
use Rattle.series_core.specs.declared.best.TheConstants.{MAX_BEST}

-- for how many pairs there is room, and the pairs that are held
pub record Best : Type 0 where
  pub k : ℕ
  pub pairs : List Pair

-- the pairs ascend, and there are no more than k of them
pub record IsBest (best : Best) : Type 0 where
  pub some : 0 < best.k
  pub limit : best.k ≤ MAX_BEST
  pub size : length best.pairs ≤ best.k
  pub ordered : ascending best.pairs ≡ best.pairs

-- the pairs before this place are smaller than p, and no other is
abbrev pub IsPlaceOf : Pair → List Pair → ℕ → Type 0
IsPlaceOf p qs at = IsPartitionPoint (λ q. is_before q p ≡ true) (λ q. is_before q p ≡ false) qs at

-- no pair of the list comes after p
abbrev pub IsBehind : Pair → List Pair → Type 0
IsBehind p qs = AllByRecursion (λ q. is_before p q ≡ false) qs

-- no pair of the second list comes after one of the first
abbrev pub AreBehind : List Pair → List Pair → Type 0
AreBehind ps qs = AllByRecursion (λ p. IsBehind p qs) ps
