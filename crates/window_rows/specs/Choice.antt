-- Pairs chosen from a list, rank by rank, so that their numbers lie apart.
use Rattle.std.specs.Prelude.{◌≡◌, ℕ, ◌+◌, ◌-◌, ◌*◌, ◌<◌, ◌≤◌, ℤ, Bool, List, [], ◌∷◌, ◌++◌, ◌&&◌, zero, suc, map, take, length, find, nat_le, nat_lt, nat_eq, if◌then◌else◌}
use Rattle.std.specs.List.{list_all, IsDistinct}
use Rattle.std.specs.Option.{option_to_list}
use Rattle.series_core.specs.Collection.{Collection}
use Rattle.series_core.specs.Answer.{answer}
use Rattle.series_core.specs.Distance.{apart}
use Rattle.series_core.specs.declared.pair.Pair.{Pair}

-- the two numbers differ by at least so much
abbrev pub is_apart : ℕ → ℕ → ℕ → Bool
is_apart far a b = nat_le far (apart a b)

-- the number of the pair differs by at least so much from the numbers of all these pairs
abbrev pub is_apart_from : ℕ → List Pair → Pair → Bool
is_apart_from far chosen p = list_all (λ c. is_apart far p.number c.number) chosen

-- The pairs of the first k ranks. Rank 1 is the first pair of the list, and each next rank the
-- first pair that is apart from all chosen before. Where there is none, the ranks end.
abbrev pub chosen_apart : ℕ → List Pair → ℕ → List Pair
chosen_apart far pairs zero = []
chosen_apart far pairs (suc k) =
    chosen_apart far pairs k
    ++ option_to_list (find (is_apart_from far (chosen_apart far pairs k)) pairs)

-- the choice of at most k pairs after one more pair: it is added where a rank is left and it is
-- apart from the others
abbrev pub added : ℕ → ℕ → List Pair → Pair → List Pair
added far k chosen p =
    if nat_lt (length chosen) k && is_apart_from far chosen p then chosen ++ p ∷ [] else chosen

-- How many pairs are enough for k ranks: each pair that was chosen before the last shuts out its own
-- number and those on both sides that are nearer than apart.
abbrev pub enough : ℕ → ℕ → ℕ
enough far k = (k - 1) * (2 * far - 1) + 1

-- the first pairs of the list, if they are enough, are chosen from as the whole list is
abbrev pub FirstAreEnough : Type 0
FirstAreEnough = (far k m : ℕ) (pairs : List Pair) → 0 < far
    → IsDistinct nat_eq (map (λ p. p.number) pairs)
    → enough far k ≤ m → chosen_apart far (take m pairs) k ≡ chosen_apart far pairs k

-- the nearest series, if they are enough, are chosen from as the answer with all series is
abbrev pub NearestAreEnough : Type 0
NearestAreEnough = (far k m : ℕ) (c : Collection) (q : List ℤ) → 0 < far → enough far k ≤ m
    → chosen_apart far (answer c q m) k ≡ chosen_apart far (answer c q (length c.series)) k
