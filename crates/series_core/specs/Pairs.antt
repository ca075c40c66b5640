-- Pairs of a distance and a series number, their order, and their ranks.
use Rattle.std.specs.Prelude.{ℕ, Bool, ◌&&◌, ◌||◌, List, [], ◌∷◌, ◌++◌, nat_lt, nat_eq, cond, take, zero, suc}
use Rattle.std.specs.List.{filter, count_by}
use Rattle.series_core.specs.declared.pair.Pair.{Pair}

-- p is smaller than q: it is nearer, or as near with a smaller number
abbrev pub is_before : Pair → Pair → Bool
is_before p q =
    nat_lt p.distance q.distance || (nat_eq p.distance q.distance && nat_lt p.number q.number)

-- how many pairs of the list are smaller than p: its rank, counted from 0
abbrev pub rank_of : List Pair → Pair → ℕ
rank_of ps p = count_by (λ q. is_before q p) ps

-- the pair of the list that has this rank, as a list of one; empty where there is none
abbrev pub at_rank : List Pair → ℕ → List Pair
at_rank ps r = filter (λ p. nat_eq (rank_of ps p) r) ps

-- for each rank below k in order, the pair that has it
abbrev pub by_rank : List Pair → ℕ → List Pair
by_rank ps zero = []
by_rank ps (suc k) = by_rank ps k ++ at_rank ps k

-- p put before the first pair of the list that is not smaller
abbrev pub insert : Pair → List Pair → List Pair
insert p [] = p ∷ []
insert p (q ∷ qs) = cond (is_before q p) (q ∷ insert p qs) (p ∷ q ∷ qs)

-- the same pairs, each as often, in ascending order
abbrev pub ascending : List Pair → List Pair
ascending [] = []
ascending (p ∷ ps) = insert p (ascending ps)

-- the k smallest pairs of the list, ascending; all of them where it has no more than k
abbrev pub smallest : ℕ → List Pair → List Pair
smallest k ps = take k (ascending ps)
