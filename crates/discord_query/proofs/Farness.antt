-- The pairs of all series with NONE less the distance of their nearest others: one a series at most, so in order strictly
-- ascending.
use Rattle.std.proofs.Common.{◌≡◌, ℕ, zero, suc, ◌+◌, ◌-◌, ◌<◌, ◌≤◌, List, [], ◌∷◌, ◌++◌, ◌⊎◌, length, map, take, sym, ap, subst, ⊎_elim, arith}
use Rattle.std.specs.List.{flat_map, range_with_len, filter}
use Rattle.list_totals.specs.Standing.{In}
use Rattle.list_totals.proofs.Standing.{in_append, in_front, in_behind}
use Rattle.series_core.specs.Collection.{Collection}
use Rattle.series_core.specs.Answer.{answer}
use Rattle.series_core.specs.Order.{Ascending, AllNear, distance_at}
use Rattle.series_core.specs.Pairs.{ascending}
use Rattle.series_core.specs.declared.pair.Pair.{Pair}
use Rattle.series_core.proofs.Parts.{ascending_insert, distance_last}
use Rattle.series_core.proofs.Plain.{has_ascending}
use Rattle.series_core.proofs.Ranks.{by_rank_smallest}
use Rattle.subtree_build.specs.Members.{series_at}
use Rattle.discord_query.specs.Discords.{is_other, farness, farness_of, all_farness, least_farness, top}

-- at most one pair of a series, from the first of some pairs
abbrev one_of : (ℕ → List Pair) → ℕ → List Pair
one_of g s = map (farness s) (take 1 (g s))

-- its number
one_number : (s : ℕ) (ps : List Pair) (p : Pair) → In p (map (farness s) (take 1 ps)) → p.number ≡ s
one_number s [] p has = absurd has
one_number s (o ∷ ps) p has =
    ⊎_elim (λ (e : p ≡ farness s o). ap (λ (x : Pair). x.number) e) (λ (t : ⊥). absurd t) has

-- its distance is at most NONE
one_near : (s : ℕ) (ps : List Pair) → AllNear (map (farness s) (take 1 ps))
one_near s [] p has = absurd has
one_near s (o ∷ ps) p has = ⊎_elim
    (λ (e : p ≡ farness s o). let d = ap (λ (x : Pair). x.distance) e in omega arith)
    (λ (t : ⊥). absurd t)
    has

module _ (g : ℕ → List Pair) where
  -- those of the series from a on
  abbrev from : ℕ → ℕ → List Pair
  from a n = flat_map (one_of g) (range_with_len a n)

  -- each is that of a series from a on
  pub piece_of : (n a : ℕ) (p : Pair) → In p (from a n)
      → (a ≤ p.number) × (p.number < a + n) × In p (one_of g p.number)
  piece_of zero a p has = absurd has
  piece_of (suc n) a p has = ⊎_elim
      (λ (t : In p (one_of g a)).
      let same : p.number ≡ a = one_number a (g a) p t in
      (omega arith, omega arith, subst (λ (s : ℕ). In p (one_of g s)) (sym same) t))
      (λ (t : In p (from (a + 1) n)).
      let rest = piece_of n (a + 1) p t in (omega (arith, rest.0), omega (arith, rest.1), rest.2))
      (in_append p (one_of g a) (from (a + 1) n) has)

  -- in order they ascend strictly
  strict_head : (s : ℕ) (ps rest : List Pair) → Ascending (ascending rest)
      → ((p : Pair) → In p rest → s < p.number)
      → Ascending (ascending (map (farness s) (take 1 ps) ++ rest))
  strict_head s [] rest up above = up
  strict_head s (o ∷ ps) rest up above =
      ascending_insert (farness s o) (ascending rest)
      (λ has. let low = above (farness s o) (has_ascending (farness s o) rest has) in absurd (omega arith)) up

  pub strict : (n a : ℕ) → Ascending (ascending (from a n))
  strict zero a = tt
  strict (suc n) a = strict_head a (g a) (from (a + 1) n) (strict n (a + 1))
      (λ p has. let rest = piece_of n (a + 1) p has in omega (arith, rest.0))

module _ (c : Collection) where
  -- what of each series comes first of the others
  abbrev others : ℕ → List Pair
  others s = filter (is_other s) (answer c (series_at c s) (length c.series))

  -- each pair is that of its series
  pub own_piece : (p : Pair) → In p (all_farness c)
      → (p.number < length c.series) × In p (farness_of c p.number)
  own_piece p has =
      let piece = piece_of others (length c.series) 0 p has in (omega (arith, piece.1), piece.2)

  -- a pair of a series is one of all
  pub piece_in_all : (n a s : ℕ) (p : Pair) → a ≤ s → s < a + n → In p (farness_of c s)
      → In p (flat_map (farness_of c) (range_with_len a n))
  piece_in_all zero a s p low high has = absurd (omega arith)
  piece_in_all (suc n) a s p low high has = ⊎_elim
      (λ (e : s ≡ a). in_front p (farness_of c a) (flat_map (farness_of c) (range_with_len (a + 1) n))
      (subst (λ (m : ℕ). In p (farness_of c m)) e has))
      (λ (l : a < s). in_behind p (farness_of c a) (flat_map (farness_of c) (range_with_len (a + 1) n))
      (piece_in_all n (a + 1) s p (omega arith) (omega arith) has))
      (here_or_later s a low)
    where
      here_or_later : (s a : ℕ) → a ≤ s → (s ≡ a) ⊎ (a < s)
      here_or_later s a l = grind arith

  -- in order they ascend strictly
  pub all_strict : Ascending (ascending (all_farness c))
  all_strict = strict others (length c.series) 0

  -- no distance is above NONE
  pub all_near : AllNear (ascending (all_farness c))
  all_near p has =
      let piece = own_piece p (has_ascending p (all_farness c) has) in
      one_near p.number (others p.number) p piece.1

  -- the first k by rank are the k smallest
  pub top_is : (k : ℕ) → top c k ≡ take k (ascending (all_farness c))
  top_is k = by_rank_smallest (all_farness c) k all_strict

  -- one of the first k is at most as far up as the least farness
  pub top_below : (k : ℕ) (p : Pair) → 1 ≤ k → In p (take k (ascending (all_farness c)))
      → p.distance ≤ least_farness c k
  top_below (suc k) p some has =
      let e : suc k - 1 ≡ k = omega arith in
      subst (λ (n : ℕ). p.distance ≤ distance_at n (ascending (all_farness c))) (sym e)
      (distance_last k (ascending (all_farness c)) all_strict all_near p has)
  top_below zero p some has = absurd has
