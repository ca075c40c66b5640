-- One series more: given up, without another, or kept among the k farthest. Then the series of a group (`weighed_next`, `weighed_group`).
use Rattle.std.proofs.Common.{◌≡◌, ℕ, ◌+◌, ◌-◌, ◌*◌, ◌<◌, ◌≤◌, List, [], ◌∷◌, ◌++◌, ◌⊎◌, All, length, map, min, take, sym, ap, ◌∙◌, subst, inl, inr, ⊎_elim, arith}
use Rattle.list_totals.specs.Standing.{In}
use Rattle.list_totals.proofs.Standing.{in_all, in_append, in_front, in_behind}
use Rattle.series_core.specs.Best.{Best}
use Rattle.series_core.specs.Collection.{Collection}
use Rattle.series_core.specs.Order.{Among, Ascending, distance_at}
use Rattle.series_core.specs.Pairs.{ascending, smallest}
use Rattle.series_core.specs.declared.pair.Pair.{Pair}
use Rattle.series_core.proofs.Parts.{has_take, distance_part}
use Rattle.series_core.proofs.Plain.{has_ascending, ascending_has}
use Rattle.discord_query.specs.Discords.{farness, farness_of, all_farness, least_farness, other}
use Rattle.discord_query.specs.Done.{IsPart, Weighed, Holds}
use Rattle.discord_query.specs.Groups.{group_of, IsOfGroup}
use Rattle.discord_query.proofs.Farness.{all_near, all_strict, own_piece, piece_in_all, top_below}
use Rattle.discord_query.proofs.Grouping.{of_group, in_group}
use Rattle.discord_query.proofs.Joining.{joined_strict, joined_only, joined_has}

module _ (c : Collection) (k : ℕ) where
  -- the k-th pair of a part is no farther down than that of all
  pub floor_below : (list : Best) → IsPart c k list → least_farness c k ≤ distance_at (list.k - 1) list.pairs
  floor_below list part =
      let low = distance_part (k - 1) list.pairs (ascending (all_farness c)) part.strict (all_strict c)
      (all_near c) (λ q has. in_order q (part.among q has)) in
      let same = ap (λ (n : ℕ). distance_at (n - 1) list.pairs) part.room in
      omega (arith, low, same)
    where
      in_order : (q : Pair) → In q (all_farness c) → In q (ascending (all_farness c))
      in_order q has = ascending_has q (all_farness c) has

  -- one of the k smallest that is of this series is the pair of this series
  of_series : (s : ℕ) (p : Pair) → In p (take k (ascending (all_farness c))) → p.number ≡ s
      → In p (farness_of c s)
  of_series s p first same =
      let piece = own_piece c p
      (has_ascending p (all_farness c) (has_take k p (ascending (all_farness c)) first)) in
      subst (λ (n : ℕ). In p (farness_of c n)) same piece.1

  -- a series that is given up is none of the k smallest
  pub given_up : (s limit : ℕ) (pairs : List Pair) → 1 ≤ k → least_farness c k ≤ limit
      → All (λ p. limit < p.distance) (farness_of c s)
      → (p : Pair) → In p (take k (ascending (all_farness c))) → In p pairs ⊎ (p.number ≡ s) → In p pairs
  given_up s limit pairs some low far p first has = ⊎_elim
      (λ (t : In p pairs). t)
      (λ (same : p.number ≡ s).
      let above = in_all (λ (q : Pair). limit < q.distance) (farness_of c s) p far (of_series s p first same) in
      let below = top_below c k p some first in absurd (omega (arith, above, below, low)))
      has

  -- and so is a series without another
  pub alone : (s : ℕ) (pairs : List Pair) → [] ≡ other c s
      → (p : Pair) → In p (take k (ascending (all_farness c))) → In p pairs ⊎ (p.number ≡ s) → In p pairs
  alone s pairs none p first has = ⊎_elim
      (λ (t : In p pairs). t)
      (λ (same : p.number ≡ s).
      absurd (subst (λ (l : List Pair). In p (map (farness s) l)) (sym none) (of_series s p first same)))
      has

  module _ (s : ℕ) (o : Pair) (list : Best) (is : o ∷ [] ≡ other c s) (inside : s < length c.series)
      (part : IsPart c k list) (new : (p : Pair) → In p list.pairs → p.number < s) where
    -- the pair that is added
    abbrev added : Pair
    added = farness s o

    -- it is one of all
    added_among : Among (added ∷ []) (all_farness c)
    added_among p has = ⊎_elim
        (λ (e : p ≡ added). piece_in_all c (length c.series) 0 s p (omega arith) (omega arith)
        (subst (λ (l : List Pair). In p (map (farness s) l)) is (inl e)))
        (λ (t : ⊥). absurd t)
        has

    -- it is new
    apart : (p : Pair) → In p (added ∷ []) → In p list.pairs → ⊥
    apart p has had = ⊎_elim
        (λ (e : p ≡ added).
        let low = new p had in
        let same : p.number ≡ s = ap (λ (q : Pair). q.number) e in absurd (omega arith))
        (λ (t : ⊥). t)
        has

    -- the list with it is a part too
    pub weighed_part : (after : Best) → after.k ≡ list.k → after.pairs ≡ smallest list.k (added ∷ list.pairs)
        → IsPart c k after
    weighed_part after room pairs = record {
      room = room ∙ part.room;
      strict = subst Ascending (sym pairs)
          (joined_strict list.k (all_farness c) (added ∷ []) list.pairs (all_strict c) (tt, tt)
          part.strict added_among part.among apart);
      among = λ p has. ⊎_elim (added_among p) (part.among p)
          (joined_only list.k (all_farness c) (added ∷ []) list.pairs (all_strict c) (tt, tt)
          part.strict added_among part.among apart p (subst (In p) pairs has));
    }

    -- it has nothing else
    pub weighed_only : (after : List Pair) → after ≡ smallest list.k (added ∷ list.pairs)
        → (p : Pair) → In p after → In p list.pairs ⊎ (p.number ≡ s)
    weighed_only after pairs p has = ⊎_elim
        (λ (t : In p (added ∷ [])). ⊎_elim
        (λ (e : p ≡ added). inr (ap (λ (q : Pair). q.number) e)) (λ (u : ⊥). absurd u) t)
        (λ (t : In p list.pairs). inl t)
        (joined_only list.k (all_farness c) (added ∷ []) list.pairs (all_strict c) (tt, tt)
        part.strict added_among part.among apart p (subst (In p) pairs has))

    -- and what of the k smallest it had or is of the series
    pub weighed_keeps : (after : List Pair) → after ≡ smallest list.k (added ∷ list.pairs)
        → (p : Pair) → In p (take k (ascending (all_farness c))) → In p list.pairs ⊎ (p.number ≡ s)
        → In p after
    weighed_keeps after pairs p first has =
        subst (In p) (sym pairs)
        (joined_has list.k (all_farness c) (added ∷ []) list.pairs (all_strict c) (tt, tt)
        part.strict added_among part.among apart p
        (subst (λ (n : ℕ). In p (take n (ascending (all_farness c)))) (sym part.room) first)
        (⊎_elim (λ (t : In p list.pairs). inr t)
        (λ (same : p.number ≡ s).
        inl (subst (λ (l : List Pair). In p (map (farness s) l)) (sym is) (of_series s p first same)))
        has))

  -- the list with the series from one up to another taken in
  abbrev pub WeighedRow : ℕ → ℕ → Best → Best → Type 0
  WeighedRow from end before after = Weighed c k (λ s. (from ≤ s) × (s < end)) before after

  -- no series yet
  pub weighed_none : (from : ℕ) (list : Best) → IsPart c k list → WeighedRow from from list list
  weighed_none from list part = record {
    part = part;
    only = λ p has. inl has;
    keeps = λ p first has. ⊎_elim (λ (t : In p list.pairs). t)
        (λ (t : (from ≤ p.number) × (p.number < from)). absurd (omega (arith, t.0, t.1))) has;
  }

  -- the next series
  pub weighed_next : (from s : ℕ) (before list after : Best) → from ≤ s → WeighedRow from s before list
      → Weighed c k (λ n. n ≡ s) list after → WeighedRow from (s + 1) before after
  weighed_next from s before list after low was one = record {
    part = one.part;
    only = λ p has. ⊎_elim
        (λ (t : In p list.pairs). ⊎_elim
        (λ (u : In p before.pairs). inl u)
        (λ (u : (from ≤ p.number) × (p.number < s)). inr (u.0, omega (arith, u.1)))
        (was.only p t))
        (λ (e : p.number ≡ s). inr (omega (arith, low, e), omega (arith, e)))
        (one.only p has);
    keeps = λ p first has. one.keeps p first (⊎_elim
        (λ (t : In p before.pairs). inl (was.keeps p first (inl t)))
        (λ (t : (from ≤ p.number) × (p.number < s + 1)). ⊎_elim
        (λ (e : p.number ≡ s). inr e)
        (λ (l : p.number < s). inl (was.keeps p first (inr (t.0, l))))
        (last_or_before p.number s t.1))
        has);
  }
    where
      last_or_before : (n s : ℕ) → n < s + 1 → (n ≡ s) ⊎ (n < s)
      last_or_before n s low = grind arith

  -- the series from the first of a group up to its end, or that of all series, are those of the group
  pub weighed_group : (size g from end : ℕ) (before after : Best) → 1 ≤ size → from ≡ g * size
      → end ≡ from + min size (length c.series - from) → WeighedRow from end before after
      → Weighed c k (IsOfGroup size g) before after
  weighed_group size g from end before after some first last was = record {
    part = was.part;
    only = λ p has. ⊎_elim
        (λ (t : In p before.pairs). inl t)
        (λ (t : (from ≤ p.number) × (p.number < end)).
        inr (of_group size g p.number some (omega (arith, first, t.0)) (omega (arith, first, last, t.1))))
        (was.only p has);
    keeps = λ p near has. was.keeps p near (⊎_elim
        (λ (t : In p before.pairs). inl t)
        (λ (t : IsOfGroup size g p.number).
        let there = in_group size g p.number some t in
        let real = own_piece c p (has_ascending p (all_farness c) (has_take k p (ascending (all_farness c)) near)) in
        inr (omega (arith, first, there.0), omega (arith, first, last, there.1, real.0)))
        has);
  }

  -- one group more is drawn
  pub holds_more : (size g : ℕ) (draws drawn : List ℕ) (before after : Best) → Holds c k size draws before.pairs
      → drawn ≡ draws ++ g ∷ [] → Weighed c k (IsOfGroup size g) before after → Holds c k size drawn after.pairs
  holds_more size g draws drawn before after was more now = record {
    only = λ p has. subst (In (group_of size p.number)) (sym more) (⊎_elim
        (λ (t : In p before.pairs). in_front (group_of size p.number) draws (g ∷ []) (was.only p t))
        (λ (e : IsOfGroup size g p.number). in_behind (group_of size p.number) draws (g ∷ []) (inl e))
        (now.only p has));
    has = λ p first has.
        let n = group_of size p.number in
        now.keeps p first (⊎_elim
        (λ (t : In n draws). inl (was.has p first t))
        (λ (t : In n (g ∷ [])). ⊎_elim (λ (e : n ≡ g). inr e) (λ (u : ⊥). absurd u) t)
        (in_append n draws (g ∷ []) (subst (In n) more has)));
  }
