-- Each series is in one stretch alone, so that the search may be seen as if stretches were leaves (`stretches_fit`).
use Rattle.std.proofs.Common.{◌≡◌, ℕ, zero, suc, ◌+◌, ◌-◌, ◌*◌, ◌<◌, ◌≤◌, List, [], ◌∷◌, length, map, min, Some, refl, ap, sym, subst, ◌∙◌, ⊎_elim, arith}
use Rattle.std.specs.Prelude.{slice_get}
use Rattle.std.specs.List.{flat_map, range_with_len}
use Rattle.std.proofs.lemmas.Bool.{cases_eq, cases_lt}
use Rattle.std.proofs.lemmas.Option.{none-some, same_Some}
use Rattle.list_totals.specs.Totals.{once_below, one_if_same, times, total}
use Rattle.list_totals.proofs.Totals.{once_below_low, once_below_most, once_below_yes, times_append}
use Rattle.search_machine.specs.Ground.{Fits}
use Rattle.search_machine.proofs.Counts.{counts_or_not, equal_counts, times_cons}
use Rattle.nearest_answer.specs.declared.telling.ApartBy.{ApartBy}
use Rattle.nearest_answer.specs.declared.telling.ApartBy.TheVariants.{Means, Codes, Nothing}
use Rattle.nearest_answer.specs.Stretches.{IsCut, by_stretches, item_count, series_of, stretch_size}
use Rattle.search_task.specs.Questions.{CanBeSearched, Searched}
use Rattle.search_task.proofs.BelowRoots.{times_range}
use Rattle.search_task.proofs.Grounds.{ground_fits}

module _ (f : ℕ → List ℕ) where
  -- a series of items in a row is of one of them
  of_item : (n a s : ℕ) → 0 < times s (flat_map f (range_with_len a n))
      → (i : ℕ) × (a ≤ i) × (i < a + n) × (0 < times s (f i))
  of_item zero a s some = absurd (omega (arith, some))
  of_item (suc n) a s some =
      let parts = times_append s (f a) (flat_map f (range_with_len (a + 1) n)) in
      ⊎_elim
      (λ (here : 0 < times s (f a)). (a, omega arith, omega arith, here))
      (λ (none : times s (f a) ≤ 0).
      let rest = of_item n (a + 1) s (omega (arith, parts, none, some)) in
      (rest.0, omega (arith, rest.1), omega (arith, rest.2), rest.3))
      (cases_lt 0 (times s (f a)))

  -- and a series of one of them is of them
  pub in_item : (n a i s : ℕ) → a ≤ i → i < a + n → 0 < times s (f i) → 0 < times s (flat_map f (range_with_len a n))
  in_item zero a i s low high some = absurd (omega arith)
  in_item (suc n) a i s low high some =
      let parts = times_append s (f a) (flat_map f (range_with_len (a + 1) n)) in
      ⊎_elim
      (λ (e : i ≡ a).
      let here : 0 < times s (f a) = subst (λ (m : ℕ). 0 < times s (f m)) e some in
      omega (arith, parts, here))
      (λ (ne : i ≡ a → ⊥).
      let rest = in_item n (a + 1) i s (later i a low ne) (omega arith) some in
      omega (arith, parts, rest))
      (cases_eq i a)
    where
      later : (i a : ℕ) → a ≤ i → (i ≡ a → ⊥) → a + 1 ≤ i
      later i a low ne = ⊎_elim
          (λ (h : a < i). omega arith)
          (λ (h : i ≤ a). absurd (ne (omega arith)))
          (cases_lt a i)

  -- it stands there once, where it is of one item alone and stands there once
  once_there : ((i j s : ℕ) → 0 < times s (f i) → 0 < times s (f j) → i ≡ j) → ((i s : ℕ) → times s (f i) ≤ 1)
      → (n a s : ℕ) → times s (flat_map f (range_with_len a n)) ≤ 1
  once_there one once zero a s = omega arith
  once_there one once (suc n) a s =
      let parts = times_append s (f a) (flat_map f (range_with_len (a + 1) n)) in
      let here = once a s in
      let rest = once_there one once n (a + 1) s in
      ⊎_elim
      (λ (some : 0 < times s (flat_map f (range_with_len (a + 1) n))).
      let item = of_item n (a + 1) s some in
      ⊎_elim
      (λ (mine : 0 < times s (f a)).
      let same = one a item.0 s mine item.3 in absurd (omega (arith, same, item.1)))
      (λ (none : times s (f a) ≤ 0). omega (arith, parts, none, rest))
      (cases_lt 0 (times s (f a))))
      (λ (none : times s (flat_map f (range_with_len (a + 1) n)) ≤ 0). omega (arith, parts, none, here))
      (cases_lt 0 (times s (flat_map f (range_with_len (a + 1) n))))

-- items of which each series is one's alone
record AreItems (s : Searched) (by : ApartBy) : Type 0 where
  one : (i j x : ℕ) → 0 < times x (series_of s by i) → 0 < times x (series_of s by j) → i ≡ j
  once : (i x : ℕ) → times x (series_of s by i) ≤ 1
  home : (x : ℕ) → x < length s.question.collection.series → (i : ℕ) × (i < item_count s by) × (0 < times x (series_of s by i))
  real : (i x : ℕ) → i < item_count s by → 0 < times x (series_of s by i) → x < length s.question.collection.series

-- the series of a row is its own
only_own : (x i : ℕ) → 0 < times x (i ∷ []) → x ≡ i
only_own x i some = ⊎_elim (λ (e : x ≡ i). e) (λ (t : 0 < times x []). absurd (omega (arith, t))) (times_cons x i [] some)

-- leaves and rows are such items
are_items : (s : Searched) (by : ApartBy) → CanBeSearched s.question s.index → AreItems s by
are_items s Means searched =
    let fits = ground_fits s searched in
    record { one = fits.one_home; once = fits.home_once; home = fits.has_home; real = fits.member_real }
are_items s Codes searched =
    let fits = ground_fits s searched in
    record { one = fits.one_home; once = fits.home_once; home = fits.has_home; real = fits.member_real }
are_items s Nothing searched = record {
  one = λ i j x a b. sym (only_own x i a) ∙ only_own x j b;
  once = λ i x. ⊎_elim
      (λ (c : (one_if_same x i ≡ 1) × (x ≡ i)). let n = c.0 in omega (arith, n))
      (λ (n : one_if_same x i ≡ 0). omega (arith, n))
      (counts_or_not x i);
  home = λ x low. let n = equal_counts x x refl in (x, low, omega (arith, n));
  real = λ i x low some. subst (λ (m : ℕ). m < length s.question.collection.series) (sym (only_own x i some)) low;
}

-- the stretch of an item
place_of : (size : ℕ) → 0 < size → (i : ℕ) → (n : ℕ) × (n * size ≤ i) × (i < n * size + size)
place_of size some zero = (0, omega arith, omega arith)
place_of size some (suc i) =
    let was = place_of size some i in
    let more : suc was.0 * size ≡ was.0 * size + size = next was.0 size in
    ⊎_elim
    (λ (h : suc i < was.0 * size + size). (was.0, omega (arith, was.1), h))
    (λ (h : was.0 * size + size ≤ suc i). (suc was.0, omega (arith, more, h), omega (arith, more, was.2)))
    (cases_lt (suc i) (was.0 * size + size))
  where
    next : (n size : ℕ) → suc n * size ≡ n * size + size
    next n size = grind arith

-- some items are a stretch
some_items : (by : ApartBy) → 0 < stretch_size by
some_items Means = omega arith
some_items Codes = omega arith
some_items Nothing = omega arith

-- an item is in one stretch
one_stretch : (by : ApartBy) (n m i : ℕ) → n * stretch_size by ≤ i → i < n * stretch_size by + stretch_size by
    → m * stretch_size by ≤ i → i < m * stretch_size by + stretch_size by → n ≡ m
one_stretch Means n m i a b c d = omega (arith, a, b, c, d)
one_stretch Codes n m i a b c d = omega (arith, a, b, c, d)
one_stretch Nothing n m i a b c d = omega (arith, a, b, c, d)

-- the stretch of an item is one of those that have all
real_stretch : (by : ApartBy) (n count i : ℕ) → n * stretch_size by ≤ i → i < count * stretch_size by → n < count
real_stretch Means n count i a b = omega (arith, a, b)
real_stretch Codes n count i a b = omega (arith, a, b)
real_stretch Nothing n count i a b = omega (arith, a, b)

-- a number stands in lists of one number each as often as in all these numbers
in_singles : (l : ℕ) (xs : List ℕ) → total (times l) (map (λ (n : ℕ). n ∷ []) xs) ≡ times l xs
in_singles l [] = refl
in_singles l (x ∷ xs) = let rest = in_singles l xs in omega (arith, rest)

-- each of these lists has a number
single_some : (xs : List ℕ) (c : ℕ) (ls : List ℕ) → slice_get (map (λ (n : ℕ). n ∷ []) xs) c ≡ Some ls → 0 < length ls
single_some [] c ls e = absurd (none-some ls e)
single_some (x ∷ xs) zero ls e = subst (λ (l : List ℕ). 0 < length l) (same_Some (x ∷ []) ls e) (omega arith)
single_some (x ∷ xs) (suc c) ls e = single_some xs c ls e

-- a number is below a root child once where it is that of a stretch
below : (l count : ℕ) → total (times l) (map (λ (n : ℕ). n ∷ []) (range_with_len 0 count)) ≡ once_below l count
below l count =
    let end : 0 + count ≡ count = omega arith in
    in_singles l (range_with_len 0 count) ∙ times_range l 0 count (omega arith) ∙ ap (once_below l) end

-- stretches are leaves of a search
pub stretches_fit : (s : Searched) (by : ApartBy) (count : ℕ) → CanBeSearched s.question s.index → IsCut s by count
    → Fits (by_stretches s by count)
stretches_fit s by count searched cut =
    let fits = ground_fits s searched in
    let items = are_items s by searched in
    let size = stretch_size by in
    let all = item_count s by in
    let f = series_of s by in
    record {
      some_rank = fits.some_rank;
      some_queue = fits.some_queue;
      some_worker = fits.some_worker;
      distance_limit = fits.distance_limit;
      member_real = λ n x low some.
          let item = of_item f (min size (all - n * size)) (n * size) x some in
          let first = cut.real n low in
          items.real item.0 x (omega (arith, first, item.2)) item.3;
      has_home = λ x low.
          let home = items.home x low in
          let place = place_of size (some_items by) home.0 in
          let whole = cut.whole in (
            place.0,
            real_stretch by place.0 count home.0 place.1 (omega (arith, home.1, whole)),
            in_item f (min size (all - place.0 * size)) (place.0 * size) home.0 x place.1
                (omega (arith, place.1, place.2, home.1)) home.2,
          );
      one_home = λ n m x a b.
          let i = of_item f (min size (all - n * size)) (n * size) x a in
          let j = of_item f (min size (all - m * size)) (m * size) x b in
          let same = items.one i.0 j.0 x i.3 j.3 in
          one_stretch by n m i.0 i.1 (omega (arith, i.2)) (omega (arith, same, j.1)) (omega (arith, same, j.2));
      home_once = λ n x. once_there f items.one items.once (min size (all - n * size)) (n * size) x;
      bound_low = λ l x low some. omega arith;
      below_root = λ l low. omega (arith, below l count, once_below_yes l count low);
      below_once = λ l. omega (arith, below l count, once_below_most l count);
      below_real = λ l some. once_below_low l count (omega (arith, some, below l count));
      some_leaf = λ c ls e. single_some (range_with_len 0 count) c ls e;
      start_real = λ l e. absurd (none-some l e);
    }
