-- A limit for a portion is one for a list whose pairs all lie in the portion (`portion_low`), and what is no less than the limits of all
-- portions is no less than the last distance (`last_portions`).
use Rattle.std.proofs.Common.{◌≡◌, ℕ, zero, suc, ◌-◌, ◌*◌, ◌<◌, ◌≤◌, ◌++◌, Bool, true, List, [], ◌∷◌, length, take, refl, sym, ap, subst, ◌∙◌, ⊎_elim, inl, inr, nat_eq, true≢false, arith}
use Rattle.std.specs.List.{filter, range_with_len}
use Rattle.std.proofs.lemmas.Bool.{cases_lt, cond_both, eqb-true, ltb-true}
use Rattle.std.proofs.lemmas.Grind.{div_ceil_times}
use Rattle.std.proofs.lemmas.List.{length-append, length-take}
use Rattle.list_totals.specs.Standing.{In}
use Rattle.list_totals.specs.Totals.{times}
use Rattle.list_totals.proofs.Standing.{in_append, total_in}
use Rattle.series_core.specs.Order.{Above, Among, Ascending, distance_at}
use Rattle.series_core.specs.Pairs.{ascending}
use Rattle.series_core.specs.declared.distance.TheConstants.{NONE}
use Rattle.series_core.specs.declared.pair.Pair.{Pair}
use Rattle.series_core.proofs.Parts.{ascending_take, distance_last, distance_part, distance_small, has_take}
use Rattle.series_core.proofs.Plain.{has_ascending, length-ascending}
use Rattle.search_machine.specs.Ground.{Fits, Ground, last, plain}
use Rattle.search_machine.proofs.PlainList.{ascending_plain, last_none, near_plain}
use Rattle.search_machine.proofs.Pools.{ascending_joined}
use Rattle.query_core.specs.Portions.{leaves_of, lies_in, portion_last, portion_of, portion_pairs, portion_rank}

-- what stands in the part of a list that passes a test stands in the list, and passes
in_part : {X : Type 0} (test : X → Bool) (xs : List X) (x : X) → In x (filter test xs) → In x xs × (test x ≡ true)
in_part test [] x there = absurd there
in_part {X} test (y ∷ xs) x there = cond_both (test y) (y ∷ filter test xs) (filter test xs)
    (λ (l : List X). In x l → In x (y ∷ xs) × (test x ≡ true))
    (λ passes i. ⊎_elim
    (λ (same : x ≡ y). (inl same, ap test same ∙ passes))
    (λ (more : In x (filter test xs)). let r = in_part test xs x more in (inr r.0, r.1))
    i)
    (λ _ i. let r = in_part test xs x i in (inr r.0, r.1))
    there

-- and what stands in the list and passes stands in that part
pub part_in : {X : Type 0} (test : X → Bool) (xs : List X) (x : X) → In x xs → test x ≡ true → In x (filter test xs)
part_in test [] x there passes = absurd there
part_in {X} test (y ∷ xs) x there passes = cond_both (test y) (y ∷ filter test xs) (filter test xs)
    (λ (l : List X). In x l)
    (λ _. ⊎_elim
    (λ (same : x ≡ y). inl same)
    (λ (more : In x xs). inr (part_in test xs x more passes))
    there)
    (λ fails. ⊎_elim
    (λ (same : x ≡ y). absurd (true≢false (sym passes ∙ ap test same ∙ fails)))
    (λ (more : In x xs). part_in test xs x more passes)
    there)

above_part : (test : Pair → Bool) (p : Pair) (ps : List Pair) → Above p ps → Above p (filter test ps)
above_part test p [] above = tt
above_part test p (q ∷ ps) above = cond_both (test q) (q ∷ filter test ps) (filter test ps) (Above p)
    (λ _. (above.0, above_part test p ps above.1))
    (λ _. above_part test p ps above.1)

-- such a part of an ascending list ascends
ascending_part : (test : Pair → Bool) (ps : List Pair) → Ascending ps → Ascending (filter test ps)
ascending_part test [] up = tt
ascending_part test (p ∷ ps) up = cond_both (test p) (p ∷ filter test ps) (filter test ps) Ascending
    (λ _. (above_part test p ps up.0, ascending_part test ps up.1))
    (λ _. ascending_part test ps up.1)

-- where all pairs are near, so is the one at a place
place_near : (v n : ℕ) (ps : List Pair) → n < length ps → ((p : Pair) → In p ps → p.distance ≤ v) → distance_at n ps ≤ v
place_near v n [] inside near = absurd (omega arith)
place_near v zero (p ∷ ps) inside near = near p (inl refl)
place_near v (suc n) (p ∷ ps) inside near = place_near v n ps (omega arith) (λ q i. near q (inr i))

-- a place whose pair is near is there
place_there : (v n : ℕ) (ps : List Pair) → distance_at n ps ≤ v → v < NONE → n < length ps
place_there v n [] near low = absurd (omega arith)
place_there v zero (p ∷ ps) near low = omega arith
place_there v (suc n) (p ∷ ps) near low = let rest = place_there v n ps near low in omega arith

module _ (g : Ground) (fits : Fits g) where
  portion_plain : (c : ℕ) → Among (portion_pairs g c) (plain g)
  portion_plain c p there = (in_part (λ (q : Pair). lies_in g c q.number) (plain g) p there).0

  portion_ascending : (c : ℕ) → Ascending (portion_pairs g c)
  portion_ascending c = ascending_part (λ (q : Pair). lies_in g c q.number) (plain g) (ascending_plain g)

  -- a list whose pairs all lie in the portion gives no limit that is too low for it
  pub portion_low : (c : ℕ) (ps : List Pair) → Ascending ps → Among ps (plain g)
      → ((p : Pair) → In p ps → lies_in g c p.number ≡ true)
      → portion_last g c ≤ distance_at (portion_rank g - 1) ps
  portion_low c ps up known inside =
      distance_part (portion_rank g - 1) ps (portion_pairs g c) up (portion_ascending c)
      (λ p i. near_plain g fits p (portion_plain c p i))
      (λ p i. part_in (λ (q : Pair). lies_in g c q.number) (plain g) p (known p i) (inside p i))

  -- so many of each are together at least k
  enough_each : g.k ≤ g.queues * portion_rank g
  enough_each = let all = div_ceil_times g.k g.queues fits.some_queue in omega (arith, all.0)

  -- some pair is wanted of each
  pub rank_some : 0 < portion_rank g
  rank_some = ⊎_elim
      (λ (h : 0 < portion_rank g). h)
      (λ (none : portion_rank g ≤ 0).
      let zero_rank : portion_rank g ≡ 0 = omega arith in
      let product : g.queues * portion_rank g ≡ g.queues * 0 = ap (λ m. g.queues * m) zero_rank in
      absurd (omega (arith, enough_each, product, fits.some_rank)))
      (cases_lt 0 (portion_rank g))

  -- no series lies in two portions
  one_portion : (c d s : ℕ) → lies_in g c s ≡ true → lies_in g d s ≡ true → c ≡ d
  one_portion c d s first second =
      let one = total_in (λ (l : ℕ). times s (g.members l)) (leaves_of g c) (ltb-true 0 _ first) in
      let two = total_in (λ (l : ℕ). times s (g.members l)) (leaves_of g d) (ltb-true 0 _ second) in
      let same : one.0 ≡ two.0 = fits.one_home one.0 two.0 s one.2 two.2 in
      let here : portion_of g one.0 ≡ c
      = eqb-true (portion_of g one.0) c (in_part (λ l. nat_eq (portion_of g l) c) (range_with_len 0 g.leaves) one.0 one.1).1 in
      let there : portion_of g two.0 ≡ d
      = eqb-true (portion_of g two.0) d (in_part (λ l. nat_eq (portion_of g l) d) (range_with_len 0 g.leaves) two.0 two.1).1 in
      sym here ∙ ap (portion_of g) same ∙ there

  -- pairs of the first n portions, none twice, so many of each, and none of them farther than v
  record Gathered (v n : ℕ) (ps : List Pair) : Type 0 where
    different : Ascending (ascending ps)
    known : Among ps (plain g)
    from : (p : Pair) → In p ps → (c : ℕ) × (c < n) × (lies_in g c p.number ≡ true)
    count : n * portion_rank g ≤ length ps
    near : (p : Pair) → In p ps → p.distance ≤ v

  module _ (v : ℕ) (some : 0 < portion_rank g) (low : v < NONE) where
    -- the nearest of one more portion
    gather : (n : ℕ) (ps : List Pair) → portion_last g n ≤ v → Gathered v n ps
        → Gathered v (suc n) (take (portion_rank g) (portion_pairs g n) ++ ps)
    gather n ps last so_far = record {
      different = ascending_joined own ps (ascending_take rank (portion_pairs g n) (portion_ascending n)) so_far.different apart;
      known = λ p i. ⊎_elim
          (λ (h : In p own). portion_plain n p (has_take rank p (portion_pairs g n) h))
          (λ (h : In p ps). so_far.known p h)
          (in_append p own ps i);
      from = λ p i. ⊎_elim
          (λ (h : In p own). (n, omega arith, lies p h))
          (λ (h : In p ps). let f = so_far.from p h in let less = f.1 in (f.0, omega arith, f.2))
          (in_append p own ps i);
      count = omega (arith, length-append own ps, length-take rank (portion_pairs g n), long, so_far.count);
      near = λ p i. ⊎_elim
          (λ (h : In p own). own_near p h)
          (λ (h : In p ps). so_far.near p h)
          (in_append p own ps i);
    }
      where
        rank : ℕ
        rank = portion_rank g

        own : List Pair
        own = take rank (portion_pairs g n)

        lies : (p : Pair) → In p own → lies_in g n p.number ≡ true
        lies p h = (in_part (λ (q : Pair). lies_in g n q.number) (plain g) p (has_take rank p (portion_pairs g n) h)).1

        apart : (p : Pair) → In p own → In p ps → ⊥
        apart p here there =
            let f = so_far.from p there in
            let less = f.1 in
            let same = one_portion n f.0 p.number (lies p here) f.2 in
            omega arith

        long : rank ≤ length (portion_pairs g n)
        long = let there = place_there v (rank - 1) (portion_pairs g n) last low in omega arith

        own_near : (p : Pair) → In p own → p.distance ≤ v
        own_near p h =
            let first : rank ≡ suc (rank - 1) = omega arith in
            let most = distance_last (rank - 1) (portion_pairs g n) (portion_ascending n)
            (λ q i. near_plain g fits q (portion_plain n q i)) p
            (subst (λ (m : ℕ). In p (take m (portion_pairs g n))) first h) in
            omega (arith, most, last)

    -- of all portions
    gather_all : (n : ℕ) → ((c : ℕ) → c < n → portion_last g c ≤ v) → (ps : List Pair) × Gathered v n ps
    gather_all zero lasts = (
      [],
      record {
        different = tt;
        known = λ p i. absurd i;
        from = λ p i. absurd i;
        count = omega arith;
        near = λ p i. absurd i;
      },
    )
    gather_all (suc n) lasts =
        let rest = gather_all n (λ c less. lasts c (omega arith)) in
        (take (portion_rank g) (portion_pairs g n) ++ rest.0, gather n rest.0 (lasts n (omega arith)) rest.1)

  -- what is no less than the limits of all portions is no less than the last distance
  pub last_portions : (v : ℕ) → ((c : ℕ) → c < g.queues → portion_last g c ≤ v) → last g ≤ v
  last_portions v lasts = ⊎_elim
      (λ (low : v < NONE).
      let all = gather_all v rank_some low g.queues lasts in
      let ps = all.0 in
      let is = all.1 in
      let least = distance_part (g.k - 1) (ascending ps) (plain g) is.different (ascending_plain g) (near_plain g fits)
      (λ p i. is.known p (has_ascending p ps i)) in
      let near = place_near v (g.k - 1) (ascending ps) (omega (arith, is.count, enough_each, length-ascending ps, fits.some_rank))
      (λ p i. is.near p (has_ascending p ps i)) in
      omega (arith, least, near))
      (λ (high : NONE ≤ v). let most = last_none g fits in omega arith)
      (cases_lt v NONE)

  -- no portion's last distance is above NONE
  pub portion_none : (c : ℕ) → portion_last g c ≤ NONE
  portion_none c = distance_small (portion_rank g - 1) (portion_pairs g c)
      (λ p i. near_plain g fits p (portion_plain c p i))
