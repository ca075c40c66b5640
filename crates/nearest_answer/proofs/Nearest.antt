-- When a list is the answer: where each leaf was scanned (`next_scanned`), was passed over (`next_passed`) or is too far,
-- it is (`answer_met`), and so it is where all series were scanned (`answer_scanned`).
use Rattle.std.proofs.Common.{◌≡◌, ℕ, ◌<◌, ◌≤◌, List, [], ◌∷◌, ◌++◌, length, take, sym, ap, subst, ◌∙◌, ⊎_elim, ◌⊎◌, inl, arith}
use Rattle.std.proofs.lemmas.List.{length-take, take_all}
use Rattle.list_totals.specs.Standing.{In}
use Rattle.list_totals.specs.Totals.{once_below, times}
use Rattle.list_totals.proofs.Totals.{once_below_low, once_below_most, once_below_yes, times_push}
use Rattle.series_core.proofs.Parts.{has_take}
use Rattle.series_core.specs.Order.{Among, Ascending}
use Rattle.series_core.specs.Pairs.{ascending, smallest}
use Rattle.series_core.specs.declared.pair.Pair.{Pair}
use Rattle.search_machine.specs.Ground.{Fits, Ground, answer, last, near, pair_of, plain, scan, worst}
use Rattle.search_machine.specs.Sound.{ListSound}
use Rattle.search_machine.proofs.Counts.{times_cons}
use Rattle.search_machine.proofs.PlainList.{answer_near, last_worst, plain_has}
use Rattle.search_machine.proofs.Pools.{Pool, ascending_still, best_all, has_either}
use Rattle.search_machine.proofs.Scans.{Fresh, has_near, list_scanned, scan_pool}
use Rattle.search_task.specs.LeafBounds.{IsBelowLeaf}
use Rattle.nearest_answer.specs.NearLeaves.{IsFar}

-- what is known of a list does not depend on the order in which leaves were met
pub same_leaves : (g : Ground) (a b : List ℕ) (ps : List Pair) → ((l : ℕ) → times l a ≡ times l b)
    → ListSound g a ps → ListSound g b ps
same_leaves g a b ps same sound = record {
  ascending = sound.ascending;
  known = sound.known;
  from = λ p h.
      let f = sound.from p h in
      let some = f.1 in
      let e = same f.0 in
      (f.0, omega arith, f.2);
  full = λ t p l w there member.
      let e = same l in
      let some : 0 < times l a = omega arith in
      sound.full t p l w some member;
}

-- an empty list, for which no leaf was met
pub none_met : (g : Ground) → ListSound g [] []
none_met g = record {
  ascending = tt;
  known = λ p h. absurd h;
  from = λ p h. absurd h;
  full = λ t p l a there member. absurd (omega arith);
}

-- a scan leaves no more than k pairs
pub scan_size : (g : Ground) (v : ℕ) (ss : List ℕ) (ps : List Pair) → length (scan g v ss ps) ≤ g.k
scan_size g v ss ps = omega (arith, length-take g.k (ascending (near g v ss ++ ps)))

module _ (g : Ground) (fits : Fits g) where
  -- no limit falls below the last distance where it is that of a list's k-th pair
  pub worst_enough : (met : List ℕ) (ps : List Pair) → ListSound g met ps → last g ≤ worst g ps
  worst_enough met ps sound =
      last_worst g fits ps (record { ascending = sound.ascending; known = sound.known })

  -- a pair of the answer is that of its series, which is no farther than the last distance
  answer_is_near : (p : Pair) → In p (answer g)
      → (p.number < g.count) × (p ≡ pair_of g p.number) × (g.distance p.number ≤ last g)
  answer_is_near p a =
      let is = plain_has g p (has_take g.k p (plain g) a) in
      let distance : p.distance ≡ g.distance p.number = ap (λ (q : Pair). q.distance) is.1 in
      let low = answer_near g fits p a in
      (is.0, is.1, omega arith)

  -- one more leaf is scanned
  pub next_scanned : (met : List ℕ) (l v : ℕ) (ps : List Pair) → l < g.leaves → times l met ≡ 0
      → last g ≤ v → ListSound g met ps
      → ListSound g (met ++ l ∷ []) (scan g v (g.members l) ps)
  next_scanned met l v ps real unscanned enough sound =
      same_leaves g (l ∷ met) (met ++ l ∷ []) (scan g v (g.members l) ps)
      (λ m. let e = times_push m met l in omega arith)
      (list_scanned g fits (Unit {0}) l v met ps real unscanned (λ _. enough) sound)

  -- one more leaf is passed over
  pub next_passed : (met : List ℕ) (l bound : ℕ) (ps : List Pair) → IsBelowLeaf g l bound → last g < bound
      → ListSound g met ps → ListSound g (met ++ l ∷ []) ps
  next_passed met l bound ps low far sound =
      same_leaves g (l ∷ met) (met ++ l ∷ []) ps (λ m. let e = times_push m met l in omega arith)
      (record {
        ascending = sound.ascending;
        known = sound.known;
        from = λ p h. let f = sound.from p h in let some = f.1 in (f.0, omega arith, f.2);
        full = λ t p m a there member. ⊎_elim
            (λ (e : m ≡ l). absurd
            (too_far p a (subst (λ (n : ℕ). 0 < times p.number (g.members n)) e member)))
            (λ (u : 0 < times m met). sound.full t p m a u member)
            (times_cons m l met there);
      })
    where
      too_far : (p : Pair) → In p (answer g) → 0 < times p.number (g.members l) → ⊥
      too_far p a member =
          let is = answer_is_near p a in
          let nearest = is.2 in
          let most = low p.number member in
          omega arith

  -- where each leaf was met or is too far, the list is the answer
  pub answer_met : (met : List ℕ) (v : ℕ) (ps : List Pair) → length ps ≤ g.k → last g ≤ v
      → ListSound g met ps → ((l : ℕ) → l < g.leaves → (0 < times l met) ⊎ IsFar g v l)
      → ps ≡ answer g
  answer_met met v ps size enough sound whole =
      sym short ∙ best_all g ps pool all
    where
      short : smallest g.k ps ≡ ps
      short = ap (take g.k) (ascending_still ps sound.ascending) ∙ take_all g.k ps size

      pool : Pool g ps
      pool = record {
        different = subst Ascending (sym (ascending_still ps sound.ascending)) sound.ascending;
        known = sound.known;
      }

      all : Among (answer g) ps
      all p a =
          let is = answer_is_near p a in
          let nearest = is.2 in
          let home = fits.has_home p.number is.0 in
          ⊎_elim
          (λ (there : 0 < times home.0 met). sound.full tt p home.0 a there home.2)
          (λ (far : IsFar g v home.0). let above = far p.number home.2 in absurd (omega arith))
          (whole home.0 home.1)

  -- where all series were scanned, each once, the list is the answer
  pub answer_scanned : (v : ℕ) (ss : List ℕ) → last g ≤ v
      → ((s : ℕ) → times s ss ≡ once_below s g.count) → scan g v ss [] ≡ answer g
  answer_scanned v ss enough each =
      best_all g (near g v ss ++ []) (scan_pool g v ss [] fresh (record {
        ascending = tt;
        known = λ p h. absurd h;
      })) all
    where
      fresh : Fresh g ss []
      fresh = record {
        real = λ s h. let e = each s in once_below_low s g.count (omega arith);
        distinct = λ s. let e = each s in let most = once_below_most s g.count in omega arith;
        new = λ p h. absurd h;
      }

      all : Among (answer g) (near g v ss ++ [])
      all p a =
          let is = answer_is_near p a in
          let nearest = is.2 in
          let e = each p.number in
          let one = once_below_yes p.number g.count is.0 in
          has_either p (near g v ss) []
          (inl (subst (λ (q : Pair). In q (near g v ss)) (sym is.1)
          (has_near g v ss p.number (omega arith) (omega arith))))
