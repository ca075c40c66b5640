-- A worker's list after a scan: pairs of the plain list, each of a leaf that was scanned, and among
-- them each pair of the answer whose leaf was scanned.
use Rattle.std.proofs.Common.{List, None, Option, Some, [], ap, append-nil, arith, inl, inr, leb, refl, subst, sym, ℕ, ⊎_elim, ◌++◌, ◌<◌, ◌∙◌, ◌∷◌, ◌≡◌, ◌≤◌}
use Rattle.std.proofs.lemmas.Bool.{cases_lt, cond-true, cond_both, le-leb, leb-false}
use Rattle.list_totals.specs.Totals.{times}
use Rattle.series_core.proofs.Parts.{ascending_insert, has_take}
use Rattle.series_core.proofs.Plain.{has_ascending}
use Rattle.list_totals.specs.Standing.{In}
use Rattle.series_core.specs.Order.{Ascending}
use Rattle.series_core.specs.Pairs.{ascending, smallest}
use Rattle.series_core.specs.declared.distance.TheConstants.{NONE}
use Rattle.series_core.specs.declared.pair.Pair.{Pair}
use Rattle.list_totals.proofs.Standing.{in_append}
use Rattle.search_machine.specs.Ground.{Fits, Ground, answer, last, near, opening, opening_of, pair_of, pairs_of, plain, scan, start_limit}
use Rattle.search_machine.specs.Workers.{start_list}
use Rattle.search_machine.specs.Sound.{ListUnder}
use Rattle.search_machine.proofs.Counts.{equal_counts, same_counts, times_cons}
use Rattle.search_machine.proofs.PlainList.{Known, answer_near, has_plain, last_none, last_worst, plain_has}
use Rattle.search_machine.proofs.Pools.{Best, Pool, ascending_still, best_of, has_either}

-- the pairs that a scan takes are those of members that are near
pub near_has : (g : Ground) (v : ℕ) (ss : List ℕ) (p : Pair) → In p (near g v ss)
    → (0 < times p.number ss) × (p ≡ pair_of g p.number)
near_has g v [] p = λ h. absurd h
near_has g v (s ∷ ss) p =
    cond_both (leb (g.distance s) v) (pair_of g s ∷ near g v ss) (near g v ss)
    (λ ps. In p ps → (0 < times p.number (s ∷ ss)) × (p ≡ pair_of g p.number))
    (λ _ h. ⊎_elim here (λ (t : In p (near g v ss)). later (near_has g v ss p t)) h)
    (λ _ h. later (near_has g v ss p h))
  where
    here : p ≡ pair_of g s → (0 < times p.number (s ∷ ss)) × (p ≡ pair_of g p.number)
    here e =
        let number : p.number ≡ s = ap (λ (q : Pair). q.number) e in
        let counts = equal_counts p.number s number in
        (omega arith, e ∙ ap (pair_of g) (sym number))

    later : (0 < times p.number ss) × (p ≡ pair_of g p.number)
        → (0 < times p.number (s ∷ ss)) × (p ≡ pair_of g p.number)
    later r = let more = r.0 in (omega arith, r.1)

-- each member that is near has its pair there
pub has_near : (g : Ground) (v : ℕ) (ss : List ℕ) (s : ℕ) → 0 < times s ss → g.distance s ≤ v
    → In (pair_of g s) (near g v ss)
has_near g v [] s member low = absurd (omega arith)
has_near g v (t ∷ ts) s member low =
    cond_both (leb (g.distance t) v) (pair_of g t ∷ near g v ts) (near g v ts)
    (In (pair_of g s))
    (λ _. ⊎_elim
    (λ (e : s ≡ t). inl (ap (pair_of g) e))
    (λ (u : 0 < times s ts). inr (has_near g v ts s u low))
    (times_cons s t ts member))
    (λ far. ⊎_elim
    (λ (e : s ≡ t).
    let above = leb-false (g.distance t) v far in
    let same : g.distance s ≡ g.distance t = ap (λ (n : ℕ). g.distance n) e in
    absurd (omega arith))
    (λ (u : 0 < times s ts). has_near g v ts s u low)
    (times_cons s t ts member))

-- the pairs of real members are all at most NONE far
near_none : (g : Ground) → Fits g → (ss : List ℕ) → ((s : ℕ) → 0 < times s ss → s < g.count)
    → near g NONE ss ≡ pairs_of g ss
near_none g fits [] real = refl
near_none g fits (s ∷ ss) real =
    let counts = same_counts s in
    let low = fits.distance_limit s (real s (omega arith)) in
    cond-true (leb (g.distance s) NONE) (pair_of g s ∷ near g NONE ss) (near g NONE ss)
    (le-leb (g.distance s) NONE low)
    ∙ ap (λ (ps : List Pair). pair_of g s ∷ ps)
    (near_none g fits ss (λ t h. real t (omega arith)))

-- members that are different series, none of them in the list
pub record Fresh (g : Ground) (ss : List ℕ) (ps : List Pair) : Type 0 where
  pub real : (s : ℕ) → 0 < times s ss → s < g.count
  pub distinct : (s : ℕ) → times s ss ≤ 1
  pub new : (p : Pair) → In p ps → times p.number ss ≡ 0

-- one more member's pair is none of those of the other members and of the list
new_near : (g : Ground) (v s : ℕ) (ss : List ℕ) (ps : List Pair) → Fresh g (s ∷ ss) ps
    → In (pair_of g s) (ascending (near g v ss ++ ps)) → ⊥
new_near g v s ss ps fresh h =
    let counts = same_counts s in
    ⊎_elim
    (λ (t : In (pair_of g s) (near g v ss)).
    let more = (near_has g v ss (pair_of g s) t).0 in
    let most = fresh.distinct s in
    omega arith)
    (λ (t : In (pair_of g s) ps).
    let none : times s (s ∷ ss) ≡ 0 = fresh.new (pair_of g s) t in omega arith)
    (in_append (pair_of g s) (near g v ss) ps
    (has_ascending (pair_of g s) (near g v ss ++ ps) h))

-- fewer members are as fresh
fewer_fresh : (g : Ground) (s : ℕ) (ss : List ℕ) (ps : List Pair) → Fresh g (s ∷ ss) ps
    → Fresh g ss ps
fewer_fresh g s ss ps fresh = record {
  real = λ t h. fresh.real t (omega arith);
  distinct = λ t. let a = fresh.distinct t in omega arith;
  new = λ p h. let a = fresh.new p h in omega arith;
}

-- the near members' pairs and those of the list are different
different_near : (g : Ground) (v : ℕ) (ss : List ℕ) (ps : List Pair) → Fresh g ss ps
    → Ascending ps → Ascending (ascending (near g v ss ++ ps))
different_near g v [] ps fresh up = subst Ascending (sym (ascending_still ps up)) up
different_near g v (s ∷ ss) ps fresh up =
    let rest = different_near g v ss ps (fewer_fresh g s ss ps fresh) up in
    cond_both (leb (g.distance s) v) (pair_of g s ∷ near g v ss) (near g v ss)
    (λ qs. Ascending (ascending (qs ++ ps)))
    (λ _. ascending_insert (pair_of g s) (ascending (near g v ss ++ ps))
    (new_near g v s ss ps fresh) rest)
    (λ _. rest)

-- the near members' pairs and those of the list are a pool
pub scan_pool : (g : Ground) (v : ℕ) (ss : List ℕ) (ps : List Pair) → Fresh g ss ps → Known g ps
    → Pool g (near g v ss ++ ps)
scan_pool g v ss ps fresh k = record {
  different = different_near g v ss ps fresh k.ascending;
  known = λ p h. ⊎_elim
      (λ (t : In p (near g v ss)).
      let r = near_has g v ss p t in
      subst (λ (q : Pair). In q (plain g)) (sym r.1)
      (has_plain g p.number (fresh.real p.number r.0)))
      (λ (t : In p ps). k.known p t)
      (in_append p (near g v ss) ps h);
}

-- a scan of a leaf that was not scanned keeps what holds of a list
pub list_scanned : (g : Ground) → Fits g → (P : Type 0) (l v : ℕ) (scanned : List ℕ)
    (ps : List Pair) → l < g.leaves → times l scanned ≡ 0 → (P → last g ≤ v)
    → ListUnder g P scanned ps → ListUnder g P (l ∷ scanned) (scan g v (g.members l) ps)
list_scanned g fits P l v scanned ps real unscanned enough sound = record {
  ascending = best.known.ascending;
  known = best.known.known;
  from = λ p h. ⊎_elim
      (λ (t : In p (near g v (g.members l))).
      let one = same_counts l in (l, omega arith, (near_has g v (g.members l) p t).0))
      (λ (t : In p ps).
      let f = sound.from p t in let some = f.1 in (f.0, omega arith, f.2))
      (in_append p (near g v (g.members l)) ps (best.from p h));
  full = λ t p m a there member.
      best.full p a (has_either p (near g v (g.members l)) ps (⊎_elim
      (λ (e : m ≡ l). inl
      (taken t p a (subst (λ (n : ℕ). 0 < times p.number (g.members n)) e member)))
      (λ (u : 0 < times m scanned). inr (sound.full t p m a u member))
      (times_cons m l scanned there)));
}
  where
    apart : (p : Pair) → In p ps → 0 < times p.number (g.members l) → ⊥
    apart p h member =
        let f = sound.from p h in
        let same = fits.one_home l f.0 p.number member f.2 in
        let a : times l scanned ≡ times f.0 scanned = ap (λ (n : ℕ). times n scanned) same in
        let b = f.1 in
        omega arith

    fresh : Fresh g (g.members l) ps
    fresh = record {
      real = λ s h. fits.member_real l s real h;
      distinct = fits.home_once l;
      new = λ p h. ⊎_elim
          (λ (member : 0 < times p.number (g.members l)). absurd (apart p h member))
          (λ (none : times p.number (g.members l) ≤ 0). omega arith)
          (cases_lt 0 (times p.number (g.members l)));
    }

    best : Best g (near g v (g.members l) ++ ps) (scan g v (g.members l) ps)
    best = best_of g (near g v (g.members l) ++ ps) (scan_pool g v (g.members l) ps fresh
        (record { ascending = sound.ascending; known = sound.known }))

    taken : P → (p : Pair) → In p (answer g) → 0 < times p.number (g.members l)
        → In p (near g v (g.members l))
    taken t p a member =
        let is = (plain_has g p (has_take g.k p (plain g) a)).1 in
        let distance : p.distance ≡ g.distance p.number = ap (λ (q : Pair). q.distance) is in
        let low = answer_near g fits p a in
        let high = enough t in
        subst (λ (q : Pair). In q (near g v (g.members l))) (sym is)
        (has_near g v (g.members l) p.number member (omega arith))

-- the empty list of a worker that scanned nothing
pub list_none : (g : Ground) (P : Type 0) → ListUnder g P [] []
list_none g P = record {
  ascending = tt;
  known = λ p h. absurd h;
  from = λ p h. absurd h;
  full = λ t p m a there member. absurd (omega arith);
}

-- a start leaf's k smallest pairs are what a scan of it with no limit gives
pub opening_scan : (g : Ground) → Fits g → (l : ℕ) → l < g.leaves
    → scan g NONE (g.members l) [] ≡ opening_of g (Some l)
opening_scan g fits l real =
    ap (smallest g.k)
    (append-nil (near g NONE (g.members l))
    ∙ near_none g fits (g.members l) (λ s h. fits.member_real l s real h))

-- worker 0's list as it opens
pub list_opening : (g : Ground) → Fits g → (P : Type 0)
    → ListUnder g P (start_list g.start) (opening g)
list_opening g fits P = at g.start refl
  where
    at : (o : Option ℕ) → g.start ≡ o → ListUnder g P (start_list o) (opening_of g o)
    at None e = list_none g P
    at (Some l) e =
        subst (ListUnder g P (l ∷ [])) (opening_scan g fits l (fits.start_real l e))
        (list_scanned g fits P l NONE [] [] (fits.start_real l e) refl (λ _. last_none g fits)
        (list_none g P))

-- the last distance is at most the starting limit
pub last_start : (g : Ground) → Fits g → last g ≤ start_limit g
last_start g fits =
    let o = list_opening g fits (Unit {0}) in
    last_worst g fits (opening g) (record { ascending = o.ascending; known = o.known })
