-- A scan member by member: what one more member makes of the list, and which members may be passed
-- over.
use Rattle.std.proofs.Common.{List, Some, [], ap, append-nil, arith, cond, false, leb, length, refl, suc, sym, take, zero, ℕ, ⊎_elim, ◌++◌, ◌-◌, ◌<◌, ◌∙◌, ◌∷◌, ◌≡◌, ◌≤◌}
use Rattle.std.proofs.lemmas.Bool.{cases_lt, cond-false, cond-true, cond_both}
use Rattle.std.proofs.lemmas.Bool.Decides.{nat_tests}
use Rattle.std.proofs.lemmas.Option.{none-some, same_Some}
use Rattle.std.specs.Prelude.{slice_get}
use Rattle.series_core.proofs.Room.{smallest_far}
use Rattle.series_core.proofs.Smallest.{smallest-add, smallest-push}
use Rattle.series_core.specs.Order.{distance_at}
use Rattle.series_core.specs.Pairs.{ascending, is_before, smallest}
use Rattle.series_core.specs.declared.distance.TheConstants.{NONE}
use Rattle.series_core.specs.declared.pair.Pair.{Pair}
use Rattle.search_machine.specs.Ground.{Ground, ShortList, last, near, pair_of, scan, scan_one}
use Rattle.search_machine.proofs.Places.{get_some}

-- no more than k pairs are all among the first k
take_short : (k : ℕ) (ps : List Pair) → length ps ≤ k → take k ps ≡ ps
take_short zero [] size = refl
take_short zero (p ∷ ps) size = absurd (omega arith)
take_short (suc k) [] size = refl
take_short (suc k) (p ∷ ps) size =
    ap (λ (rest : List Pair). p ∷ rest) (take_short k ps (omega arith))

-- a scan of no member leaves the list
pub scan_begins : (g : Ground) (v : ℕ) (ps : List Pair) → ShortList g ps → scan g v [] ps ≡ ps
scan_begins g v ps short = ap (take g.k) short.order ∙ take_short g.k ps short.size

-- the pairs that a scan of one more member takes
near_next : (g : Ground) (v s : ℕ) (ss : List ℕ)
    → near g v (ss ++ s ∷ []) ≡ near g v ss ++ near g v (s ∷ [])
near_next g v s [] = refl
near_next g v s (t ∷ ts) =
    cond_both (leb (g.distance t) v)
    (pair_of g t ∷ near g v (ts ++ s ∷ [])) (near g v (ts ++ s ∷ []))
    (λ ps. ps ≡ cond (leb (g.distance t) v) (pair_of g t ∷ near g v ts) (near g v ts)
    ++ near g v (s ∷ []))
    (λ yes. ap (λ (ps : List Pair). pair_of g t ∷ ps) (near_next g v s ts)
    ∙ sym (ap (λ (ps : List Pair). ps ++ near g v (s ∷ []))
    (cond-true (leb (g.distance t) v) (pair_of g t ∷ near g v ts) (near g v ts) yes)))
    (λ no. near_next g v s ts
    ∙ sym (ap (λ (ps : List Pair). ps ++ near g v (s ∷ []))
    (cond-false (leb (g.distance t) v) (pair_of g t ∷ near g v ts) (near g v ts) no)))

-- one more member within the limit is added to the k smallest
scan_added : (g : Ground) (v s : ℕ) (ss : List ℕ) (ps : List Pair)
    → smallest g.k ((near g v ss ++ pair_of g s ∷ []) ++ ps)
    ≡ smallest g.k (pair_of g s ∷ scan g v ss ps)
scan_added g v s ss ps =
    sym (smallest-push g.k (pair_of g s) (near g v ss) ps)
    ∙ sym (smallest-add g.k (pair_of g s) (near g v ss ++ ps))

-- one more member is added where it is within the limit
pub scan_next : (g : Ground) (v s : ℕ) (ss : List ℕ) (ps : List Pair)
    → scan g v (ss ++ s ∷ []) ps ≡ scan_one g v s (scan g v ss ps)
scan_next g v s ss ps =
    let before : List Pair = scan g v ss ps in
    let more : List Pair = smallest g.k (pair_of g s ∷ before) in
    ap (λ (qs : List Pair). smallest g.k (qs ++ ps)) (near_next g v s ss)
    ∙ cond_both (leb (g.distance s) v) (pair_of g s ∷ []) []
    (λ qs. smallest g.k ((near g v ss ++ qs) ++ ps) ≡ scan_one g v s (scan g v ss ps))
    (λ yes. scan_added g v s ss ps ∙ sym (cond-true (leb (g.distance s) v) more before yes))
    (λ no. ap (λ (qs : List Pair). smallest g.k (qs ++ ps)) (append-nil (near g v ss))
    ∙ sym (cond-false (leb (g.distance s) v) more before no))

-- past the end of a list there is no limit
pub past_end : (n : ℕ) (ps : List Pair) → length ps ≤ n → distance_at n ps ≡ NONE
past_end n [] size = refl
past_end zero (p ∷ ps) size = absurd (omega arith)
past_end (suc n) (p ∷ ps) size = past_end n ps (omega arith)

-- the distance at a place is that of the pair there
at_place_distance : (n : ℕ) (ps : List Pair) (p : Pair) → slice_get ps n ≡ Some p
    → distance_at n ps ≡ p.distance
at_place_distance n [] p e = absurd (none-some p e)
at_place_distance zero (q ∷ qs) p e = ap (λ (r : Pair). r.distance) (same_Some q p e)
at_place_distance (suc n) (q ∷ qs) p e = at_place_distance n qs p e

-- a farther pair is not before
farther : (p last : Pair) → last.distance < p.distance → is_before p last ≡ false
farther p last far = grind (arith, nat_tests)

-- a pair farther than the k-th of a list is not taken
pub passed_over : (k : ℕ) (p : Pair) (ps : List Pair) → 0 < k → ascending ps ≡ ps → length ps ≤ k
    → p.distance ≤ NONE → distance_at (k - 1) ps < p.distance → smallest k (p ∷ ps) ≡ ps
passed_over k p ps some_rank order size near far =
    let held = get_some ps (k - 1) full in
    let there = at_place_distance (k - 1) ps held.0 held.1 in
    smallest_far k p held.0 ps order (let more = full in omega arith) some_rank held.1
    (farther p held.0 (omega arith))
  where
    full : k - 1 < length ps
    full = ⊎_elim
        (λ (h : k - 1 < length ps). h)
        (λ (h : length ps ≤ k - 1). let none = past_end (k - 1) ps h in absurd (omega arith))
        (cases_lt (k - 1) (length ps))
