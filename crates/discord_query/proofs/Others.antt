-- The nearest other of a series is the first of its two nearest that is not the series itself.
use Rattle.std.proofs.Common.{◌≡◌, ◌≢◌, ℕ, zero, suc, ◌+◌, ◌<◌, ◌≤◌, Bool, true, false, List, [], ◌∷◌, All, length, get_or, map, drop, take, refl, sym, ap, ◌∙◌, subst, inl, inr, ⊎_elim, arith}
use Rattle.std.specs.Prelude.{ℤ}
use Rattle.std.specs.List.{filter}
use Rattle.std.proofs.lemmas.Bool.{cond-true, cond-false, cond_both, cases_Bool}
use Rattle.std.proofs.lemmas.Bool.Decides.{nat_tests}
use Rattle.std.proofs.lemmas.List.{drop_more, take_all}
use Rattle.list_totals.specs.Standing.{In}
use Rattle.series_core.specs.Collection.{Collection}
use Rattle.series_core.specs.Order.{Above, Ascending}
use Rattle.series_core.specs.Pairs.{ascending, is_before}
use Rattle.series_core.specs.Answer.{pair_of, pairs_from, pairs_of, answer}
use Rattle.series_core.specs.declared.pair.Pair.{Pair}
use Rattle.series_core.proofs.Order.{not_self, before_distance}
use Rattle.series_core.proofs.Parts.{above_has}
use Rattle.series_core.proofs.Plain.{answer-smallest, strict_from, has_ascending, ascending_has, length-ascending}
use Rattle.subtree_build.specs.Members.{series_at}
use Rattle.series_core.specs.declared.distance.TheConstants.{NONE}
use Rattle.std.proofs.lemmas.List.Elements.{All-cons, All-nil}
use Rattle.discord_query.specs.Searches.{IsNearOther}
use Rattle.discord_query.specs.Discords.{is_other, other, farness, farness_of}

-- how many pairs there are
length-pairs_from : (s : ℕ) (rows : List (List ℤ)) (q : List ℤ) → length (pairs_from s rows q) ≡ length rows
length-pairs_from s [] q = refl
length-pairs_from s (row ∷ rows) q = ap suc (length-pairs_from (s + 1) rows q)

-- their numbers begin with the first
number_low : (s : ℕ) (rows : List (List ℤ)) (q : List ℤ) (p : Pair) → In p (pairs_from s rows q) → s ≤ p.number
number_low s [] q p has = absurd has
number_low s (row ∷ rows) q p has = ⊎_elim
    (λ (e : p ≡ pair_of q s row). let n : p.number ≡ s = ap (λ (x : Pair). x.number) e in omega arith)
    (λ (t : In p (pairs_from (s + 1) rows q)). let low = number_low (s + 1) rows q p t in omega arith)
    has

-- pairs of one number are one pair
same_number : (s : ℕ) (rows : List (List ℤ)) (q : List ℤ) (p r : Pair) → In p (pairs_from s rows q)
    → In r (pairs_from s rows q) → p.number ≡ r.number → p ≡ r
same_number s [] q p r has had same = absurd has
same_number s (row ∷ rows) q p r has had same = ⊎_elim
    (λ (e : p ≡ pair_of q s row). ⊎_elim
    (λ (f : r ≡ pair_of q s row). e ∙ sym f)
    (λ (t : In r (pairs_from (s + 1) rows q)).
    let low = number_low (s + 1) rows q r t in
    let n : p.number ≡ s = ap (λ (x : Pair). x.number) e in absurd (omega arith))
    had)
    (λ (u : In p (pairs_from (s + 1) rows q)). ⊎_elim
    (λ (f : r ≡ pair_of q s row).
    let low = number_low (s + 1) rows q p u in
    let n : r.number ≡ s = ap (λ (x : Pair). x.number) f in absurd (omega arith))
    (λ (t : In r (pairs_from (s + 1) rows q)). same_number (s + 1) rows q p r u t same)
    had)
    has

-- a pair that is of no other series has the number
own_number : (s : ℕ) (p : Pair) → is_other s p ≡ false → p.number ≡ s
own_number s p h = grind (arith, nat_tests)

-- the first that passes among the first two is the first that passes, where of two in a row one passes
first_of_two : (f : Pair → Bool) (ps : List Pair)
    → ((a b : Pair) (rest : List Pair) → ps ≡ a ∷ b ∷ rest → f a ≡ false → f b ≡ true)
    → take 1 (filter f (take 2 ps)) ≡ take 1 (filter f ps)
first_of_two f [] one = refl
first_of_two f (a ∷ []) one = refl
first_of_two f (a ∷ b ∷ rest) one = ⊎_elim
    (λ (yes : f a ≡ true).
    ap (λ l. take 1 l) (cond-true (f a) (a ∷ filter f (b ∷ [])) (filter f (b ∷ [])) yes)
    ∙ sym (ap (λ l. take 1 l) (cond-true (f a) (a ∷ filter f (b ∷ rest)) (filter f (b ∷ rest)) yes)))
    (λ (no : f a ≡ false).
    let yes : f b ≡ true = one a b rest refl no in
    ap (λ l. take 1 l) (cond-false (f a) (a ∷ filter f (b ∷ [])) (filter f (b ∷ [])) no
    ∙ cond-true (f b) (b ∷ []) [] yes)
    ∙ sym (ap (λ l. take 1 l) (cond-false (f a) (a ∷ filter f (b ∷ rest)) (filter f (b ∷ rest)) no
    ∙ cond-true (f b) (b ∷ filter f rest) (filter f rest) yes)))
    (cases_Bool (f a))

-- the first of the two nearest that is another series is the nearest other
pub other_of_two : (c : Collection) (s : ℕ)
    → take 1 (filter (is_other s) (answer c (series_at c s) 2)) ≡ other c s
other_of_two c s =
    let q = series_at c s in
    let all : List Pair = ascending (pairs_of c q) in
    let two : answer c q 2 ≡ take 2 all = answer-smallest c q 2 in
    let long : length all ≤ length c.series
    = omega (arith, length-ascending (pairs_of c q), length-pairs_from 0 c.series q) in
    let whole : answer c q (length c.series) ≡ all
    = answer-smallest c q (length c.series) ∙ take_all (length c.series) all long in
    let up : Ascending all = strict_from 0 c.series q in
    ap (λ l. take 1 (filter (is_other s) l)) two
    ∙ first_of_two (is_other s) all
    (λ a b rest is no. ⊎_elim
    (λ (yes : is_other s b ≡ true). yes)
    (λ (neither : is_other s b ≡ false).
    let has : In a (pairs_of c q)
    = has_ascending a (pairs_of c q) (subst (In a) (sym is) (inl refl)) in
    let had : In b (pairs_of c q)
    = has_ascending b (pairs_of c q) (subst (In b) (sym is) (inr (inl refl))) in
    let same : a ≡ b = same_number 0 c.series q a b has had
    (own_number s a no ∙ sym (own_number s b neither)) in
    let strict : Ascending (a ∷ b ∷ rest) = subst Ascending is up in
    absurd (not_self a (subst (λ (x : Pair). is_before a x ≡ true) (sym same) strict.0.0)))
    (cases_Bool (is_other s b)))
    ∙ sym (ap (λ l. take 1 (filter (is_other s) l)) whole)

-- a pair of another number is of another series, and one of the number is not
differs : (s : ℕ) (p : Pair) → p.number ≢ s → is_other s p ≡ true
differs s p h = grind (arith, nat_tests)

same_series : (s : ℕ) (p : Pair) → p.number ≡ s → is_other s p ≡ false
same_series s p h = grind (arith, nat_tests)

-- what a list begins with where its first passes, and where it does not
passes_first : (f : Pair → Bool) (p : Pair) (ps : List Pair) → f p ≡ true
    → take 1 (filter f (p ∷ ps)) ≡ p ∷ []
passes_first f p ps h = ap (λ l. take 1 l) (cond-true (f p) (p ∷ filter f ps) (filter f ps) h)

passes_none : (f : Pair → Bool) (p : Pair) (ps : List Pair) → f p ≡ false
    → take 1 (filter f (p ∷ ps)) ≡ take 1 (filter f ps)
passes_none f p ps h = ap (λ l. take 1 l) (cond-false (f p) (p ∷ filter f ps) (filter f ps) h)

-- the first of another series among the pairs from a place on: the pair there where it has another number, and else one behind it
pub other_here : (s : ℕ) (ps : List Pair) (i : ℕ) (d : Pair) → i < length ps → (get_or ps i d).number ≢ s
    → get_or ps i d ∷ [] ≡ take 1 (filter (is_other s) (drop i ps))
other_here s ps i d inside other =
    sym (ap (λ l. take 1 (filter (is_other s) l)) (drop_more ps i d inside)
    ∙ passes_first (is_other s) (get_or ps i d) (drop (i + 1) ps) (differs s (get_or ps i d) other))

pub other_behind : (s : ℕ) (ps : List Pair) (i : ℕ) (d : Pair) → i < length ps → (get_or ps i d).number ≡ s
    → take 1 (filter (is_other s) (drop (i + 1) ps)) ≡ take 1 (filter (is_other s) (drop i ps))
other_behind s ps i d inside same =
    sym (ap (λ l. take 1 (filter (is_other s) l)) (drop_more ps i d inside)
    ∙ passes_none (is_other s) (get_or ps i d) (drop (i + 1) ps) (same_series s (get_or ps i d) same))

-- what passes stands among those that pass
in_filter : (f : Pair → Bool) (r : Pair) (ps : List Pair) → In r ps → f r ≡ true → In r (filter f ps)
in_filter f r [] has h = absurd has
in_filter f r (p ∷ ps) has h = ⊎_elim
    (λ (e : r ≡ p).
    subst (In r) (sym (cond-true (f p) (p ∷ filter f ps) (filter f ps) (ap f (sym e) ∙ h))) (inl e))
    (λ (t : In r ps). cond_both (f p) (p ∷ filter f ps) (filter f ps) (In r)
    (λ _. inr (in_filter f r ps t h)) (λ _. in_filter f r ps t h))
    has

-- those that pass are above what all are above
above_filter : (f : Pair → Bool) (p : Pair) (ps : List Pair) → Above p ps → Above p (filter f ps)
above_filter f p [] above = tt
above_filter f p (q ∷ qs) above = cond_both (f q) (q ∷ filter f qs) (filter f qs) (Above p)
    (λ _. (above.0, above_filter f p qs above.1)) (λ _. above_filter f p qs above.1)

-- and ascend as all do
ascending_filter : (f : Pair → Bool) (ps : List Pair) → Ascending ps → Ascending (filter f ps)
ascending_filter f [] up = tt
ascending_filter f (p ∷ ps) up = cond_both (f p) (p ∷ filter f ps) (filter f ps) Ascending
    (λ _. (above_filter f p ps up.0, ascending_filter f ps up.1)) (λ _. ascending_filter f ps up.1)

-- each series has its pair
in_pairs : (s t : ℕ) (rows : List (List ℤ)) (q : List ℤ) → t < length rows
    → In (pair_of q (s + t) (get_or rows t [])) (pairs_from s rows q)
in_pairs s t [] q low = absurd (omega arith)
in_pairs s zero (row ∷ rows) q low =
    let here : s + zero ≡ s = omega arith in inl (ap (λ n. pair_of q n row) here)
in_pairs s (suc t) (row ∷ rows) q low =
    let next : s + 1 + t ≡ s + suc t = omega arith in
    inr (subst (λ n. In (pair_of q n (get_or rows t [])) (pairs_from (s + 1) rows q)) next
    (in_pairs (s + 1) t rows q (omega arith)))

-- of a list that ascends the first is at most as far as any
first_nearest : (s limit radius : ℕ) (ps : List Pair) (r : Pair) → Ascending ps → In r ps
    → r.distance ≤ radius → radius + limit < NONE
    → All (λ p. limit < p.distance) (map (farness s) (take 1 ps))
first_nearest s limit radius [] r up has near low = absurd has
first_nearest s limit radius (a ∷ ps) r up has near low =
    let least : a.distance ≤ r.distance = ⊎_elim
    (λ (e : r ≡ a). let d : r.distance ≡ a.distance = ap (λ (p : Pair). p.distance) e in omega arith)
    (λ (t : In r ps). before_distance a r (above_has a ps up.0 r t))
    has in
    All-cons (λ (p : Pair). limit < p.distance) (farness s a) [] (omega arith)
    (All-nil (λ (p : Pair). limit < p.distance))

-- where another series is nearer than NONE less a limit, the nearest other is too
pub other_far : (c : Collection) (s t limit radius : ℕ) → t < length c.series
    → IsNearOther c s t radius → radius + limit < NONE → All (λ p. limit < p.distance) (farness_of c s)
other_far c s t limit radius inside near low =
    let q = series_at c s in
    let all : List Pair = ascending (pairs_of c q) in
    let long : length all ≤ length c.series
    = omega (arith, length-ascending (pairs_of c q), length-pairs_from 0 c.series q) in
    let whole : answer c q (length c.series) ≡ all
    = answer-smallest c q (length c.series) ∙ take_all (length c.series) all long in
    let zero_more : 0 + t ≡ t = omega arith in
    let has : In (pair_of q t (series_at c t)) (pairs_of c q)
    = subst (λ n. In (pair_of q n (series_at c t)) (pairs_of c q)) zero_more
    (in_pairs 0 t c.series q inside) in
    subst (λ l. All (λ p. limit < p.distance) (map (farness s) (take 1 (filter (is_other s) l)))) (sym whole)
    (first_nearest s limit radius (filter (is_other s) all) (pair_of q t (series_at c t))
    (ascending_filter (is_other s) all (strict_from 0 c.series q))
    (in_filter (is_other s) (pair_of q t (series_at c t)) all
    (ascending_has (pair_of q t (series_at c t)) (pairs_of c q) has)
    (differs s (pair_of q t (series_at c t)) near.differs)) near.near low)
