-- Pairs that ascend, each of its series with its distance, are of different series.
use Rattle.std.proofs.Common.{◌≡◌, List, [], ◌∷◌, true, false, inl, inr, sym, ◌∙◌, ap, refl, ⊎_elim, arith, map}
use Rattle.std.specs.Prelude.{nat_eq}
use Rattle.std.specs.List.{IsDistinct, AllByRecursion}
use Rattle.std.proofs.lemmas.Bool.{cases_Bool}
use Rattle.std.proofs.lemmas.Bool.Decides.{nat_tests}
use Rattle.list_totals.specs.Standing.{In}
use Rattle.series_core.specs.Order.{Above, Ascending}
use Rattle.series_core.specs.Pairs.{is_before}
use Rattle.series_core.specs.declared.pair.Pair.{Pair}
use Rattle.search_machine.specs.Ground.{Ground, pair_of}

-- of two pairs as near neither is before the other where their numbers are one
not_before : (p q : Pair) → p.distance ≡ q.distance → p.number ≡ q.number → is_before p q ≡ true → ⊥
not_before p q near same before = grind (arith, nat_tests)

differs : (g : Ground) (p q : Pair) → is_before p q ≡ true → p ≡ pair_of g p.number → q ≡ pair_of g q.number
    → nat_eq p.number q.number ≡ false
differs g p q before is_p is_q =
    ⊎_elim
    (λ (equal : nat_eq p.number q.number ≡ true).
    let same : p.number ≡ q.number = grind (arith, nat_tests) in
    let near : p.distance ≡ q.distance = ap (λ r. r.distance) is_p ∙ ap g.distance same ∙ sym (ap (λ r. r.distance) is_q) in
    absurd (not_before p q near same before))
    (λ (other : nat_eq p.number q.number ≡ false). other) (cases_Bool (nat_eq p.number q.number))

others : (g : Ground) (p : Pair) (qs : List Pair) → Above p qs → p ≡ pair_of g p.number
    → ((q : Pair) → In q qs → q ≡ pair_of g q.number)
    → AllByRecursion (λ n. nat_eq p.number n ≡ false) (map (λ q. q.number) qs)
others g p [] above is known = tt
others g p (q ∷ qs) above is known =
    (differs g p q above.0 is (known q (inl refl)), others g p qs above.1 is (λ r there. known r (inr there)))

pub distinct_series : (g : Ground) (ps : List Pair) → Ascending ps → ((p : Pair) → In p ps → p ≡ pair_of g p.number)
    → IsDistinct nat_eq (map (λ p. p.number) ps)
unfolding IsDistinct
distinct_series g [] ascending known = tt
distinct_series g (p ∷ ps) ascending known = (
  others g p ps ascending.0 (known p (inl refl)) (λ q there. known q (inr there)),
  distinct_series g ps ascending.1 (λ q there. known q (inr there)),
)
