-- What a visit hands out: a place that it drew and did not refuse.
use Rattle.std.proofs.Common.{◌≡◌, ◌≢◌, ℕ, suc, ◌<◌, ◌≤◌, List, [], ◌∷◌, ◌++◌, All, Contains, Option, Some, None, Bool, true, false, not, refl, sym, ap, ◌∙◌, arith}
use Rattle.std.proofs.lemmas.Bool.{cond_both, cond-true, cond-false}
use Rattle.std.proofs.lemmas.Bool.Decides.{nat_tests}
use Rattle.std.proofs.lemmas.List.{append-nil}
use Rattle.std.proofs.lemmas.List.Elements.{filter-append}
use mathlib.Core.Bool.{true≢false}
use Rattle.std.specs.List.{filter}
use Rattle.std.specs.Prelude.{nat_eq}
use Rattle.list_totals.specs.Totals.{times}
use Rattle.sealed_runs.specs.Visits.{Visit, is_refused, handed}
use Rattle.sealed_runs.specs.Popped.{drew}
use Rattle.sealed_runs.proofs.Members.{contains_filter, filter_contains}

-- a filter that lets all through changes nothing
filter_all : {X : Type 0} (p : X → Bool) (xs : List X) → All (λ x. p x ≡ true) xs → filter p xs ≡ xs
filter_all p [] all = refl
filter_all p (x ∷ xs) all =
    cond-true (p x) (x ∷ filter p xs) (filter p xs) (all 0 x (omega arith))
    ∙ ap (λ ys. x ∷ ys) (filter_all p xs (λ k d in_list. all (suc k) d (omega arith)))

-- where no place is refused, a place is let through
passes_none : (r : Option ℕ) (x : ℕ) → r ≡ None → not (is_refused r x) ≡ true
passes_none r x none = ap (λ q. not (is_refused q x)) none

-- a place is let through where another is refused
passes_other : (n x : ℕ) → x < n → not (is_refused (Some n) x) ≡ true
passes_other n x less = grind (arith, nat_tests)

-- the refused place is not let through
stops_same : (n : ℕ) → not (is_refused (Some n) n) ≡ false
stops_same n = grind (arith, nat_tests)

-- a visit that refused no place has handed out all that it drew
handed_all : (v : Visit) → v.refused ≡ None → handed v ≡ v.claim.draws
handed_all v none = filter_all (λ x. not (is_refused v.refused x)) v.claim.draws
    (λ k d in_list. passes_none v.refused _ none)

-- a place more is handed out where none is refused
pub handed_drew : (v : Visit) (n : ℕ) → v.refused ≡ None → handed (drew v n) ≡ handed v ++ n ∷ []
handed_drew v n none =
    let let_through = λ (x : ℕ). not (is_refused v.refused x) in
    filter-append let_through v.claim.draws (n ∷ [])
    ∙ ap (λ ys. handed v ++ ys)
    (cond-true (let_through n) (n ∷ []) [] (passes_none v.refused n none))

-- a place that is refused is not handed out
pub handed_refused : (v : Visit) (n : ℕ) (limit : Option ℕ) → v.refused ≡ None
    → All (λ x. x < n) v.claim.draws
    → handed (record (drew v n) { refused = Some n; closed = limit }) ≡ handed v
handed_refused v n limit none above =
    let let_through = λ (x : ℕ). not (is_refused (Some n) x) in
    let before = filter_all let_through v.claim.draws
    (λ k d in_list. passes_other n _ (above k d in_list)) in
    filter-append let_through v.claim.draws (n ∷ [])
    ∙ ap (λ ys. filter let_through v.claim.draws ++ ys)
    (cond-false (let_through n) (n ∷ []) [] (stops_same n))
    ∙ append-nil (filter let_through v.claim.draws)
    ∙ before
    ∙ sym (handed_all v none)

-- another number is let through
differs : (y x : ℕ) → y ≢ x → not (nat_eq y x) ≡ true
differs y x other = grind (arith, nat_tests)

-- a place that a visit drew and did not refuse is handed out
pub handed_drawn : (v : Visit) (x : ℕ) → Contains v.claim.draws x → v.refused ≢ Some x
    → Contains (handed v) x
handed_drawn v x drawn not_refused =
    contains_filter (λ y. not (is_refused v.refused y)) v.claim.draws x drawn
    (passes v.refused x not_refused)
  where
    passes : (r : Option ℕ) (x : ℕ) → r ≢ Some x → not (is_refused r x) ≡ true
    passes None x other = refl
    passes (Some y) x other = differs y x (λ (same : y ≡ x). other (ap Some same))

-- a place that was handed out was drawn, and was not refused
pub drawn_handed : (v : Visit) (x : ℕ) → Contains (handed v) x → Contains v.claim.draws x
    × (v.refused ≢ Some x)
drawn_handed v x there =
    let let_through = λ (y : ℕ). not (is_refused v.refused y) in
    let found = filter_contains let_through v.claim.draws x there in (
      found.0,
      λ (same : v.refused ≡ Some x).
          true≢false (sym found.1 ∙ ap (λ r. not (is_refused r x)) same ∙ stops_same x),
    )

-- no place is handed out more often than it was drawn
pub handed_times : (v : Visit) (x : ℕ) → times x (handed v) ≤ times x v.claim.draws
handed_times v x = fewer v.claim.draws
  where
    let_through : ℕ → Bool
    let_through y = not (is_refused v.refused y)

    fewer : (xs : List ℕ) → times x (filter (λ y. not (is_refused v.refused y)) xs) ≤ times x xs
    fewer [] = omega arith
    fewer (y ∷ xs) =
        let rest = fewer xs in
        cond_both (not (is_refused v.refused y)) (y ∷ filter (λ y. not (is_refused v.refused y)) xs)
        (filter (λ y. not (is_refused v.refused y)) xs) (λ ys. times x ys ≤ times x (y ∷ xs))
        (λ _. omega arith) (λ _. omega arith)
