-- What it tells that nothing is refused: each test of a list holds.
use Rattle.std.proofs.Common.{◌≡◌, ℕ, zero, suc, ◌+◌, List, [], ◌∷◌, Bool, true, false, Option, Some, None, refl, sym, ap, ◌∙◌, ⊎_elim, arith}
use Rattle.std.specs.Prelude.{slice_get}
use Rattle.std.proofs.lemmas.Bool.{cases_Bool, cond-true, cond-false}
use Rattle.std.proofs.lemmas.Option.{same_Some, none-some}
use Rattle.certificate.specs.declared.error.Reject.{Reject}
use Rattle.certificate.specs.Refusals.{unless, when, first_of, first_refusal}

-- where neither of two refuses
pub neither : (first second : Option Reject) → first_of first second ≡ None → (first ≡ None) × (second ≡ None)
neither None second none = (refl, none)
neither (Some r) second none = absurd (none-some r (sym none))

-- a test that does not refuse holds
pub holds_unless : (b : Bool) (r : Reject) → unless b r ≡ None → b ≡ true
holds_unless b r none =
    ⊎_elim
    (λ (e : b ≡ true). e)
    (λ (e : b ≡ false). absurd (none-some r (sym none ∙ cond-false b None (Some r) e)))
    (cases_Bool b)

-- a test that does not refuse where it holds does not hold
pub fails_when : (b : Bool) (r : Reject) → when b r ≡ None → b ≡ false
fails_when b r none =
    ⊎_elim
    (λ (e : b ≡ true). absurd (none-some r (sym none ∙ cond-true b (Some r) None e)))
    (λ (e : b ≡ false). e)
    (cases_Bool b)

-- where no item of a list is refused, the item at a place is not
pub each_none : {X : Type 0} (test : ℕ → X → Option Reject) (at : ℕ) (xs : List X) → first_refusal test at xs ≡ None
    → (i : ℕ) (x : X) → slice_get xs i ≡ Some x → test (at + i) x ≡ None
each_none test at [] none i x here = absurd (none-some x here)
each_none test at (y ∷ ys) none zero x here =
    let same : y ≡ x = same_Some y x here in
    let place : at + 0 ≡ at = omega arith in
    ap (λ n. test n x) place ∙ ap (test at) (sym same) ∙ (neither (test at y) (first_refusal test (at + 1) ys) none).0
each_none test at (y ∷ ys) none (suc i) x here =
    let place : at + suc i ≡ at + 1 + i = omega arith in
    ap (λ n. test n x) place
    ∙ each_none test (at + 1) ys (neither (test at y) (first_refusal test (at + 1) ys) none).1 i x here
