-- What stands behind a front: a text that begins with it, and no other.
use Rattle.std.proofs.Common.{◌≡◌, ℕ, List, [], ◌∷◌, ◌++◌, true, false, Option, Some, None, sym, ◌∙◌, refl, ⊎_elim}
use Rattle.std.specs.Prelude.{◌==◌}
use Rattle.std.proofs.lemmas.Bool.{cases_Bool, cond-true, cond-false, eqb-true, eq-eqb}
use Rattle.std.proofs.lemmas.Option.{same_Some, none-some}
use Rattle.certificate.specs.Fields.{after}

-- a text with this front before it
pub after_again : (front text : List ℕ) → after front (front ++ text) ≡ Some text
after_again [] text = refl
after_again (c ∷ front) text =
    cond-true (c == c) (after front (front ++ text)) None (eq-eqb c c refl) ∙ after_again front text

-- what is read stood behind the front
pub after_takes : (front text rest : List ℕ) → after front text ≡ Some rest → text ≡ front ++ rest
after_takes [] text rest e = same_Some text rest e
after_takes (c ∷ front) [] rest e = absurd (none-some rest e)
after_takes (c ∷ front) (d ∷ text) rest e =
    ⊎_elim
    (λ (same : (c == d) ≡ true).
    let head : c ≡ d = eqb-true c d same in
    let tail : text ≡ front ++ rest =
    after_takes front text rest (sym (cond-true (c == d) (after front text) None same) ∙ e) in
    cc)
    (λ (other : (c == d) ≡ false). absurd (none-some rest (sym (cond-false (c == d) (after front text) None other) ∙ e)))
    (cases_Bool (c == d))

-- nothing is read where no text stands behind the front
pub after_none : (front text : List ℕ) → ((rest : List ℕ) → text ≡ front ++ rest → ⊥) → after front text ≡ None
after_none front text none = by_cases (after front text) refl
  where
    by_cases : (o : Option (List ℕ)) → after front text ≡ o → after front text ≡ None
    by_cases None e = e
    by_cases (Some rest) e = absurd (none rest (after_takes front text rest e))
