-- What it tells that a reading in steps gave something: each step did.
use Rattle.std.proofs.Common.{◌≡◌, ℕ, List, [], ◌∷◌, length, true, false, Option, Some, None, refl, sym, ◌∙◌, ⊎_elim}
use Rattle.std.specs.Prelude.{◌==◌}
use Rattle.std.proofs.lemmas.Bool.{cases_Bool, cond-true, cond-false, eqb-true}
use Rattle.std.proofs.lemmas.List.{nil_from_length}
use Rattle.std.proofs.lemmas.Option.{same_Some, none-some}
use Rattle.certificate.specs.Spelling.{line_end}
use Rattle.certificate.specs.Fields.{◌>>=◌, ended, is_end}

-- a first step gave something, and the rest made the answer of it
pub bind_then : {X Y G : Type 0} (o : Option X) (f : X → Option Y) (y : Y) → (o >>= f) ≡ Some y
    → ((x : X) → o ≡ Some x → f x ≡ Some y → G) → G
bind_then None f y e go = absurd (none-some y e)
bind_then (Some x) f y e go = go x refl e

-- the end of a line
pub is_end_takes : (text : List ℕ) → is_end text ≡ true → text ≡ line_end
is_end_takes [] e = absurd cc
is_end_takes (c ∷ text) e =
    ⊎_elim
    (λ (feed : (c == 10) ≡ true).
    let alone : (length text == 0) ≡ true = sym (cond-true (c == 10) (length text == 0) false feed) ∙ e in
    let none : text ≡ [] = nil_from_length text (eqb-true (length text) 0 alone) in
    let head : c ≡ 10 = eqb-true c 10 feed in
    cc)
    (λ (other : (c == 10) ≡ false).
    let f : false ≡ true = sym (cond-false (c == 10) (length text == 0) false other) ∙ e in absurd cc)
    (cases_Bool (c == 10))

-- a value whose line ends
pub ended_takes : {X : Type 0} (x y : X) (text : List ℕ) → ended x text ≡ Some y → (x ≡ y) × (text ≡ line_end)
ended_takes x y text e =
    ⊎_elim
    (λ (yes : is_end text ≡ true).
    (same_Some x y (sym (cond-true (is_end text) (Some x) None yes) ∙ e), is_end_takes text yes))
    (λ (no : is_end text ≡ false). absurd (none-some y (sym (cond-false (is_end text) (Some x) None no) ∙ e)))
    (cases_Bool (is_end text))
