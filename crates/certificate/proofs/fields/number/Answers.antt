use Rattle.std.proofs.Common.{◌≡◌, ◌<◌, ◌≤◌, ◌^◌, ◌⊎◌, ℕ, List, Bor, Option, Some, None, take, drop, false, arith, sym, ap, ◌∙◌, subst, inl, inr, ⊎_elim}
use Rattle.std.specs.Str.Parse.{digits_value}
use Rattle.std.proofs.lemmas.Bool.{cases_lt}
use Rattle.certificate.specs.Fields.{Sees, is_spelled}
use Rattle.certificate.proofs.Numbers.{front_of, size_of, number_none, number_some}
use Rattle.certificate.proofs.fields.number.Goals as goal
use Rattle.certificate.proofs.fields.number.Goals.{else-is_spelled-via-then-is_spelled+else-n-most, else-is_spelled-via-else-is_spelled}

-- where nothing is read, nothing is seen
none_seen : (r : Option (ℕ × Bor (List ℕ))) (read : Option (ℕ × List ℕ)) → r ≡ None → read ≡ None
    → Sees (λ x. (x.0, x.1.now)) r read
none_seen r read none e = subst (λ (o : Option (ℕ × Bor (List ℕ))). Sees (λ x. (x.0, x.1.now)) o read) (sym none) e

-- what is not below 2^64 is above each number that is
past_most : (v most : ℕ) → (v < 2 ^ 64 → ⊥) → most < 2 ^ 64 → most < v
past_most v most past small =
    ⊎_elim (λ (below : v < 2 ^ 64). absurd (past below)) (λ (over : 2 ^ 64 ≤ v). omega arith) (cases_lt v (2 ^ 64))

-- the digits that were split off
digits_are : (text digits : List ℕ) (n : ℕ) → digits ≡ take n text → n ≡ size_of text → digits ≡ front_of text
digits_are text digits n front size = front ∙ ap (λ m. take m text) size

pub returns-in_err-n-clause-read : goal.returns-in_err-n-clause-read
returns-in_err-n-clause-read c =
    let same = digits_are c.args.text.now _ _ c.split_at.ensures.front c.digits_at.ensures.size in
    let small : c.args.most < 2 ^ 64 = omega (arith, c.ranges.most.fits) in
    let over : c.args.most < digits_value 10 (front_of c.args.text.now) =
    subst (λ ds. c.args.most < digits_value 10 ds) same
    (past_most (digits_value 10 c.split_at.result.0.now) c.args.most c.in_err-n.ensures small) in
    none_seen _ _ c.from_residual.ensures (number_none c.args.most c.args.text.now (inr over))

pub returns-then-n-most-clause-read : goal.returns-then-n-most-clause-read
returns-then-n-most-clause-read c =
    let same = digits_are c.args.text.now _ _ c.split_at.ensures.front c.digits_at.ensures.size in
    let value : c.in_ok-n.n ≡ digits_value 10 (front_of c.args.text.now) =
    c.in_ok-n.ensures.1 ∙ ap (digits_value 10) same in
    let behind : c.split_at.result.1.now ≡ drop (size_of c.args.text.now) c.args.text.now =
    c.split_at.ensures.back ∙ ap (λ m. drop m c.args.text.now) c.digits_at.ensures.size in
    number_some c.args.most c.args.text.now
    (sym (ap is_spelled same) ∙ sym c.is_spelled.ensures ∙ c.if-is_spelled.true) (omega arith)
    ∙ ap (λ n. Some (n, drop (size_of c.args.text.now) c.args.text.now)) (sym value)
    ∙ ap (λ rest. Some (c.in_ok-n.n, rest)) (sym behind)

pub returns-else-is_spelled-clause-read : goal.returns-else-is_spelled-clause-read
returns-else-is_spelled-clause-read c =
    let same = digits_are c.args.text.now _ _ c.split_at.ensures.front c.digits_at.ensures.size in
    let value : c.in_ok-n.n ≡ digits_value 10 (front_of c.args.text.now) =
    c.in_ok-n.ensures.1 ∙ ap (digits_value 10) same in
    let bad : (is_spelled (front_of c.args.text.now) ≡ false) ⊎ (c.args.most < digits_value 10 (front_of c.args.text.now)) =
    elim c.else-is_spelled.branch [
      | else-is_spelled-via-then-is_spelled+else-n-most w ↦ inr (omega (arith, w.if-n-most.false))
      | else-is_spelled-via-else-is_spelled w ↦
          inl (sym (ap is_spelled same) ∙ sym c.is_spelled.ensures ∙ w.if-is_spelled.false)
    ] in
    number_none c.args.most c.args.text.now bad
