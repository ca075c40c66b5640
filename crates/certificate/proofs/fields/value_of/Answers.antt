use Rattle.std.proofs.Common.{◌≡◌, ◌+◌, ◌*◌, ◌-◌, ◌^◌, ◌<◌, ◌≤◌, ℕ, Option, None, get_or, arith, sym, ap, ◌∙◌, subst}
use Rattle.std.specs.Option.{SomeIff}
use Rattle.std.specs.Str.Parse.{digits_value}
use Rattle.std.proofs.lemmas.List.{take_all}
use Rattle.certificate.proofs.Digits.{digits_step, digits_past}
use Rattle.certificate.proofs.fields.value_of.Goals as goal

-- no number where there is to be none
no_number : (r : Option ℕ) (n : ℕ) → r ≡ None → (n < 2 ^ 64 → ⊥) → SomeIff r (n < 2 ^ 64) n
no_number r n none past = subst (λ (o : Option ℕ). SomeIff o (n < 2 ^ 64) n) (sym none) past

pub returns-in_err-checked_mul : goal.returns-in_err-checked_mul
returns-in_err-checked_mul c =
    let over : 2 ^ 64 ≤ c.loop-digit.n * 10 + (get_or c.args.digits.now c.loop-digit.digit-index 0 - 48) =
    omega (arith, c.in_err-checked_mul.ensures) in
    no_number _ _ c.from_residual.ensures
    (digits_past c.args.digits.now c.loop-digit.digit-index c.loop-digit.n c.requires c.loop-digit-test.true
    c.loop-digit.invariant.value over)

pub returns-in_err-n : goal.returns-in_err-n
returns-in_err-n c =
    let over : 2 ^ 64 ≤ c.loop-digit.n * 10 + (get_or c.args.digits.now c.loop-digit.digit-index 0 - 48) =
    omega (arith, c.in_err-n.ensures, c.in_ok-checked_mul.ensures.1, c.from.ensures) in
    no_number _ _ c.from_residual-in_err-n.ensures
    (digits_past c.args.digits.now c.loop-digit.digit-index c.loop-digit.n c.requires c.loop-digit-test.true
    c.loop-digit.invariant.value over)

pub loop-digit-preserved : goal.loop-digit-preserved
loop-digit-preserved c =
    let step = digits_step c.args.digits.now c.loop-digit.digit-index c.loop-digit.n c.requires c.loop-digit-test.true
    c.loop-digit.invariant.value in
    record {
      value = omega (arith, c.from.ensures, c.in_ok-n.ensures.1, c.in_ok-checked_mul.ensures.1);
      fits = omega (arith, c.in_ok-n.ensures.0, c.in_ok-n.ensures.1);
    }

pub returns : goal.returns
returns c =
    let same : c.loop-digit.n ≡ digits_value 10 c.args.digits.now =
    c.loop-digit.invariant.value ∙ ap (digits_value 10) (take_all _ _ c.loop-digit-test.false) in
    (omega (arith, c.loop-digit.invariant.fits), same)
