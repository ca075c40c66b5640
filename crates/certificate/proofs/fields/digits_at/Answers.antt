use Rattle.std.proofs.Common.{arith, sym, ap, ◌∙◌, refl}
use Rattle.std.specs.List.{list_all}
use Rattle.std.specs.Char.{is_ascii_digit}
use Rattle.std.proofs.lemmas.Bool.{and_from}
use Rattle.std.proofs.lemmas.List.{take_all}
use Rattle.std.proofs.lemmas.List.Folds.{list_all_more}
use Rattle.std.proofs.lemmas.List.Sums.{prefix_len-drop_yes, prefix_len-drop_no, prefix_len-drop_all}
use Rattle.certificate.proofs.fields.digits_at.Goals as goal

pub loop-i-init : goal.loop-i-init
loop-i-init c = record { size = omega arith; digits = refl }

pub returns-then-not-is_ascii_digit-clause-size : goal.returns-then-not-is_ascii_digit-clause-size
returns-then-not-is_ascii_digit-clause-size c =
    let none = prefix_len-drop_no is_ascii_digit c.args.text.now c.loop-i.i 0 c.loop-i-test.true
    (sym c.is_ascii_digit.ensures.value ∙ c.if-not-is_ascii_digit.true) in
    omega (arith, c.loop-i.invariant.size)

pub returns-then-not-is_ascii_digit-clause-digits : goal.returns-then-not-is_ascii_digit-clause-digits
returns-then-not-is_ascii_digit-clause-digits c = c.loop-i.invariant.digits

pub loop-i-preserved : goal.loop-i-preserved
loop-i-preserved c =
    let here = sym c.is_ascii_digit.ensures.value ∙ c.if-not-is_ascii_digit.false in
    let more = prefix_len-drop_yes is_ascii_digit c.args.text.now c.loop-i.i 0 c.loop-i-test.true here in
    record {
      size = omega (arith, c.loop-i.invariant.size);
      digits = list_all_more is_ascii_digit c.args.text.now c.loop-i.i 0 c.loop-i-test.true
          ∙ and_from _ _ c.loop-i.invariant.digits here;
    }

pub returns-clause-size : goal.returns-clause-size
returns-clause-size c =
    let none = prefix_len-drop_all is_ascii_digit c.args.text.now c.loop-i.i c.loop-i-test.false in
    omega (arith, c.loop-i.invariant.size)

pub returns-clause-digits : goal.returns-clause-digits
returns-clause-digits c =
    ap (list_all is_ascii_digit) (take_all _ _ (omega arith) ∙ sym (take_all _ _ c.loop-i-test.false))
    ∙ c.loop-i.invariant.digits
