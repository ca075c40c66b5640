use Rattle.std.proofs.Common.{◌<◌, ◌^◌, ◌++◌, sym, ap, ◌∙◌, subst, arith}
use Rattle.std.specs.Prelude.{decimal}
use Rattle.std.proofs.Math.Pow.{pow_mono}
use Rattle.isax_word.specs.Word.{part_at}
use Rattle.certificate.proofs.PartTexts.{long_part, long_room, short_part}
use Rattle.certificate.proofs.printing.put_part.Goals as goal

pub returns-then-prefix-lt10-clause-text : goal.returns-then-prefix-lt10-clause-text
returns-then-prefix-lt10-clause-text c =
    short_part c.args.tail.now c.put.new.self c.prefix-prefix.result c.bits-bits.result (part_at c.args.word.now c.args.j)
    c.if-prefix-lt10.true (omega (arith, c.bits-bits.ensures.eight_bits)) c.prefix-prefix.ensures.value
    c.bits-bits.ensures.value c.put.ensures

pub returns-clause-text : goal.returns-clause-text
returns-clause-text c =
    long_part c.args.tail.now c.put-2.new.self c.put_number.new.self c.put-3.new.self c.prefix-prefix.result
    c.bits-bits.result (part_at c.args.word.now c.args.j) (omega (arith, c.bits-bits.ensures.eight_bits))
    c.prefix-prefix.ensures.value c.bits-bits.ensures.value c.put-2.ensures
    (c.put_number.ensures.text ∙ ap (λ n. decimal n ++ c.put-2.new.self) c.from.ensures) c.put-3.ensures

pub returns-clause-room : goal.returns-clause-room
returns-clause-room c =
    let fits = subst (λ n. c.prefix-prefix.result < 2 ^ n) (sym c.bits-bits.ensures.value) c.prefix-prefix.ensures.fits in
    let high = pow_mono c.bits-bits.ensures.eight_bits in
    long_room c.args.tail.now c.put-2.new.self c.put_number.new.self c.put-3.new.self c.prefix-prefix.result
    c.bits-bits.result (omega (arith, fits, high)) c.put-2.ensures
    (c.put_number.ensures.text ∙ ap (λ n. decimal n ++ c.put-2.new.self) c.from.ensures) c.put-3.ensures
