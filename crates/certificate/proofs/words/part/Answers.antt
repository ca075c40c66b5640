use Rattle.std.proofs.Common.{sym, ◌∙◌}
use Rattle.certificate.proofs.Again.{short_part_read}
use Rattle.certificate.proofs.words.part.Goals as goal

pub returns-then-stops : goal.returns-then-stops
returns-then-stops c =
    short_part_read c.args.text.now c.in-len3-up.len_at_least c.if-colon-eq58.true
    (sym c.is_ascii_digit.ensures.value ∙ c.if-is_ascii_digit.true)
    (sym c.is_ascii_digit-then-is_ascii_digit.ensures.value ∙ c.if-is_ascii_digit-2.true)
    (sym c.stops.ensures ∙ c.if-stops.true)
