use Rattle.std.proofs.Common.{rules, Err}
use Rattle.std.proofs.lemmas.Str.Parse.{parse_digits}
use Rattle.command_words.proofs.Spelling.{own, none_past, spelled_digits}
use Rattle.command_words.proofs.number.number_within.Goals as goal

pub returns-in_default-3 : goal.returns-in_default-3
returns-in_default-3 c =
    let digits = spelled_digits c.args.text.now (search rules) in
    none_past c.args.least c.args.most c.args.text.now c.ranges.most.fits
    (λ small. parse_digits own 64 c.args.text.now
    (Err c.in_default.field-0) c.in_default.ensures.value.0 digits.0 (digits.1, small))
