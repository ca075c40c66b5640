use Rattle.std.proofs.Common.{rules, ◌∙◌}
use Rattle.command_words.proofs.Spelling.{spelled_as_digits}
use Rattle.command_words.proofs.number.is_well_spelled.Goals as goal

pub returns-in-Some : goal.returns-in-Some
returns-in-Some c =
    c.has_only_digits.ensures
    ∙ spelled_as_digits c.args.text.now c.in-Some.field-0.now (search rules) (search rules)
