use Rattle.std.proofs.Common.{rules}
use Rattle.std.proofs.lemmas.Result.{IfOk-weaker}
use Rattle.command_words.specs.Options.{rows}
use Rattle.command_words.proofs.Within.{options_within}
use Rattle.command_words.proofs.options.options_of.Goals as goal

pub returns-clause-limits : goal.returns-clause-limits
returns-clause-limits c =
    IfOk-weaker c.ok_or.result _ _ (options_within (rows c.args.matches.now)) (search rules)
