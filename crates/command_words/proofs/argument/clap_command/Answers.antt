use Rattle.std.proofs.Common.{◌∙◌, ap, ap₂, sym}
use Rattle.std.proofs.lemmas.List.{map_more}
use Rattle.clap.specs.Words.{with_rule}
use Rattle.command_words.specs.Argument.{app_with, rule_for}
use Rattle.command_words.proofs.argument.clap_command.Goals as goal

pub loop-argument-preserved : goal.loop-argument-preserved
loop-argument-preserved c =
    let arguments = c.args.arguments.now in
    let place = c.loop-argument.argument-index in
    c.in_ok-command.ensures.shape c.clap_argument.ensures.local
    ∙ ap₂ with_rule c.loop-argument.invariant c.clap_argument.ensures.rule
    ∙ ap (app_with c.args.name.now)
    (sym (map_more rule_for arguments place _ c.loop-argument-test.true))
