use Rattle.std.proofs.Common.{◌≡◌, map, take}
use Rattle.clap.specs.Words.{app_of}
use Rattle.command_words.specs.Argument.{app_with, rule_for}
use Rattle.command_words.proofs.argument.clap_command.Given as goal

abbrev pub invariant-loop-argument : goal.invariant-loop-argument
invariant-loop-argument l =
    app_of l.command ≡ app_with l.name (map rule_for (take l.argument-index l.arguments))
