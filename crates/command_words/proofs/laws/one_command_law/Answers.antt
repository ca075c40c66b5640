use Rattle.command_words.proofs.OneSettings.{one_command}
use Rattle.command_words.proofs.laws.one_command_law.Goals as goal

pub returns : goal.returns
returns c words command other is also = one_command words command other is also
