use Rattle.search_machine.proofs.EveryReply.{reply_stands}
use Rattle.search_machine.proofs.laws.records.reply_law.Goals as goal

pub returns : goal.returns
returns c g fits i x reply fit stands = reply_stands g fits i x reply fit stands
