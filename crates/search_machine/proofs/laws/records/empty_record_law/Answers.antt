use Rattle.search_machine.proofs.EveryReply.{own_idle, own_leader}
use Rattle.search_machine.proofs.laws.records.empty_record_law.Goals as goal

pub returns : goal.returns
returns c = record {
  leader = λ g fits. own_leader g fits;
  others = λ g i high. own_idle g i high;
}
