use Rattle.search_machine.proofs.LegalFates.{queue_fate, start_fate}
use Rattle.search_machine.proofs.laws.turns.fate_law.Goals as goal

pub returns : goal.returns
returns c = record {
  start = λ g o legal l low start. start_fate g o legal l low start;
  queue = λ g o legal m l low there. queue_fate g o legal m l low there;
}
