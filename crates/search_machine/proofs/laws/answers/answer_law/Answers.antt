use Rattle.search_machine.proofs.Ranks.{answer_same, last_same}
use Rattle.search_machine.proofs.laws.answers.answer_law.Goals as goal

pub returns : goal.returns
returns c = record {
  pairs = λ g d q m. answer_same g d q m;
  last = λ g d q some m. last_same g d q some m;
}
