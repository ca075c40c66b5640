use Rattle.search_machine.proofs.Ranks.{answer_rank, answer_size}
use Rattle.search_machine.proofs.laws.answers.rank_law.Goals as goal

pub returns-clause-size : goal.returns-clause-size
returns-clause-size c g = answer_size g

pub returns-clause-rank : goal.returns-clause-rank
returns-clause-rank c g n p e = answer_rank g n p e
