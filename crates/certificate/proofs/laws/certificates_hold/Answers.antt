use Rattle.certificate.proofs.ValidBlocks.{blocks_pass, blocks_spelled}
use Rattle.certificate.proofs.laws.certificates_hold.Goals as goal

pub returns-clause-spelled : goal.returns-clause-spelled
returns-clause-spelled c x leaf_size queues blocks asked some few all =
    blocks_spelled x leaf_size queues blocks asked some few all

pub returns-clause-passes : goal.returns-clause-passes
returns-clause-passes c x leaf_size queues blocks asked all = blocks_pass x leaf_size queues blocks asked all
