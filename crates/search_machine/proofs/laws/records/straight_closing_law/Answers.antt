use Rattle.search_machine.proofs.ClosedStraight.{closed_straight}
use Rattle.search_machine.proofs.laws.records.straight_closing_law.Goals as goal

pub returns : goal.returns
returns c = λ g fits team queues closes.
    closed_straight g fits team queues closes.closes closes.placed closes.order
