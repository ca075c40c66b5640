-- Where k is great the limit is the greatest of all.
use Rattle.std.proofs.Common.{arith}
use Rattle.search_machine.proofs.PlainList.{last_none}
use Rattle.search_task.specs.Questions.{ground_of}
use Rattle.search_task.proofs.Grounds.{ground_fits, ground_last}
use Rattle.nearest_answer.proofs.limits.first_limit.Goals as goal

pub returns-then-k-gt-MOST_RANKS_OF_NEXT_LEAVES : goal.returns-then-k-gt-MOST_RANKS_OF_NEXT_LEAVES
returns-then-k-gt-MOST_RANKS_OF_NEXT_LEAVES g c =
    let ground = ground_of c.args.search.now in
    let fits = ground_fits c.args.search.now c.k.ensures.searched in
    record { limit = omega (arith, last_none ground fits, ground_last c.args.search.now c.k.ensures.searched) }
