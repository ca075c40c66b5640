-- The limit with which a search starts is no less than its last distance.
use Rattle.std.proofs.Common.{arith}
use Rattle.search_task.specs.Questions.{search_over}
use Rattle.search_task.proofs.Openings.{limit_is_high}
use Rattle.search_tests.proofs.workers.play.Play.open.Goals as goal

pub open-requires : goal.open-requires
open-requires c =
    let a = c.args.task.now in
    let ix = c.args.index.now in
    let high = limit_is_high a ix 1 1 c.new.ensures.searched in
    let limit = c.limit_of.ensures.starts (search_over a ix 1 1) c.in_ok-start.ensures.start in
    omega (arith, high, limit)
