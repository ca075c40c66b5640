use Rattle.std.proofs.Common.{ap, ◌∙◌, ◌-◌}
use Rattle.series_core.specs.Answer.{distance_or_none}
use Rattle.search_task.proofs.Meeting.{distance_there}
use Rattle.search_task.proofs.scan.distance_of_worst.Goals as goal

pub returns-in-Some : goal.returns-in-Some
returns-in-Some c =
    ap distance_or_none c.in-Some.ensures.pair
    ∙ distance_there (c.args.list.now.k - 1) c.args.list.now.pairs

pub returns-in-None : goal.returns-in-None
returns-in-None c =
    ap distance_or_none c.in-None.ensures.pair
    ∙ distance_there (c.args.list.now.k - 1) c.args.list.now.pairs
