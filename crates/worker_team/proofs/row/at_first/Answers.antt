-- The place is the one that there is.
use Rattle.std.specs.Fork.{ChangesAt}
use Rattle.worker_team.proofs.EachPlace.{both_first}
use Rattle.worker_team.proofs.row.at_first.Goals as goal

pub returns-then-not-is_empty : goal.returns-then-not-is_empty
returns-then-not-is_empty g c =
    both_first (ChangesAt g.F.Fn c.args.f.now) c.args.place c.args.row.now c.index-row-0.result c.at.new.element
    c.requires.short c.at.ensures
