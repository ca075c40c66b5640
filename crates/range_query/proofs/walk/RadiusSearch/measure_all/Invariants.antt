use Rattle.std.proofs.Common.{◌≡◌, ◌++◌, take}
use Rattle.range_query.specs.Near.{near_members}
use Rattle.range_query.specs.Searches.{asked_of}
use Rattle.range_query.proofs.walk.RadiusSearch.measure_all.Given as goal

abbrev pub invariant-loop-i : goal.invariant-loop-i
invariant-loop-i g l =
    l.found.items
    ≡ l.fn.found.items
    ++ near_members (asked_of g.R.Rows.collection l.self) (take l.i l.members)
