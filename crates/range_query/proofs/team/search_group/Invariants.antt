-- All that is near below the root children so far is found.
use Rattle.std.proofs.Common.{◌≡◌, ◌≤◌, ◌-◌, ◌++◌}
use Rattle.std.specs.List.{flat_map, range_with_len}
use Rattle.range_query.specs.Near.{near_root}
use Rattle.range_query.specs.Searches.{asked_of}
use Rattle.range_query.proofs.team.search_group.Given as goal

abbrev pub invariant-loop-i : goal.invariant-loop-i
invariant-loop-i g l =
    (l.first ≤ l.i)
    × (l.found.items
    ≡ l.fn.found.items
    ++ flat_map (near_root (asked_of g.R.Rows.collection l.search) l.search.index.now)
    (range_with_len l.first (l.i - l.first)))
