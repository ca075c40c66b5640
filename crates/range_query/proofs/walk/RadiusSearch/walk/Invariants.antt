-- All that is near in the leaves so far is found.
use Rattle.std.proofs.Common.{◌≡◌, ◌≤◌, ◌-◌, ◌++◌}
use Rattle.std.specs.List.{range_with_len}
use Rattle.range_query.specs.Near.{near_leaves}
use Rattle.range_query.specs.Searches.{asked_of}
use Rattle.range_query.proofs.walk.RadiusSearch.walk.Given as goal

abbrev pub invariant-loop-leaf : goal.invariant-loop-leaf
invariant-loop-leaf g l =
    (l.first ≤ l.leaf)
    × (l.found.items
    ≡ l.fn.found.items
    ++ near_leaves (asked_of g.R.Rows.collection l.self) l.self.index.now.leaves
    (range_with_len l.first (l.leaf - l.first)))
