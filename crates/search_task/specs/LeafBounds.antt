-- Bounds of the members of a leaf, and of those of leaves in a row.
use Rattle.std.specs.Prelude.{ℕ, ◌<◌, ◌≤◌}
use Rattle.list_totals.specs.Totals.{times}
use Rattle.search_machine.specs.Ground.{Ground}

-- no member of leaf l is nearer than a bound
abbrev pub IsBelowLeaf : Ground → ℕ → ℕ → Type 0
IsBelowLeaf g l bound = (s : ℕ) → 0 < times s (g.members l) → bound ≤ g.distance s

-- and so of the leaves from one number up to but not including another
abbrev pub IsBelowLeaves : Ground → ℕ → ℕ → ℕ → Type 0
IsBelowLeaves g first end bound = (l : ℕ) → first ≤ l → l < end → l < g.leaves → IsBelowLeaf g l bound
