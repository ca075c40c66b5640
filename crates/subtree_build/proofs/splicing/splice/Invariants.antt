-- The root numbers so far that have members, with their lists; the lists of the others stand.
use Rattle.std.proofs.Common.{◌≡◌, ℕ, ◌≤◌, length, map, All}
use Rattle.std.specs.Prelude.{filter}
use Rattle.std.specs.List.{range_with_len}
use Rattle.summary_phase.specs.Roots.{root_of_all}
use Rattle.subtree_build.specs.Splicing.{has_members}
use Rattle.subtree_build.proofs.splicing.splice.Given as goal

abbrev pub invariant-loop-root : goal.invariant-loop-root
invariant-loop-root l =
    (l.found.roots.items
    ≡ filter (λ root. has_members (root_of_all l.fn.buffers root)) (range_with_len 0 l.root))
    × (l.found.lists.items ≡ map (root_of_all l.fn.buffers) l.found.roots.items)
    × ((r : ℕ) → l.root ≤ r → root_of_all l.buffers r ≡ root_of_all l.fn.buffers r)
    × All (λ b. length b ≡ l.roots) l.buffers
