use Rattle.std.proofs.Common.{◌≡◌, ◌≤◌, [], replicate, vec_len, vec_capacity}
use Rattle.summary_phase.proofs.buffers.Buffers.new.Given as goal

abbrev pub invariant-loop-root : goal.invariant-loop-root
invariant-loop-root l =
    (l.lists.items ≡ replicate l._root []) × (vec_len l.lists ≡ l._root)
    × (l.roots ≤ vec_capacity l.lists)
