use Rattle.std.proofs.Common.{◌≡◌, ◌≤◌, ◌++◌, All, replicate, map, length, vec_len, vec_capacity}
use Rattle.sealed_runs.specs.Sealing.{IsReady, fresh_visits}
use Rattle.sealed_runs.proofs.sealing.seal_rows.Given as goal

abbrev pub invariant-loop-row : goal.invariant-loop-row
invariant-loop-row l =
    (goal.iterator-loop-row).can_next l.row-iterator
    × (goal.iterator-loop-row).is_finite l.row-iterator
    × (vec_len l.runs ≡ length l.yielded)
    × (l.yielded ++ l.row-iterator.rest.items ≡ l.fn.rows.items)
    × (map (λ run. run.entries) l.runs.items ≡ l.yielded)
    × All (IsReady l.callers) l.runs.items
    × (l.passes.items ≡ replicate l.callers (fresh_visits l.runs.items))
    × (length l.fn.rows.items ≤ vec_capacity l.runs)
