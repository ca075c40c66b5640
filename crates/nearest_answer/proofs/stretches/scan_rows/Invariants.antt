-- The rows so far were scanned, and the most that a distance may be is that of the list.
use Rattle.std.proofs.Common.{◌-◌, ◌*◌, ◌∷◌, [], ℕ}
use Rattle.std.specs.List.{flat_map, range_with_len}
use Rattle.search_task.proofs.Meeting.{IsScanning}
use Rattle.nearest_answer.proofs.stretches.scan_rows.Given as goal

abbrev pub invariant-loop-row : goal.invariant-loop-row
invariant-loop-row g l =
    let first = l.fn.number * 64 in
    IsScanning l.fn.search.question l.fn.limit (flat_map (λ (n : ℕ). n ∷ []) (range_with_len first (l.row - first)))
    l.fn.list.pairs l.list l.most
