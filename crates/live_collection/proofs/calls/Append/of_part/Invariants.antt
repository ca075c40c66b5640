-- The parts so far are all parts of the batch.
use Rattle.std.proofs.Common.{◌≡◌, ◌≤◌, ◌∷◌, [], length, All}
use Rattle.std.specs.Prelude.{vec_capacity}
use Rattle.live_collection.proofs.calls.Append.of_part.Given as goal

abbrev pub invariant-loop : goal.invariant-loop
invariant-loop l =
    (All (λ p. p ≡ l.fn.own ∷ []) l.parts.items) × (length l.parts.items ≡ l.counter)
    × (l.fn.readers ≤ vec_capacity l.parts)
