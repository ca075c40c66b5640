use Rattle.std.proofs.Common.{◌≡◌, ◌≤◌, [], length}
use Rattle.std.specs.Prelude.{replicate, vec_capacity}
use Rattle.live_collection.proofs.object.LiveObject.new.Given as goal

abbrev pub invariant-loop : goal.invariant-loop
invariant-loop l = (l.lists.items ≡ replicate l.counter []) × (length l.lists.items ≡ l.counter) × (l.fn.readers ≤ vec_capacity l.lists)
