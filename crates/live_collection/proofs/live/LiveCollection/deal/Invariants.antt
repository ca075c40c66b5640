-- The passes that are left are new ones in order, and the readers have the numbers behind theirs.
use Rattle.std.proofs.Common.{◌≡◌, ◌+◌, ◌<◌, ◌≤◌, ℕ, length, slice_index_or, vec_capacity}
use Rattle.turn_lock.specs.Passes.{AreNewPasses}
use Rattle.live_collection.specs.Sides.{IsNewReader}
use Rattle.live_collection.specs.declared.live.Reader.{Reader}
use Rattle.live_collection.proofs.live.LiveCollection.deal.Given as goal

abbrev pub invariant-loop : goal.invariant-loop
invariant-loop l = record {
  passes : AreNewPasses l.self.lock l.passes.items;
  left : length l.passes.items + l.counter ≡ l.self.readers + 1;
  made : length l.sides.items ≡ l.counter;
  room : l.self.readers ≤ vec_capacity l.sides;
  sides : (i : ℕ) (d : Reader) → i < length l.sides.items
      → IsNewReader l.self (length l.passes.items + i) (slice_index_or l.sides.items i d);
}
