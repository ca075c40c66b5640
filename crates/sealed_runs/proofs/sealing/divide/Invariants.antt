use Rattle.std.proofs.Common.{◌≡◌, ℕ, ◌^◌, ◌<◌, [], All, take, length, get_or}
use Rattle.sealed_runs.specs.Sealing.{row_of}
use Rattle.sealed_runs.proofs.sealing.divide.Given as goal

abbrev pub invariant-loop-entry : goal.invariant-loop-entry
invariant-loop-entry l = record {
  count : length l.rows.items ≡ l.queues;
  rows : (m : ℕ) → m < l.queues
      → get_or l.rows.items m [] ≡ row_of l.queues (take l.entry-index l.entries) m;
  leaves : All (λ e. e.leaf < 2 ^ 32) (take l.entry-index l.entries);
}
