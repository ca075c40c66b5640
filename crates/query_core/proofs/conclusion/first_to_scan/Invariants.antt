use Rattle.std.proofs.Common.{◌≡◌, ◌<◌, ◌^◌, ℕ, Some, length}
use Rattle.std.specs.Prelude.{slice_get}
use Rattle.search_machine.specs.Workers.{Worker}
use Rattle.search_machine.specs.Sound.{scans}
use Rattle.query_core.specs.Working.{Shows, Working}
use Rattle.query_core.proofs.conclusion.first_to_scan.Given as goal

abbrev pub invariant-loop-i : goal.invariant-loop-i
invariant-loop-i g l = record {
  few : length l.workers < 2 ^ 32;
  none : (j : ℕ) (w : Working) (m : Worker) → j < l.i → slice_get l.workers j ≡ Some w
      → Shows w m → scans l.leaf m ≡ 0;
}
