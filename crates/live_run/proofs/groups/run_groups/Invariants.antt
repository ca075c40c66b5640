use Rattle.std.proofs.Common.{◌≡◌, ◌≤◌, take}
use Rattle.live_run.proofs.State.{IsBehind}
use Rattle.live_run.proofs.groups.run_groups.Given as goal

abbrev pub invariant-loop-at : goal.invariant-loop-at
invariant-loop-at g l = record {
  kept : g.F.Files.held l.files ≡ g.F.Files.held l.fn.files;
  faults : g.F.Files.faults l.fn.files ≤ g.F.Files.faults l.files;
  misses : g.F.Files.misses l.fn.files ≤ g.F.Files.misses l.files;
  lost : g.S.Sink.faults l.fn.out ≤ g.S.Sink.faults l.out;
  behind : IsBehind (g.F.Files.held l.fn.files) (take l.at l.groups) l.dialogue (g.S.Sink.written l.fn.out) (g.S.Sink.written l.out);
}
