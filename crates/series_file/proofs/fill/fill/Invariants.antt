use Rattle.std.proofs.Common.{◌≡◌, ◌≤◌, ◌-◌, length, take}
use Rattle.std.specs.Io.KnownBytes.{prepend_known}
use Rattle.series_file.proofs.Stays.{Stays}
use Rattle.series_file.proofs.fill.fill.Given as goal

abbrev pub invariant-loop-done : goal.invariant-loop-done
invariant-loop-done g l = record {
  within : l.done ≤ length l.buffer;
  taken : g.F.Files.left l.initial.files ≡ prepend_known (take l.done l.buffer)
      (g.F.Files.left l.files);
  stays : Stays g.F.Files.held g.F.Files.at g.F.Files.blamed g.F.Files.faults g.F.Files.misses g.F.Files.reliable
      l.initial.files l.files;
}

abbrev pub decreases-loop-done : goal.decreases-loop-done
decreases-loop-done g l = length l.initial.buffer - l.done
