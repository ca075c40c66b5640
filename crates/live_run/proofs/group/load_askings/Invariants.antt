use Rattle.std.proofs.Common.{◌≡◌, ◌≤◌, All, take}
use Rattle.live_run.specs.Groups.{HoldAskings}
use Rattle.live_run.specs.Replies.{CanAsk}
use Rattle.live_run.proofs.group.load_askings.Given as goal

abbrev pub invariant-loop-asking : goal.invariant-loop-asking
invariant-loop-asking g l = record {
  passed : HoldAskings (g.F.Files.held l.fn.files) l.points (take l.asking-index l.askings) l.loaded.items;
  askable : All (CanAsk l.points) l.loaded.items;
  kept : g.F.Files.held l.files ≡ g.F.Files.held l.fn.files;
  faults : g.F.Files.faults l.fn.files ≤ g.F.Files.faults l.files;
  misses : g.F.Files.misses l.fn.files ≤ g.F.Files.misses l.files;
}
