use Rattle.std.proofs.Common.{◌-◌, length}
use Rattle.outside.proofs.reading.read_all.Given as goal
use Rattle.outside.proofs.Gathering.{Gathered}

abbrev pub invariant-loop-count : goal.invariant-loop-count
invariant-loop-count g l =
    Gathered g.F.Files.held g.F.Files.left g.F.Files.at g.F.Files.blamed g.F.Files.faults g.F.Files.misses g.F.Files.reliable
    l.fn.files l.files l.bytes.items l.limit

abbrev pub decreases-loop-count : goal.decreases-loop-count
decreases-loop-count g l = l.limit - length l.bytes.items
