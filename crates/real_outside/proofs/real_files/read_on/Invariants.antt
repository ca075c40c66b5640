use Rattle.std.proofs.Common.{◌≤◌}
use Rattle.std.specs.Io.KnownBytes.{Keeps}
use Rattle.real_outside.proofs.real_files.read_on.Given as goal

abbrev pub invariant-loop : goal.invariant-loop
invariant-loop g l =
    (l.fn.faults ≤ l.faults)
    × Keeps (g.F.Read.remaining l.fn.file) (g.F.Read.remaining l.file)
