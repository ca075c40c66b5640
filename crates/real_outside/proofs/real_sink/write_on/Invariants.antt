use Rattle.std.proofs.Common.{◌≤◌}
use Rattle.std.specs.Io.KnownBytes.{Keeps}
use Rattle.real_outside.proofs.real_sink.write_on.Given as goal

abbrev pub invariant-loop : goal.invariant-loop
invariant-loop g l =
    (l.fn.faults ≤ l.faults)
    × Keeps (g.W.Write.contents l.fn.writer) (g.W.Write.contents l.writer)
