use Rattle.std.proofs.Common.{◌≡◌, ◌≤◌, vec_len, vec_capacity}
use Rattle.query_core.specs.Teams.{AreAlone, AreHired}
use Rattle.query_core.proofs.opening.hire.Given as goal

abbrev pub invariant-loop-number : goal.invariant-loop-number
invariant-loop-number g l = record {
  some : 1 ≤ l.number;
  len : vec_len l.hired ≡ l.number;
  room : l.workers ≤ vec_capacity l.hired;
  hired : AreHired l.search.question l.search.index l.queues l.hired.items;
  alone : AreAlone l.hired.items;
}
