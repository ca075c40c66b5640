use Rattle.std.proofs.Common.{◌≡◌, ◌≤◌}
use Rattle.turn_lock.proofs.turns.TurnLock+O.take.Given as goal

abbrev pub invariant-loop : goal.invariant-loop
invariant-loop g l = record {
  same_lock : l.seat.table_id ≡ l.initial.seat.table_id;
  same_seat : l.seat.id ≡ l.initial.seat.id;
  same_view : l.seat.me ≡ l.initial.seat.me;
  few : l.tries ≤ 16;
}
