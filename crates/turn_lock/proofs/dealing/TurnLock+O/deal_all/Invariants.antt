use Rattle.std.proofs.Common.{◌≡◌, [], length}
use Rattle.std.specs.Prelude.{vec_capacity}
use Rattle.turn_lock.specs.Rule.{dealer}
use Rattle.turn_lock.specs.Passes.{AreNewPasses, opening_of}
use Rattle.turn_lock.proofs.dealing.TurnLock+O.deal_all.Given as goal

abbrev pub invariant-loop-number : goal.invariant-loop-number
invariant-loop-number g l = record {
  same_lock : l.dealing.table_id ≡ l.fn.dealing.table_id;
  next : l.dealing.me ≡ (dealer (opening_of l.fn.self) l.number, []);
  count : length l.passes.items ≡ l.number;
  room : vec_capacity l.passes ≡ vec_capacity l.initial.passes;
  passes : AreNewPasses l.fn.self l.passes.items;
}
