-- A hand for each searcher so far; the passes of the others are left.
use Rattle.std.proofs.Common.{◌≡◌, ◌≤◌, ◌++◌, length, vec_capacity, vec_len}
use Rattle.std.specs.Vec.Iter.{into_iter_items}
use Rattle.live_query.specs.LockParts.{AreDealt, HasNew}
use Rattle.live_query.specs.Parts.{AreEquipped}
use Rattle.live_query.proofs.locked_team.equip.Given as goal

abbrev pub invariant-loop-searcher : goal.invariant-loop-searcher
invariant-loop-searcher g l = record {
  whole : l.yielded ++ into_iter_items l.searcher-iterator ≡ l.fn.team.items;
  len : vec_len l.ready ≡ length l.yielded;
  room : length l.fn.team.items ≤ vec_capacity l.ready;
  dealt : AreDealt l.locks (length l.yielded) l.rows.items;
  equipped : AreEquipped (HasNew l.locks) l.roots l.yielded l.ready.items;
}
