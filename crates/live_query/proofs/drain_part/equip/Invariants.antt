-- A hand for each searcher so far.
use Rattle.std.proofs.Common.{◌≡◌, ◌+◌, ◌≤◌, ◌++◌, All, length, vec_capacity, vec_len}
use Rattle.std.specs.Vec.Iter.{into_iter_items}
use Rattle.live_query.specs.Parts.{AreEquipped}
use Rattle.live_query.specs.SealedQueues.{IsFresh, IsFreshPass}
use Rattle.live_query.proofs.drain_part.equip.Given as goal

abbrev pub invariant-loop-searcher : goal.invariant-loop-searcher
invariant-loop-searcher g l = record {
  whole : l.yielded ++ into_iter_items l.searcher-iterator ≡ l.fn.team.items;
  len : vec_len l.ready ≡ length l.yielded;
  left : vec_len l.passes + length l.yielded ≡ length l.fn.team.items;
  room : length l.fn.team.items ≤ vec_capacity l.ready;
  passes : All (IsFreshPass l.runs.runs) l.passes.items;
  equipped : AreEquipped (IsFresh l.runs.runs) l.roots l.yielded l.ready.items;
}
