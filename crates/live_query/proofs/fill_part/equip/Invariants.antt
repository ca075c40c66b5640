-- A hand for each searcher so far.
use Rattle.std.proofs.Common.{◌≡◌, ◌≤◌, ◌++◌, length, map, vec_capacity, vec_len}
use Rattle.std.specs.Vec.Iter.{into_iter_items}
use Rattle.live_query.specs.Parts.{filling}
use Rattle.live_query.proofs.fill_part.equip.Given as goal

abbrev pub invariant-loop-searcher : goal.invariant-loop-searcher
invariant-loop-searcher g l = record {
  whole : l.yielded ++ into_iter_items l.searcher-iterator ≡ l.fn.team.items;
  len : vec_len l.ready ≡ length l.yielded;
  room : length l.fn.team.items ≤ vec_capacity l.ready;
  ready : l.ready.items ≡ map (filling l.claims l.plan.queues (length l.plan.search.index.leaves)) l.yielded;
}
