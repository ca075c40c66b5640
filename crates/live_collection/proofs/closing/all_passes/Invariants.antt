-- The writer's pass, and behind it those of the readers so far.
use Rattle.std.proofs.Common.{◌≡◌, ◌<◌, ◌++◌, ◌∷◌, length, map, vec_capacity}
use Rattle.std.specs.Vec.Iter.{into_iter_items}
use Rattle.live_collection.specs.declared.live.Reader.{Reader}
use Rattle.live_collection.proofs.closing.all_passes.Given as goal

abbrev pub invariant-loop-reader : goal.invariant-loop-reader
invariant-loop-reader l = record {
  whole : l.yielded ++ into_iter_items l.reader-iterator ≡ l.fn.readers.items;
  passes : l.passes.items ≡ l.fn.writer.pass ∷ map (λ (r : Reader). r.pass) l.yielded;
  room : length l.fn.readers.items < vec_capacity l.passes;
}
