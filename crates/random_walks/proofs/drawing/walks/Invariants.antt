use Rattle.std.proofs.Common.{◌≡◌, ◌*◌}
use Rattle.series_core.specs.Flat.{joined}
use Rattle.random_walks.specs.Walks.{state_at, first_walks}
use Rattle.random_walks.proofs.drawing.walks.Given as goal

abbrev pub invariant-loop-i : goal.invariant-loop-i
invariant-loop-i l = record {
  state : l.rng ≡ state_at l.fn.rng (l._i * l.length);
  values : l.values.items ≡ joined (first_walks l.length l.fn.rng l._i);
}
