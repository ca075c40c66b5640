use Rattle.std.proofs.Common.{◌≡◌, ◌++◌, ◌≤ℤ◌, pos, neg_ℤ, map}
use Rattle.std.specs.List.{range_with_len}
use Rattle.random_walks.specs.Walks.{state_at, value_at}
use Rattle.random_walks.proofs.drawing.push_walk.Given as goal

abbrev pub invariant-loop-i : goal.invariant-loop-i
invariant-loop-i l = record {
  state : l.rng ≡ state_at l.fn.rng l._i;
  value : l.value ≡ value_at l.fn.rng l._i;
  not_low : neg_ℤ (pos 30000) ≤ℤ l.value;
  not_high : l.value ≤ℤ pos 30000;
  values : l.values.items ≡ l.fn.values.items ++ map (value_at l.fn.rng) (range_with_len 1 l._i);
}
