-- The first passes of the rows so far; the rows behind them are as they were.
use Rattle.std.proofs.Common.{◌≡◌, ◌≤◌, vec_capacity, vec_len}
use Rattle.live_query.proofs.Fronts.{FrontsTo}
use Rattle.live_query.proofs.locks.take_fronts.Given as goal

abbrev pub invariant-loop-j : goal.invariant-loop-j
invariant-loop-j l = record {
  len : vec_len l.rows ≡ vec_len l.fn.rows;
  count : vec_len l.fronts ≡ l.j;
  room : vec_len l.fn.rows ≤ vec_capacity l.fronts;
  taken : FrontsTo l.fn.rows.items l.fronts.items l.rows.items;
}
