-- A pass from each row so far; the rows behind them are as they were.
use Rattle.std.proofs.Common.{◌≡◌, ◌≤◌, ℕ, suc, List, vec_capacity, vec_len}
use Rattle.std.specs.Prelude.{slice_get}
use Rattle.best_word.specs.Passes.{Best}
use Rattle.search_machine.specs.Ground.{Ground}
use Rattle.live_query.specs.PortionRows.{AreRows}
use Rattle.live_query.proofs.PortionsDealt.{TakenTo}
use Rattle.live_query.proofs.portions.take_passes.Given as goal

abbrev pub invariant-loop-portion : goal.invariant-loop-portion
invariant-loop-portion l = record {
  len : vec_len l.rows ≡ vec_len l.fn.rows;
  count : vec_len l.passes ≡ l.portion;
  room : vec_len l.fn.rows ≤ vec_capacity l.passes;
  behind : (c : ℕ) → l.portion ≤ c → slice_get l.rows.items c ≡ slice_get l.fn.rows.items c;
  taken : (g : Ground) (words : List Best) (n : ℕ) → AreRows g words (suc n) l.fn.rows.items
      → TakenTo g words n l.passes.items l.rows.items;
}
