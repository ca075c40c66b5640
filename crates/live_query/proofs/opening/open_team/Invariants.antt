-- A searcher for each worker so far.
use Rattle.std.proofs.Common.{◌≡◌, ◌+◌, ◌≤◌, ℕ, All, length, map, vec_capacity, vec_len}
use Rattle.best_word.specs.Passes.{Best, fresh_pass}
use Rattle.live_query.specs.RootClaims.{Drawn}
use Rattle.live_query.proofs.opening.open_team.Given as goal

abbrev pub invariant-loop-worker : goal.invariant-loop-worker
invariant-loop-worker g l = record {
  can_next : (goal.iterator-loop-worker g).can_next l.worker-iterator;
  is_finite : (goal.iterator-loop-worker g).is_finite l.worker-iterator;
  len : vec_len l.team ≡ length l.yielded;
  left : vec_len l.seen + length l.yielded ≡ length l.fn.workers.items;
  behind : vec_len l.drawings + length l.yielded ≡ length l.fn.workers.items;
  room : length l.fn.workers.items ≤ vec_capacity l.team;
  workers : map (λ c. c.worker) l.team.items ≡ l.yielded;
  undrawn : (d : Drawn) → All (λ p. p ≡ d) l.fn.drawings.items → All (λ p. p ≡ d) l.drawings.items;
  fresh : (best : Best) (floor : ℕ) → All (λ p. p ≡ fresh_pass best floor) l.fn.seen.items
      → All (λ p. p ≡ fresh_pass best floor) l.seen.items;
  hands : (d : Drawn) (best : Best) (floor : ℕ) → All (λ p. p ≡ d) l.fn.drawings.items
      → All (λ p. p ≡ fresh_pass best floor) l.fn.seen.items
      → All (λ c. c.hand ≡ record { drawn = d; seen = fresh_pass best floor }) l.team.items;
}
