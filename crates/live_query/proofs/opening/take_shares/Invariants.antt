use Rattle.std.proofs.Common.{◌≡◌, vec_len}
use Rattle.live_query.proofs.opening.take_shares.Given as goal

abbrev pub invariant-loop-i : goal.invariant-loop-i
invariant-loop-i g l = record {
  same : l.workers.items ≡ l.fn.workers.items;
  len : vec_len l.workers ≡ vec_len l.fn.workers;
}
