-- A drawing for each pass so far.
use Rattle.std.proofs.Common.{◌≡◌, ◌≤◌, length, map, vec_capacity, vec_len}
use Rattle.live_query.specs.RootClaims.{fresh_drawn}
use Rattle.live_query.proofs.root_claims.drawings.Given as goal

abbrev pub invariant-loop-pass : goal.invariant-loop-pass
invariant-loop-pass l = record {
  can_next : (goal.iterator-loop-pass).can_next l.pass-iterator;
  is_finite : (goal.iterator-loop-pass).is_finite l.pass-iterator;
  len : vec_len l.drawings ≡ length l.yielded;
  room : length l.fn.passes.items ≤ vec_capacity l.drawings;
  drawings : l.drawings.items ≡ map fresh_drawn l.yielded;
}
