-- The workers so far, one for each pass so far, in order.
use Rattle.std.proofs.Common.{◌≡◌, ◌≤◌, ◌++◌, All, None, length, map, take, vec_capacity, vec_len}
use Rattle.std.specs.List.{range_with_len}
use Rattle.std.specs.Vec.Iter.{into_iter_items}
use Rattle.claim_word.specs.Passes.{fresh_pass}
use Rattle.worker_team.proofs.team.hire.Given as goal

abbrev pub invariant-loop-pass : goal.invariant-loop-pass
invariant-loop-pass g l = record {
  whole : l.yielded ++ into_iter_items l.pass-iterator ≡ l.fn.passes.items;
  len : vec_len l.team ≡ length l.yielded;
  fresh : All (λ w. w.pass ≡ fresh_pass l.claims) l.team.items;
  idle : All (λ w. w.made ≡ None) l.team.items;
  numbers : map (λ w. w.number) l.team.items ≡ range_with_len 0 (vec_len l.team);
  turns : map (λ w. w.turn) l.team.items ≡ take (vec_len l.team) l.turns;
  room : length l.fn.passes.items ≤ vec_capacity l.team;
}
