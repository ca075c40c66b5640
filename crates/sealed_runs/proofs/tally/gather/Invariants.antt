use Rattle.std.proofs.Common.{◌≡◌, ◌≤◌, map, take, drop, vec_len, vec_capacity}
use Rattle.sealed_runs.specs.Visits.{column}
use Rattle.sealed_runs.specs.Tallied.{IsTally}
use Rattle.sealed_runs.proofs.tally.gather.Given as goal

abbrev pub invariant-loop-place : goal.invariant-loop-place
invariant-loop-place l = record {
  count : vec_len l.passes ≡ vec_len l.fn.passes;
  gone : take l.place l.passes.items ≡ map (take l.m) (take l.place l.fn.passes.items);
  left : drop l.place l.passes.items ≡ drop l.place l.fn.passes.items;
  tally : IsTally (column (take l.place l.fn.passes.items) l.m) l.tally.claims.items l.tally.reach
      l.tally.refused.items l.tally.kept;
  claims : vec_len l.tally.claims ≡ l.place;
  room : vec_len l.fn.passes ≤ vec_capacity l.tally.claims;
  refused : vec_len l.tally.refused ≤ l.place;
  places : vec_len l.fn.passes ≤ vec_capacity l.tally.refused;
}
