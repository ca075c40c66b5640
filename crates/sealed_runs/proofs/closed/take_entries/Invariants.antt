use Rattle.std.proofs.Common.{◌≤◌, length, vec_len, vec_capacity}
use Rattle.sealed_runs.specs.Tallied.{Takes}
use Rattle.sealed_runs.proofs.closed.take_entries.Given as goal

abbrev pub invariant-loop-place : goal.invariant-loop-place
invariant-loop-place l = record {
  takes : Takes l.entries l.refused l.place l.taken.items;
  len : vec_len l.taken ≤ l.place;
  room : length l.entries ≤ vec_capacity l.taken;
}
