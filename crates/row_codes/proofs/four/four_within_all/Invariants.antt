-- How each query stands behind the blocks so far.
use Rattle.std.proofs.Common.{slice_index}
use Rattle.row_codes.proofs.Standings.{Stands}
use Rattle.row_codes.proofs.four.four_within_all.Given as goal

abbrev pub invariant-loop-k : goal.invariant-loop-k
invariant-loop-k l = record {
  a : Stands l.a l.codes (slice_index l.limits 0) l.k l.to_a.squared l.to_a.within;
  b : Stands l.b l.codes (slice_index l.limits 1) l.k l.to_b.squared l.to_b.within;
  c : Stands l.c l.codes (slice_index l.limits 2) l.k l.to_c.squared l.to_c.within;
  d : Stands l.d l.codes (slice_index l.limits 3) l.k l.to_d.squared l.to_d.within;
}
