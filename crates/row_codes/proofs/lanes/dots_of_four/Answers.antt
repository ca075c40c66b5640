-- Sixteen words more, for each query.
use Rattle.std.proofs.Common.{arith}
use Rattle.row_codes.proofs.Held.{held_all, held_none, held_on}
use Rattle.row_codes.proofs.lanes.dots_of_four.Goals as goal

pub loop-sixteen-init : goal.loop-sixteen-init
loop-sixteen-init c = record {
  a = held_none c.args.words.now c.args.a.now;
  b = held_none c.args.words.now c.args.b.now;
  c = held_none c.args.words.now c.args.c.now;
  d = held_none c.args.words.now c.args.d.now;
}

pub loop-sixteen-preserved : goal.loop-sixteen-preserved
loop-sixteen-preserved c = record {
  a = held_on c.with_sixteen-to_a.ensures;
  b = held_on c.with_sixteen-to_b.ensures;
  c = held_on c.with_sixteen-to_c.ensures;
  d = held_on c.with_sixteen-to_d.ensures;
}

pub lane_sum-requires : goal.lane_sum-requires
lane_sum-requires c = c.loop-sixteen.invariant.a.fits

pub lane_sum-requires-2 : goal.lane_sum-requires-2
lane_sum-requires-2 c = c.loop-sixteen.invariant.b.fits

pub lane_sum-requires-3 : goal.lane_sum-requires-3
lane_sum-requires-3 c = c.loop-sixteen.invariant.c.fits

pub lane_sum-requires-4 : goal.lane_sum-requires-4
lane_sum-requires-4 c = c.loop-sixteen.invariant.d.fits

pub returns-clause-a : goal.returns-clause-a
returns-clause-a c =
    held_all c.loop-sixteen.sixteen c.args.words.now c.args.a.now _ c.lane_sum.result (omega arith) c.loop-sixteen.invariant.a
    c.requires.words c.requires.values.a c.lane_sum.ensures

pub returns-clause-b : goal.returns-clause-b
returns-clause-b c =
    held_all c.loop-sixteen.sixteen c.args.words.now c.args.b.now _ c.lane_sum-2.result (omega arith) c.loop-sixteen.invariant.b
    c.requires.words c.requires.values.b c.lane_sum-2.ensures

pub returns-clause-c : goal.returns-clause-c
returns-clause-c c =
    held_all c.loop-sixteen.sixteen c.args.words.now c.args.c.now _ c.lane_sum-3.result (omega arith) c.loop-sixteen.invariant.c
    c.requires.words c.requires.values.c c.lane_sum-3.ensures

pub returns-clause-d : goal.returns-clause-d
returns-clause-d c =
    held_all c.loop-sixteen.sixteen c.args.words.now c.args.d.now _ c.lane_sum-4.result (omega arith) c.loop-sixteen.invariant.d
    c.requires.words c.requires.values.d c.lane_sum-4.ensures
