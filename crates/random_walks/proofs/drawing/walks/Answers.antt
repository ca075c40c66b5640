use Rattle.std.proofs.Common.{ap, ◌∙◌, arith}
use Rattle.series_core.specs.Flat.{rows_of}
use Rattle.random_walks.specs.Walks.{walks_from}
use Rattle.random_walks.proofs.Walked.{walk_ends, walks_next, walks_rows, walks_whole, same_collection}
use Rattle.random_walks.proofs.drawing.walks.Goals as goal

pub loop-i-preserved : goal.loop-i-preserved
loop-i-preserved c =
    let before = c.loop-i.invariant in
    let moved = c.in_ok-push_walk.ensures in
    record {
      state = walk_ends c.args.length c.args.rng.now c.loop-i._i c.loop-i.rng c.push_walk.new.rng before.state moved.moved;
      values = walks_next c.args.length c.args.rng.now c.loop-i._i c.loop-i.rng c.loop-i.values.items
          c.push_walk.new.values.items before.state before.values moved.values;
    }

pub from_values-requires-clause-whole : goal.from_values-requires-clause-whole
from_values-requires-clause-whole c =
    let all = walks_whole c.args.length c.args.rng.now c.args.count c.loop-i._i c.loop-i.values.len c.requires.some_point
    c.loop-i.auto._i-end c.loop-i-test.false c.loop-i.values.ok.0 c.loop-i.invariant.values in
    all.whole

pub from_values-requires-clause-count_limit : goal.from_values-requires-clause-count_limit
from_values-requires-clause-count_limit c =
    let all = walks_whole c.args.length c.args.rng.now c.args.count c.loop-i._i c.loop-i.values.len c.requires.some_point
    c.loop-i.auto._i-end c.loop-i-test.false c.loop-i.values.ok.0 c.loop-i.invariant.values in
    omega (arith, all.count, c.requires.count_limit)

pub from_values-requires-clause-values_limit : goal.from_values-requires-clause-values_limit
from_values-requires-clause-values_limit c =
    let all = walks_whole c.args.length c.args.rng.now c.args.count c.loop-i._i c.loop-i.values.len c.requires.some_point
    c.loop-i.auto._i-end c.loop-i-test.false c.loop-i.values.ok.0 c.loop-i.invariant.values in
    omega (arith, all.size, c.requires.values_limit)

pub returns-clause-walks : goal.returns-clause-walks
returns-clause-walks c =
    let all = walks_whole c.args.length c.args.rng.now c.args.count c.loop-i._i c.loop-i.values.len c.requires.some_point
    c.loop-i.auto._i-end c.loop-i-test.false c.loop-i.values.ok.0 c.loop-i.invariant.values in
    same_collection c.from_values.result (walks_from c.args.length c.args.rng.now c.args.count)
    c.from_values.ensures.points
    (c.from_values.ensures.series
    ∙ ap (λ n. rows_of c.args.length n c.loop-i.values.items) all.count
    ∙ ap (rows_of c.args.length c.args.count) all.values
    ∙ walks_rows c.args.length c.args.rng.now c.args.count)
