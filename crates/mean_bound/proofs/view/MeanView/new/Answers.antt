-- One more least and one more greatest mean stand behind those so far, in place of zeros.
use Rattle.std.proofs.Common.{◌≡◌, ◌+◌, ◌-◌, ◌/◌, ◌<◌, arith}
use Rattle.segment_sums.specs.Division.{segment_length}
use Rattle.segment_sums.proofs.Filled.{fill_next}
use Rattle.mean_bound.specs.MeanBound.{low_mean, high_mean}
use Rattle.mean_bound.proofs.OfSegments.{at_length, length_between, mean_told, sum_fits}
use Rattle.mean_bound.proofs.view.MeanView.new.Goals as goal
use Rattle.mean_bound.proofs.view.MeanView.new.Goals.{After-cut-from}

-- the segment is one of those, and as long as its cut points say
used : (c : After-cut-from) → c.loop-j.j < c.args.cuts.now.segments
used c = omega (arith, c.segments-j-end.ensures.value)

long : (c : After-cut-from) → segment_length c.args.cuts.now c.loop-j.j ≡ c.cut-from.result.1 - c.cut-from.result.0
long c = length_between c.args.cuts.now c.loop-j.j _ _ c.cut-from.ensures.from c.cut-from.ensures.to

pub low_mean-requires-clause-mean : goal.low_mean-requires-clause-mean
low_mean-requires-clause-mean c =
    mean_told c.args.cuts.now c.args.query.now _ _ c.loop-j.j _ c.sums_and_means.ensures (used c) (long c)

pub high_mean-requires-clause-mean : goal.high_mean-requires-clause-mean
high_mean-requires-clause-mean c = low_mean-requires-clause-mean c.before

pub high_mean-requires-clause-limit : goal.high_mean-requires-clause-limit
high_mean-requires-clause-limit c =
    let told = c.sums_and_means.ensures in
    sum_fits c.args.cuts.now c.args.query.now _ c.loop-j.j _ told.summed told.limit (used c.before) (long c.before)

pub loop-j-preserved : goal.loop-j-preserved
loop-j-preserved c =
    let d = c.args.cuts.now in
    let query = c.args.query.now in
    let sums = c.sums_and_means.ensures.summed in
    let used = used c.before.before in
    let long = long c.before.before in
    let inside : c.loop-j.j < 16 = omega (arith, used, c.segments-j-end.ensures.divides.few_segments) in
    record {
      lows = fill_next (low_mean d query) 0 16 c.loop-j.j c.loop-j.lows _ inside c.loop-j.invariant.lows
          (at_length (λ s n. (s + 1) / n - 1) d query _ c.loop-j.j _ _ sums used long c.low_mean.ensures);
      highs = fill_next (high_mean d query) 0 16 c.loop-j.j c.loop-j.highs _ inside c.loop-j.invariant.highs
          (at_length (λ s n. (s + (n - 1)) / n) d query _ c.loop-j.j _ _ sums used long c.high_mean.ensures);
    }
