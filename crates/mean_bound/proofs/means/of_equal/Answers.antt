-- One more mean stands behind those so far, in place of a zero.
use Rattle.std.proofs.Common.{◌≡◌, ◌∙◌, ◌/◌, ◌<◌, arith, ap}
use Rattle.segment_sums.proofs.Filled.{fill_next, filled}
use Rattle.segment_sums.proofs.Places.{equal_lengths}
use Rattle.mean_bound.specs.Means.{segment_mean}
use Rattle.mean_bound.proofs.OfSegments.{at_length, sum_fits}
use Rattle.mean_bound.proofs.means.of_equal.Goals as goal

pub mean_of-requires-clause-limit : goal.mean_of-requires-clause-limit
mean_of-requires-clause-limit g c =
    sum_fits c.args.cuts.now c.args.row.now c.equal_raised_sums-sums.result c.loop-j.j g.row.L c.equal_raised_sums-sums.ensures.sums
    c.equal_raised_sums-sums.ensures.limit (omega (arith, c.requires.segments))
    (equal_lengths c.args.cuts.now g.row.W g.row.L c.loop-j.j (omega (arith, c.requires.segments, c.segments-segments.ensures.divides.some_segments))
    c.requires.segments c.requires.equal)

pub loop-j-preserved : goal.loop-j-preserved
loop-j-preserved g c =
    let cuts = c.args.cuts.now in
    let j = c.loop-j.j in
    let is = c.segments-segments.ensures.divides in
    let used : j < cuts.segments = omega (arith, c.requires.segments) in
    let long = equal_lengths cuts g.row.W g.row.L j (omega (arith, c.requires.segments, is.some_segments)) c.requires.segments
    c.requires.equal in
    fill_next (segment_mean cuts c.args.row.now) 0 16 j c.loop-j.means _ (omega (arith, used, is.few_segments)) c.loop-j.invariant
    (at_length (λ s n. s / n) cuts c.args.row.now _ j g.row.L _ c.equal_raised_sums-sums.ensures.sums used long c.mean_of.ensures)

pub returns : goal.returns
returns g c =
    let cuts = c.args.cuts.now in
    let end : c.loop-j.j ≡ cuts.segments = omega (arith, c.requires.segments) in
    record {
      summed = c.equal_raised_sums-sums.ensures.sums;
      divided = c.loop-j.invariant ∙ ap (filled (segment_mean cuts c.args.row.now) 0 16) end;
      limit = c.equal_raised_sums-sums.ensures.limit;
    }
