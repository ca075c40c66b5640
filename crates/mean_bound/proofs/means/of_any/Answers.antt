-- One more mean stands behind those so far, in place of a zero.
use Rattle.std.proofs.Common.{◌/◌, ◌<◌, arith}
use Rattle.segment_sums.proofs.Filled.{fill_next}
use Rattle.mean_bound.specs.Means.{segment_mean}
use Rattle.mean_bound.proofs.OfSegments.{at_length, length_between, sum_fits}
use Rattle.mean_bound.proofs.means.of_any.Goals as goal

pub mean_of-requires-clause-limit : goal.mean_of-requires-clause-limit
mean_of-requires-clause-limit c =
    sum_fits c.args.cuts.now c.args.row.now c.raised_sums-sums.result c.loop-j.j _ c.raised_sums-sums.ensures.sums
    c.raised_sums-sums.ensures.limit (omega (arith, c.segments-j-end.ensures.value))
    (length_between c.args.cuts.now c.loop-j.j _ _ c.cut-from.ensures.from c.cut-from.ensures.to)

pub loop-j-preserved : goal.loop-j-preserved
loop-j-preserved c =
    let cuts = c.args.cuts.now in
    let j = c.loop-j.j in
    let used : j < cuts.segments = omega (arith, c.segments-j-end.ensures.value) in
    let long = length_between cuts j _ _ c.cut-from.ensures.from c.cut-from.ensures.to in
    fill_next (segment_mean cuts c.args.row.now) 0 16 j c.loop-j.means _
    (omega (arith, used, c.segments-j-end.ensures.divides.few_segments)) c.loop-j.invariant
    (at_length (λ s n. s / n) cuts c.args.row.now _ j _ _ c.raised_sums-sums.ensures.sums used long c.mean_of.ensures)
