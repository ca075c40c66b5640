-- One more sum stands behind the sums so far, in place of a zero, and is within its bounds.
use Rattle.std.proofs.Common.{rules, ◌<◌, arith}
use Rattle.std.specs.Prelude.{FitsSigned}
use Rattle.std.specs.Int.{w32}
use Rattle.std.proofs.lemmas.Int.{to_z-of_z}
use Rattle.segment_sums.proofs.Sums.{next_sum}
use Rattle.segment_sums.proofs.cuts.Cuts.any_sums.Goals as goal

pub loop-j-preserved : goal.loop-j-preserved
loop-j-preserved c =
    let cuts = c.args.self.now in
    let row = c.args.row.now in
    let j = c.loop-j.j in
    let is = c.segments-j-end.ensures.divides in
    let used : j < cuts.segments = omega (arith, c.segments-j-end.ensures.value) in
    let fits : FitsSigned w32 c.sum_of.result = search rules in
    next_sum cuts row j c.cut-from.result.0 c.cut-from.result.1 16 c.sum_of.result _ c.loop-j.into is c.requires used
    (omega (arith, is.few_segments)) c.cut-from.ensures.from c.cut-from.ensures.to
    c.sum_of.ensures.value c.sum_of.ensures.not_low c.sum_of.ensures.not_high
    (to_z-of_z w32 c.sum_of.result fits) c.loop-j.invariant
