-- One more raised sum stands behind those so far, in place of a zero.
use Rattle.std.proofs.Common.{rules, ◌∙◌, ◌-◌, ◌<◌, pos, arith, below_more, get_or}
use Rattle.std.specs.Prelude.{FitsSigned}
use Rattle.std.specs.Int.{w32}
use Rattle.std.proofs.lemmas.Int.{to_z-of_z}
use Rattle.segment_sums.proofs.Filled.{fill_next}
use Rattle.segment_sums.proofs.Sums.{segment_sums_at}
use Rattle.mean_bound.specs.Means.{raised_sum}
use Rattle.mean_bound.proofs.OfSegments.{length_between, raised_is, sum_between}
use Rattle.mean_bound.proofs.means.raised_sums.Goals as goal

pub raised_by-requires : goal.raised_by-requires
raised_by-requires c =
    let cuts = c.args.cuts.now in
    let j = c.loop-j.j in
    let used : j < cuts.segments = omega (arith, c.segments-j-end.ensures.value) in
    let fits : FitsSigned w32 (get_or c.sums.new.into j (pos 0)) = search rules in
    let sum = to_z-of_z w32 _ fits
    ∙ segment_sums_at cuts c.args.row.now c.sums.new.into (16 - cuts.segments) j c.sums.ensures.sums used in
    let between = sum_between cuts c.args.row.now j _ _ sum
    (length_between cuts j _ _ c.cut-from.ensures.from c.cut-from.ensures.to) c.sums.ensures.not_low c.sums.ensures.not_high used in
    record { few_values = omega (arith, c.cut-from.ensures.inside, c.segments-j-end.ensures.divides.short_row); not_low = between.0; not_high = between.1 }

pub loop-j-preserved : goal.loop-j-preserved
loop-j-preserved c =
    let cuts = c.args.cuts.now in
    let row = c.args.row.now in
    let j = c.loop-j.j in
    let sums = c.sums.new.into in
    let used : j < cuts.segments = omega (arith, c.segments-j-end.ensures.value) in
    let fits : FitsSigned w32 (get_or sums j (pos 0)) = search rules in
    let sum = to_z-of_z w32 (get_or sums j (pos 0)) fits
    ∙ segment_sums_at cuts row sums (16 - cuts.segments) j c.sums.ensures.sums used in
    let told = raised_is cuts row j _ _ _ sum (length_between cuts j _ _ c.cut-from.ensures.from c.cut-from.ensures.to)
    c.raised_by.ensures.value c.raised_by.ensures.limit in
    record {
      sums = fill_next (raised_sum cuts row) 0 16 j c.loop-j.raised _
          (omega (arith, used, c.segments-j-end.ensures.divides.few_segments)) c.loop-j.invariant.sums told.0;
      limit = below_more _ _ c.loop-j.invariant.limit told.1;
    }
