-- One more raised sum stands behind those so far, in place of a zero.
use Rattle.std.proofs.Common.{rules, zero, suc, ◌≡◌, ◌∙◌, ◌*◌, ◌-◌, ◌<◌, ◌≤◌, ℕ, pos, arith, ap, subst, below_more, get_or}
use Rattle.std.specs.Prelude.{FitsSigned}
use Rattle.std.specs.Int.{w32}
use Rattle.std.proofs.lemmas.Int.{to_z-of_z}
use Rattle.std.proofs.lemmas.Nat.{mul-le}
use Rattle.segment_sums.specs.Division.{Division, IsDivision}
use Rattle.segment_sums.proofs.Filled.{fill_next, filled}
use Rattle.segment_sums.proofs.Places.{equal_lengths}
use Rattle.segment_sums.proofs.Sums.{segment_sums_at}
use Rattle.mean_bound.specs.Means.{raised_sum, NoRaisedSumAbove}
use Rattle.mean_bound.proofs.OfSegments.{raised_is, sum_between}
use Rattle.mean_bound.proofs.means.equal_raised_sums.Goals as goal

-- no segment is empty, and none is longer than the row
one_length : (d : Division) (w l : ℕ) → IsDivision d → d.segments ≡ w → d.row_length ≡ w * l → (1 ≤ l) × (l ≤ 65536)
one_length d w zero is count long = absurd (omega (arith, is.some_segments, is.no_empty_segment, long))
one_length d w (suc l) is count long =
    let most = mul-le 1 (suc l) w (suc l) (omega (arith, count, is.some_segments)) (omega arith) in
    (omega arith, omega (arith, most, long, is.short_row))

pub raised_by-requires : goal.raised_by-requires
raised_by-requires g c =
    let cuts = c.args.cuts.now in
    let j = c.loop-j.j in
    let l = g.row.L in
    let is = c.segments-segments.ensures.divides in
    let some : 1 ≤ g.row.W = omega (arith, c.requires.segments, is.some_segments) in
    let used : j < cuts.segments = omega (arith, c.requires.segments) in
    let fits : FitsSigned w32 (get_or c.sums.new.into j (pos 0)) = search rules in
    let sum = to_z-of_z w32 _ fits
    ∙ segment_sums_at cuts c.args.row.now c.sums.new.into (16 - cuts.segments) j c.sums.ensures.sums used in
    let between = sum_between cuts c.args.row.now j l _ sum
    (equal_lengths cuts g.row.W l j some c.requires.segments c.requires.equal) c.sums.ensures.not_low c.sums.ensures.not_high used in
    let known = one_length cuts g.row.W l is c.requires.segments c.requires.equal in
    record { few_values = known.1; not_low = between.0; not_high = between.1 }

pub loop-j-preserved : goal.loop-j-preserved
loop-j-preserved g c =
    let cuts = c.args.cuts.now in
    let row = c.args.row.now in
    let j = c.loop-j.j in
    let sums = c.sums.new.into in
    let is = c.segments-segments.ensures.divides in
    let some : 1 ≤ g.row.W = omega (arith, c.requires.segments, is.some_segments) in
    let used : j < cuts.segments = omega (arith, c.requires.segments) in
    let fits : FitsSigned w32 (get_or sums j (pos 0)) = search rules in
    let sum = to_z-of_z w32 (get_or sums j (pos 0)) fits
    ∙ segment_sums_at cuts row sums (16 - cuts.segments) j c.sums.ensures.sums used in
    let told = raised_is cuts row j g.row.L _ _ sum (equal_lengths cuts g.row.W g.row.L j some c.requires.segments c.requires.equal)
    c.raised_by.ensures.value c.raised_by.ensures.limit in
    record {
      sums = fill_next (raised_sum cuts row) 0 16 j c.loop-j.raised _
          (omega (arith, used, is.few_segments)) c.loop-j.invariant.sums told.0;
      limit = below_more _ _ c.loop-j.invariant.limit told.1;
    }

pub returns : goal.returns
returns g c =
    let cuts = c.args.cuts.now in
    let row = c.args.row.now in
    let end : c.loop-j.j ≡ cuts.segments = omega (arith, c.requires.segments) in
    record {
      sums = c.loop-j.invariant.sums ∙ ap (filled (raised_sum cuts row) 0 16) end;
      limit = subst (NoRaisedSumAbove cuts row) end c.loop-j.invariant.limit;
      known = one_length cuts g.row.W g.row.L c.segments-segments.ensures.divides c.requires.segments c.requires.equal;
    }
