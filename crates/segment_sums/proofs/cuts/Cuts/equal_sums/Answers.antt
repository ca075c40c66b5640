-- One more sum stands behind the sums so far, in place of a zero, and is within its bounds.
use Rattle.std.proofs.Common.{rules, ◌≡◌, ◌∙◌, ◌+◌, ◌*◌, ◌<◌, ◌≤◌, sym, arith}
use Rattle.std.specs.Prelude.{FitsSigned}
use Rattle.std.specs.Int.{w32}
use Rattle.std.proofs.lemmas.Int.{to_z-of_z}
use Rattle.segment_sums.proofs.Places.{equal_places}
use Rattle.segment_sums.proofs.Sums.{next_sum}
use Rattle.segment_sums.proofs.cuts.Cuts.equal_sums.Goals as goal

pub loop-j-preserved : goal.loop-j-preserved
loop-j-preserved g c =
    let cuts = c.args.self.now in
    let j = c.loop-j.j in
    let w = g.row.W in
    let l = g.row.L in
    let is = c.segments-segments.ensures.divides in
    let some : 1 ≤ w = omega (arith, c.requires.segments, is.some_segments) in
    let used : j < cuts.segments = omega (arith, c.requires.segments) in
    let fits : FitsSigned w32 c.sum_of.result = search rules in
    let one_more : j * l + l ≡ (j + 1) * l = omega arith in
    next_sum cuts c.args.row.now j (j * l) (j * l + l) 16 c.sum_of.result _ c.loop-j.into is c.requires.length used
    (omega (arith, is.few_segments))
    (sym (equal_places cuts w l j some c.requires.segments c.requires.equal))
    (one_more ∙ sym (equal_places cuts w l (j + 1) some c.requires.segments c.requires.equal))
    c.sum_of.ensures.value c.sum_of.ensures.not_low c.sum_of.ensures.not_high
    (to_z-of_z w32 c.sum_of.result fits) c.loop-j.invariant
