-- The four parts of sixteen words.
use Rattle.std.proofs.Common.{ap, ◌∙◌, ◌+◌, ◌/◌, ◌%◌, map}
use Rattle.std.specs.Prelude.{◌+ℤ◌}
use Rattle.std.specs.Simd.Lanes.{chunk}
use mir.Syntax.{w32}
use Rattle.row_codes.specs.Lanes.{wrapped, lane_total, code_dot}
use Rattle.row_codes.proofs.LaneSums.{handed_back, handed_fit, handed_both, handed_long}
use Rattle.row_codes.proofs.lanes.sums_of_words.Goals as goal

pub added-two-requires-clause-a_fits : goal.added-two-requires-clause-a_fits
added-two-requires-clause-a_fits c = handed_fit c.part.result c.part.ensures.fits

pub added-two-requires-clause-b_fits : goal.added-two-requires-clause-b_fits
added-two-requires-clause-b_fits c = handed_fit c.part-2.result c.part-2.ensures.fits

pub added-three-requires-clause-a_fits : goal.added-three-requires-clause-a_fits
added-three-requires-clause-a_fits c = handed_fit c.added-two.result c.added-two.ensures.fits

pub added-three-requires-clause-b_fits : goal.added-three-requires-clause-b_fits
added-three-requires-clause-b_fits c = handed_fit c.part-3.result c.part-3.ensures.fits

pub added-requires-clause-a_fits : goal.added-requires-clause-a_fits
added-requires-clause-a_fits c = handed_fit c.added-three.result c.added-three.ensures.fits

pub added-requires-clause-b_fits : goal.added-requires-clause-b_fits
added-requires-clause-b_fits c = handed_fit c.part-4.result c.part-4.ensures.fits

pub returns : goal.returns
returns c =
    let ws = c.args.words in
    let at = c.args.at in
    let qs = c.args.query.now in
    let dot1 = code_dot (map (λ w. w % 16) ws) (chunk at 16 qs) in
    let dot2 = code_dot (map (λ w. w / 16 % 16) ws) (chunk (64 + at) 16 qs) in
    let dot3 = code_dot (map (λ w. w / 256 % 16) ws) (chunk (128 + at) 16 qs) in
    let dot4 = code_dot (map (λ w. w / 4096 % 16) ws) (chunk (192 + at) 16 qs) in
    let one = c.part.ensures.value ∙ ap (λ l. wrapped (code_dot l (chunk at 16 qs))) c.first.ensures in
    let two = c.part-2.ensures.value ∙ ap (λ l. wrapped (code_dot l (chunk (64 + at) 16 qs))) c.second.ensures in
    let three = c.part-3.ensures.value ∙ ap (λ l. wrapped (code_dot l (chunk (128 + at) 16 qs))) c.third.ensures in
    let four = c.part-4.ensures.value ∙ ap (λ l. wrapped (code_dot l (chunk (192 + at) 16 qs))) c.fourth.ensures in
    let first_two = c.added-two.ensures.value
    ∙ handed_both c.part.result c.part-2.result dot1 dot2 c.part.ensures.fits c.part-2.ensures.fits one two in
    let first_three = c.added-three.ensures.value
    ∙ handed_both c.added-two.result c.part-3.result (dot1 +ℤ dot2) dot3 c.added-two.ensures.fits c.part-3.ensures.fits first_two three in
    let all = c.added.ensures.value
    ∙ handed_both c.added-three.result c.part-4.result ((dot1 +ℤ dot2) +ℤ dot3) dot4 c.added-three.ensures.fits c.part-4.ensures.fits
    first_three four in
    record {
      value = ap (λ l. wrapped (lane_total l)) (handed_back c.added.result c.added.ensures.fits) ∙ all;
      lanes = handed_long w32 c.added.result ∙ c.added.ensures.lanes;
      fits = handed_fit c.added.result c.added.ensures.fits;
    }
