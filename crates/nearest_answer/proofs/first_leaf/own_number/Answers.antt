-- With one bit more the number lies below the next power of two, and that of all segments is none too great.
use Rattle.std.proofs.Common.{◌≡◌, ◌+◌, ◌*◌, ◌<◌, ◌≤◌, ◌^◌, ℕ, refl, ◌∙◌, ap, arith}
use Rattle.std.proofs.Math.Nat.{pow-le-pow_right}
use Rattle.std.proofs.lemmas.Grind.{pow_more}
use Rattle.nearest_answer.proofs.first_leaf.own_number.Goals as goal
use Rattle.nearest_answer.proofs.first_leaf.own_number.Goals.{In-loop-segment, then-bound_root, else-bound_root}

-- twice a power of two is at most the next ones, up to the sixteenth
twice : (b j n w : ℕ) → b ≡ 2 ^ j → j < n → n ≡ w → w ≤ 16 → (2 * b ≤ 2 ^ w) × (2 ^ w ≤ 65536)
twice b j n w is less same few =
    let next : 2 ^ (j + 1) ≤ 2 ^ w = pow-le-pow_right (omega arith) (omega (arith, less, same)) in
    let most : 2 ^ w ≤ 2 ^ 16 = pow-le-pow_right (omega arith) few in
    (omega (arith, is, pow_more 2 j, next), omega (arith, most))

-- so it is of the bit of this segment
bit_fits : (c : In-loop-segment) → (2 * c.loop-segment.bit ≤ 2 ^ c.args.view.now.layout.cuts.segments)
    × (2 ^ c.args.view.now.layout.cuts.segments ≤ 65536)
bit_fits c =
    twice c.loop-segment.bit c.loop-segment._segment c.segments-segment-end.result c.args.view.now.layout.cuts.segments
    c.loop-segment.invariant.bit c.loop-segment-test.true c.segments-segment-end.ensures.value
    c.segments-segment-end.ensures.is_view.division.few_segments

pub loop-segment-init : goal.loop-segment-init
loop-segment-init c = record { bit = refl; below = omega arith }

pub overflow_add-other : goal.overflow_add-other
overflow_add-other c =
    let fits = bit_fits c in
    record { fits = omega (arith, fits.0, fits.1, c.loop-segment.invariant.below) }

pub bound_root-requires : goal.bound_root-requires
bound_root-requires c =
    let fits = bit_fits c in
    omega (arith, fits.0, c.loop-segment.invariant.below)

pub bound_root-requires-in-loop-segment : goal.bound_root-requires-in-loop-segment
bound_root-requires-in-loop-segment c =
    let fits = twice c.loop-segment.bit c.loop-segment._segment c.segments-segment-end.result c.args.view.now.layout.cuts.segments
    c.loop-segment.invariant.bit c.loop-segment-test.true c.segments-segment-end.ensures.value
    c.segments-segment-end.ensures.is_view.division.few_segments in
    omega (arith, fits.0, c.loop-segment.invariant.below)

pub overflow_mul-bit : goal.overflow_mul-bit
overflow_mul-bit c =
    let fits = twice c.loop-segment.bit c.loop-segment._segment c.segments-segment-end.result c.args.view.now.layout.cuts.segments
    c.loop-segment.invariant.bit c.loop-segment-test.true c.segments-segment-end.ensures.value
    c.segments-segment-end.ensures.is_view.division.few_segments in
    record { fits = omega (arith, fits.0, fits.1) }

pub loop-segment-preserved : goal.loop-segment-preserved
loop-segment-preserved c = record {
  bit = ap (λ n. n * 2) c.loop-segment.invariant.bit ∙ omega (arith, pow_more 2 c.loop-segment._segment);
  below = elim c.if-bound_root.branch [
    | then-bound_root w ↦ omega (arith, w.number-is, c.loop-segment.invariant.below)
    | else-bound_root w ↦ omega (arith, w.number-is, c.loop-segment.invariant.below)
  ];
}
