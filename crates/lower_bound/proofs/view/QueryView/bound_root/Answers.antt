-- The bounds of the two halves are looked up and added; the whole bound is below 2^49.
use Rattle.std.proofs.Common.{◌≡◌, ◌-◌, ◌*◌, ◌/◌, ◌%◌, ◌^◌, arith, ap, ◌∙◌, subst, get_or}
use Rattle.std.proofs.lemmas.Nat.{one_shl}
use Rattle.isax_word.specs.Word.{one_bit_word}
use Rattle.isax_word.proofs.Roots.{length-one_bit_word, one_bit_word_parts}
use Rattle.lower_bound.specs.Bound.{View, IsView}
use Rattle.lower_bound.specs.Halves.{HoldsHalves, low_segments}
use Rattle.lower_bound.proofs.HalfBounds.{bound_of_halves}
use Rattle.lower_bound.proofs.Views.{word_bound-lt}
use Rattle.lower_bound.proofs.view.QueryView.bound_root.Goals as goal

pub returns-clause-value : goal.returns-clause-value
returns-clause-value c =
    let view = c.args.self.now in
    let high = c.self.inside.high in
    let low = c.self.inside.low in
    let root = c.args.root in
    let w = view.layout.cuts.segments in
    let l = low_segments w in
    let count = c.segments-segments.result - c.saturating_sub.result in
    let used : c.segments-segments.result ≡ w = c.segments-segments.ensures.value
    ∙ ap (λ (v : View). v.layout.cuts.segments) c.self.view_is in
    let is_count : count ≡ w - (w - 8) = omega (arith, used, c.saturating_sub.ensures) in
    let place : 1 * 2 ^ count % 4294967296 ≡ 2 ^ l
    = one_shl count 32
    (omega (arith, c.segments-segments.ensures.value, c.segments-segments.ensures.divides.few_segments))
    ∙ ap (λ k. 2 ^ k) is_count in
    let holds : HoldsHalves view high low
    = subst (λ v. HoldsHalves v high low) c.self.view_is c.self.invariant.2 in
    let in_high : get_or high (root / 2 ^ count) 0 ≡ get_or high (root / 2 ^ l) 0
    = ap (λ k. get_or high (root / 2 ^ k) 0) is_count in
    let in_low : get_or low (root % (1 * 2 ^ count % 4294967296)) 0 ≡ get_or low (root % 2 ^ l) 0
    = ap (λ m. get_or low (root % m) 0) place in
    omega (arith, in_high, in_low, bound_of_halves view high low root holds c.requires)

pub returns-clause-small : goal.returns-clause-small
returns-clause-small c =
    let view = c.args.self.now in
    let root = c.args.root in
    let w = view.layout.cuts.segments in
    let is : IsView view = subst IsView c.self.view_is c.self.invariant.0 in
    omega (
      arith,
      returns-clause-value c,
      word_bound-lt view (one_bit_word root w) is (one_bit_word_parts root w c.requires)
          (length-one_bit_word root w),
    )

pub overflow_add-result : goal.overflow_add-result
overflow_add-result c = omega (arith, returns-clause-small c)
