-- The costs of each segment are those of its length and sum.
use Rattle.std.proofs.Common.{rules, ◌≡◌, ◌≢◌, pos, ◌-◌, ◌<◌, [], arith, ap, sym, ◌∙◌, subst, get_or, length, below_more, get_or-set_other, get_or-set_same}
use Rattle.std.specs.Prelude.{FitsSigned}
use Rattle.std.specs.Int.{w32}
use Rattle.std.proofs.lemmas.List.{length-set}
use Rattle.segment_sums.specs.Division.{cut_place, segment_length}
use Rattle.segment_sums.specs.Sum.{segment_sum}
use Rattle.isax_word.proofs.FullWords.{sum_bounds, sum_read}
use Rattle.lower_bound.specs.Gap.{HoldsCosts}
use Rattle.lower_bound.specs.Bound.{IsView, HoldsView, view_of}
use Rattle.lower_bound.specs.Halves.{view_with, high_segments, HoldsBounds}
use Rattle.lower_bound.proofs.Views.{HoldsView-view_of}
use Rattle.lower_bound.proofs.HalfBounds.{view_of_sums, IsView-of_sums}
use Rattle.lower_bound.proofs.view.QueryView.new.Goals as goal

pub write_costs-requires : goal.write_costs-requires
write_costs-requires c =
    let fits : FitsSigned w32 (get_or c.sums.new.into c.loop-j.j (pos 0)) = search rules in
    let bounds = sum_bounds c.args.layout.now.cuts c.args.query.now c.sums.new.into _ c.loop-j.j _ _ c.sums.ensures.sums
    c.sums.ensures.not_low c.sums.ensures.not_high (omega (arith, c.segments-j-end.ensures.value)) fits
    c.cut-from.ensures.from c.cut-from.ensures.to in
    record {
      some_values = omega (arith, c.cut-from.ensures.not_empty);
      few_values = omega (arith, c.cut-from.ensures.inside, c.segments-j-end.ensures.divides.short_row);
      not_low = bounds.0;
      not_high = bounds.1;
    }

pub loop-j-preserved : goal.loop-j-preserved
loop-j-preserved c =
    let costs = c.loop-j.costs in
    let made = c.write_costs.new.costs in
    let layout = c.args.layout.now in
    let cuts = layout.cuts in
    let query = c.args.query.now in
    let j = c.loop-j.j in
    let used : j < cuts.segments = omega (arith, c.segments-j-end.ensures.value) in
    let inside : j < length costs =
    omega (
      arith,
      c.loop-j.invariant.whole,
      used,
      c.segments-j-end.ensures.divides.few_segments,
    ) in
    let fits : FitsSigned w32 (get_or c.sums.new.into j (pos 0)) = search rules in
    let sum = sum_read cuts query c.sums.new.into _ j c.sums.ensures.sums used fits in
    let long : c.cut-from.result.1 - c.cut-from.result.0 ≡ segment_length cuts j
    = ap (λ a. c.cut-from.result.1 - a) c.cut-from.ensures.from
    ∙ ap (λ b. b - cut_place cuts j) c.cut-from.ensures.to in
    let here : HoldsCosts layout.table (segment_length cuts j) (segment_sum cuts query j) made
    = subst (λ n. HoldsCosts layout.table n (segment_sum cuts query j) made) long
    (subst (λ s. HoldsCosts layout.table (c.cut-from.result.1 - c.cut-from.result.0) s made) sum
    c.write_costs.ensures) in
    record {
      whole = length-set costs j made ∙ c.loop-j.invariant.whole;
      each = below_more _ _
          (λ k before. let other : k ≢ j = omega arith in
          subst (HoldsCosts layout.table (segment_length cuts k) (segment_sum cuts query k))
          (sym (get_or-set_other costs j k made [] other)) (c.loop-j.invariant.each k before))
          (subst (HoldsCosts layout.table (segment_length cuts j) (segment_sum cuts query j))
          (sym (get_or-set_same costs j made [] inside)) here);
      behind = λ k after few. let other : k ≢ j = omega (arith, after) in
          get_or-set_other costs j k made [] other ∙ c.loop-j.invariant.behind k (omega (arith, after)) few;
    }

pub bounds_of_bits-high-requires-clause-is_view : goal.bounds_of_bits-high-requires-clause-is_view
bounds_of_bits-high-requires-clause-is_view c =
    IsView-of_sums c.args.layout.now c.args.query.now c.sums.new.into _ c.segments-j-end.ensures.divides
    c.sums.ensures.sums c.sums.ensures.not_low c.sums.ensures.not_high

pub bounds_of_bits-low-requires-clause-is_view : goal.bounds_of_bits-low-requires-clause-is_view
bounds_of_bits-low-requires-clause-is_view c =
    IsView-of_sums c.args.layout.now c.args.query.now c.sums.new.into _ c.segments-j-end.ensures.divides
    c.sums.ensures.sums c.sums.ensures.not_low c.sums.ensures.not_high

pub invariant_of-result : goal.invariant_of-result
invariant_of-result c =
    let layout = c.args.layout.now in
    let query = c.args.query.now in
    let w = layout.cuts.segments in
    let costs = c.loop-j.costs in
    let end : c.loop-j.j ≡ w
    = omega (arith, c.segments-j-end.ensures.value, c.loop-j-test.false, c.loop-j.auto.j-end) in
    let same : view_with layout c.sums.new.into ≡ view_of layout query
    = view_of_sums layout query c.sums.new.into _ c.sums.ensures.sums in
    let is : IsView (view_with layout c.sums.new.into)
    = IsView-of_sums layout query c.sums.new.into _ c.segments-j-end.ensures.divides
    c.sums.ensures.sums c.sums.ensures.not_low c.sums.ensures.not_high in
    let holds = HoldsView-view_of layout query costs
    (λ k used. c.loop-j.invariant.each k
    (omega (arith, used, c.segments-j-end.ensures.value, c.loop-j-test.false)))
    (λ k past few. c.loop-j.invariant.behind k (omega (arith, past, end)) few) in
    let high : c.saturating_sub-high_segments.result ≡ w - 8
    = omega (arith, c.segments-segments.ensures.value, c.saturating_sub-high_segments.ensures) in
    let low : c.segments-segments.result - c.saturating_sub-high_segments.result ≡ w - (w - 8)
    = omega (arith, c.segments-segments.ensures.value, c.saturating_sub-high_segments.ensures) in
    let view = view_with layout c.sums.new.into in (
      is,
      subst (λ v. HoldsView v c.of-full.result costs) (sym same)
          (subst (λ f. HoldsView (view_of layout query) f costs) (sym c.of-full.ensures) holds),
      record {
        in_high = subst (λ n. HoldsBounds view 0 n c.bounds_of_bits-high.result) high
            c.bounds_of_bits-high.ensures;
        in_low = subst (λ n. HoldsBounds view (high_segments w) n c.bounds_of_bits-low.result) low
            (subst (λ k. HoldsBounds view k (c.segments-segments.result - c.saturating_sub-high_segments.result)
            c.bounds_of_bits-low.result) high c.bounds_of_bits-low.ensures);
      },
    )
