-- Each symbol is that of its segment's sum and length.
use Rattle.std.proofs.Common.{rules, ◌≡◌, pos, ◌-◌, ◌<◌, arith, ap, ◌∙◌, get_or}
use Rattle.std.specs.Prelude.{FitsSigned}
use Rattle.std.specs.Int.{w32}
use Rattle.segment_sums.specs.Division.{cut_place, segment_length}
use Rattle.segment_sums.specs.Sum.{segment_sum}
use Rattle.isax_word.specs.Symbol.{symbol_of}
use Rattle.isax_word.specs.FullWord.{segment_symbol}
use Rattle.isax_word.proofs.FullWords.{full_word_found, full_word_next, sum_bounds, sum_read}
use Rattle.isax_word.proofs.full.Full.one_by_one.Goals as goal

pub invariant_of-result : goal.invariant_of-result
invariant_of-result c =
    full_word_found c.args.layout.now c.args.row.now c.loop-j.symbols c.loop-j.j c.segments-count.result
    c.segments-count.ensures.divides c.segments-count.ensures.value
    (omega (arith, c.loop-j-test.false, c.loop-j.auto.j-end)) c.loop-j.invariant.kept c.loop-j.invariant.are

pub symbol_of_sum-requires-clause-not_low : goal.symbol_of_sum-requires-clause-not_low
symbol_of_sum-requires-clause-not_low c =
    let fits : FitsSigned w32 (get_or c.sums.new.into c.loop-j.j (pos 0)) = search rules in
    (sum_bounds c.args.layout.now.cuts c.args.row.now c.sums.new.into _ c.loop-j.j _ _ c.sums.ensures.sums c.sums.ensures.not_low
    c.sums.ensures.not_high (omega (arith, c.segments-count.ensures.value)) fits c.cut-from.ensures.from c.cut-from.ensures.to).0

pub loop-j-preserved : goal.loop-j-preserved
loop-j-preserved c =
    let j = c.loop-j.j in
    let layout = c.args.layout.now in
    let cuts = layout.cuts in
    let row = c.args.row.now in
    let used : j < cuts.segments = omega (arith, c.segments-count.ensures.value) in
    let inside : j < 16 = omega (arith, c.segments-count.ensures.divides.few_segments) in
    let fits : FitsSigned w32 (get_or c.sums.new.into j (pos 0)) = search rules in
    let long : c.cut-from.result.1 - c.cut-from.result.0 ≡ segment_length cuts j
    = ap (λ a. c.cut-from.result.1 - a) c.cut-from.ensures.from
    ∙ ap (λ b. b - cut_place cuts j) c.cut-from.ensures.to in
    let value : c.symbol_of_sum.result ≡ segment_symbol layout row j
    = c.symbol_of_sum.ensures
    ∙ ap (λ s. symbol_of layout.table (c.cut-from.result.1 - c.cut-from.result.0) s)
    (sum_read cuts row c.sums.new.into _ j c.sums.ensures.sums used fits)
    ∙ ap (λ n. symbol_of layout.table n (segment_sum cuts row j)) long in
    let next = full_word_next layout row c.loop-j.symbols j c.symbol_of_sum.result inside value
    c.loop-j.invariant.kept c.loop-j.invariant.are in
    record { kept = next.0; are = next.1 }

pub symbol_of_sum-requires-clause-not_high : goal.symbol_of_sum-requires-clause-not_high
symbol_of_sum-requires-clause-not_high c =
    let fits : FitsSigned w32 (get_or c.sums.new.into c.loop-j.j (pos 0)) = search rules in
    (sum_bounds c.args.layout.now.cuts c.args.row.now c.sums.new.into _ c.loop-j.j _ _ c.sums.ensures.sums c.sums.ensures.not_low
    c.sums.ensures.not_high (omega (arith, c.segments-count.ensures.value)) fits c.cut-from.ensures.from c.cut-from.ensures.to).1
