-- Each symbol is that of its segment's sum and length.
use Rattle.std.proofs.Common.{◌≡◌, pos, ◌-◌, ◌<◌, ◌≤◌, arith, ap, sym, ◌∙◌, get_or}
use Rattle.segment_sums.specs.Division.{segment_length}
use Rattle.segment_sums.specs.Sum.{segment_sum}
use Rattle.segment_sums.proofs.Sums.{segment_sums_at}
use Rattle.breakpoints.specs.declared.table.Table.TheVariants.{Bent}
use Rattle.isax_word.specs.Symbol.{mean_of, symbol_of}
use Rattle.isax_word.specs.FullWord.{segment_symbol}
use Rattle.isax_word.proofs.FullWords.{full_word_found, full_word_next}
use Rattle.isax_word.proofs.Symbols.{symbol-le}
use Rattle.isax_word.proofs.Means.{are_sums, some_values, symbol_of_mean}
use Rattle.isax_word.proofs.full.Full.side_by_side.Goals as goal

pub overflow_cast-symbols-in-loop-j : goal.overflow_cast-symbols-in-loop-j
overflow_cast-symbols-in-loop-j c =
    let j = c.loop-j.j in
    let inside : j < 16 = omega (arith, c.segments-count.ensures.divides.few_segments, c.segments-count.ensures.value) in
    let is = c.bent_symbols-found.ensures j inside in
    let small = symbol-le Bent 1 (get_or c.means_of.result j (pos 0)) in
    record { fits = omega (arith, is, small) }

pub means_of-requires : goal.means_of-requires
means_of-requires c =
    are_sums c.args.layout.now.cuts c.args.row.now c.sums.new.into c.segments-count.ensures.divides c.sums.ensures.sums
    c.sums.ensures.not_low c.sums.ensures.not_high

pub loop-j-preserved : goal.loop-j-preserved
loop-j-preserved c =
    let layout = c.args.layout.now in
    let cuts = layout.cuts in
    let row = c.args.row.now in
    let j = c.loop-j.j in
    let sums = c.sums.new.into in
    let used : j < cuts.segments = omega (arith, c.segments-count.ensures.value) in
    let inside : j < 16 = omega (arith, c.segments-count.ensures.divides.few_segments) in
    let y = get_or c.bent_symbols-found.result j 0 in
    let sum : get_or sums j (pos 0) ≡ segment_sum cuts row j
    = segment_sums_at cuts row sums (16 - cuts.segments) j c.sums.ensures.sums used in
    let some : 1 ≤ segment_length cuts j = some_values cuts j c.segments-count.ensures.divides in
    let value : y ≡ segment_symbol layout row j
    = c.bent_symbols-found.ensures j inside
    ∙ ap (symbol_of Bent 1) (c.means_of.ensures j used ∙ ap (mean_of (segment_length cuts j)) sum)
    ∙ symbol_of_mean Bent (segment_length cuts j) (segment_sum cuts row j) some (c.sums.ensures.not_low j used)
    ∙ ap (λ t. symbol_of t (segment_length cuts j) (segment_sum cuts row j)) (sym c.requires.bent) in
    let next = full_word_next layout row c.loop-j.symbols j y inside value c.loop-j.invariant.kept
    c.loop-j.invariant.are in
    record { kept = next.0; are = next.1 }

pub invariant_of-result : goal.invariant_of-result
invariant_of-result c =
    full_word_found c.args.layout.now c.args.row.now c.loop-j.symbols c.loop-j.j c.segments-count.result
    c.segments-count.ensures.divides c.segments-count.ensures.value
    (omega (arith, c.loop-j-test.false, c.loop-j.auto.j-end)) c.loop-j.invariant.kept c.loop-j.invariant.are
