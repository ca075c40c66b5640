-- One more cost is looked up and added, and the whole bound is below 2^49.
use Rattle.std.proofs.Common.{◌≡◌, ◌+◌, ◌<◌, [], arith, ap, ◌∙◌, subst, get_or, drop, length}
use Rattle.std.proofs.lemmas.List.{length-map}
use Rattle.std.proofs.lemmas.Option.{get_or_from_slice_get}
use Rattle.lower_bound.specs.Gap.{symbol_cost}
use Rattle.lower_bound.specs.Bound.{IsView, HoldsView, sum_at, length_at, parts_bound, word_bound, eight_bit_word}
use Rattle.lower_bound.proofs.Views.{parts_bound-drop_full, part_bound-lt, eight_bit_word_parts}
use Rattle.lower_bound.proofs.view.QueryView.bound_full.Goals as goal

pub returns-clause-small : goal.returns-clause-small
returns-clause-small c =
    part_bound-lt c.args.self.now (eight_bit_word c.args.full.now) _ _
    (subst IsView c.self.view_is c.self.invariant.0)
    (eight_bit_word_parts c.args.full.now c.segments-j-end.ensures.is_full_word.eight_bits)
    (length-map c.args.full.now _ ∙ c.requires) c.loop-j.invariant

pub loop-j-preserved : goal.loop-j-preserved
loop-j-preserved c =
    let costs = c.self.inside.costs in
    let view = c.args.self.now in
    let full = c.args.full.now in
    let j = c.loop-j.j in
    let used : j < length full = omega (arith, c.segments-j-end.ensures.value) in
    let holds : HoldsView view c.self.inside.full costs
    = subst (λ v. HoldsView v c.self.inside.full costs) c.self.view_is c.self.invariant.1 in
    let read : get_or (get_or costs j []) c.symbol.result 0
    ≡ symbol_cost view.layout.table (length_at view j) (sum_at view j) c.symbol.result
    = (holds.costs_of j (omega (arith, used, c.requires))).each c.symbol.result c.symbol.type_inv in
    let symbol = ap (symbol_cost view.layout.table (length_at view j) (sum_at view j))
    (get_or_from_slice_get full j c.symbol.result 0 c.symbol.ensures) in
    let next : c.loop-j.bound + get_or (get_or costs j []) c.symbol.result 0
    + parts_bound view (j + 1) (eight_bit_word (drop (j + 1) full))
    ≡ word_bound view (eight_bit_word full)
    = omega (arith, c.loop-j.invariant, parts_bound-drop_full view full j used, read, symbol) in
    next

pub overflow_add-bound : goal.overflow_add-bound
overflow_add-bound c =
    let small = part_bound-lt c.args.self.now (eight_bit_word c.args.full.now) _ _
    (subst IsView c.self.view_is c.self.invariant.0)
    (eight_bit_word_parts c.args.full.now c.segments-j-end.ensures.is_full_word.eight_bits)
    (length-map c.args.full.now _ ∙ c.requires) (loop-j-preserved c) in
    omega (arith, small)
