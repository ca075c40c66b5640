-- One more cost is looked up, that of the nearest symbol, and added; the whole bound is below 2^49.
use Rattle.std.proofs.Common.{◌≡◌, arith, ap, ◌∙◌, subst, get_or, drop}
use Rattle.std.specs.Prelude.{min, max}
use Rattle.std.proofs.lemmas.List.{drop_all}
use Rattle.isax_word.specs.Padded.{padded}
use Rattle.isax_word.specs.Word.{last_symbols}
use Rattle.lower_bound.specs.Bound.{IsView, HoldsView, parts_bound}
use Rattle.lower_bound.proofs.Nearest.{bound_next, found_at}
use Rattle.lower_bound.proofs.Views.{part_bound-lt}
use Rattle.lower_bound.proofs.view.QueryView.bound_word.Goals as goal

pub returns-clause-small : goal.returns-clause-small
returns-clause-small c =
    part_bound-lt c.args.self.now c.args.word.now _ _ (subst IsView c.self.view_is c.self.invariant.0)
    c.first_symbols.ensures.is_word.parts c.requires c.loop-j.invariant

pub returns-clause-value : goal.returns-clause-value
returns-clause-value c =
    let view = c.args.self.now in
    let word = c.args.word.now in
    let j = c.loop-j.j in
    let none : parts_bound view j (drop j word) ≡ 0
    = ap (λ ps. parts_bound view j ps)
    (drop_all j word (omega (arith, c.loop-j-test.false, c.first_symbols.ensures.is_word.few_parts))) in
    omega (arith, c.loop-j.invariant, none)

pub loop-j-preserved : goal.loop-j-preserved
loop-j-preserved c =
    let j = c.loop-j.j in
    let costs = c.self.inside.costs in
    let full = c.self.inside.full in
    let near = get_or c.nearest_symbols-nearest.result j 0 in
    let firsts = c.first_symbols.result.now in
    let lasts = c.last_symbols.result.now in
    let holds : HoldsView c.args.self.now full costs
    = subst (λ v. HoldsView v full costs) c.self.view_is c.self.invariant.1 in
    let found : near ≡ found_at c.args.word.now full j
    = c.nearest_symbols-nearest.ensures j c.loop-j-test.true
    ∙ ap (λ l. max (get_or firsts j 0) (min (get_or lasts j 0) (get_or l j 0))) c.symbols.ensures
    ∙ ap (λ l. max (get_or firsts j 0) (min (get_or l j 0) (get_or (padded 0 full) j 0))) c.last_symbols.ensures
    ∙ ap (λ l. max (get_or l j 0) (min (get_or (last_symbols c.args.word.now) j 0) (get_or (padded 0 full) j 0)))
    c.first_symbols.ensures.value in
    bound_next c.args.self.now c.args.word.now full costs j near c.loop-j.bound holds
    c.first_symbols.ensures.is_word.parts c.requires c.loop-j-test.true (omega (arith, c.loop-j-test.element_fits)) found
    c.loop-j.invariant

pub overflow_add-bound : goal.overflow_add-bound
overflow_add-bound c =
    let small = part_bound-lt c.args.self.now c.args.word.now _ _ (subst IsView c.self.view_is c.self.invariant.0)
    c.first_symbols.ensures.is_word.parts c.requires (loop-j-preserved c) in
    omega (arith, small)
