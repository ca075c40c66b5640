-- One mean more, of the next segment.
use Rattle.std.proofs.Common.{rules, ◌≡◌, ◌∙◌, ◌-◌, arith, ap, sym, subst, pos, get_or, below_more, to_z, of_z}
use Rattle.std.specs.Prelude.{FitsSigned}
use Rattle.std.specs.Int.{w16, w32}
use Rattle.std.proofs.lemmas.Int.{to_z-of_z}
use Rattle.std.proofs.lemmas.List.{length-set, get_or-set_same, get_or-set_other}
use Rattle.segment_sums.specs.Division.{cut_place, segment_length}
use Rattle.isax_word.specs.Symbol.{IsSum, mean_of}
use Rattle.isax_word.proofs.sixteen.any_means.Goals as goal

pub returns : goal.returns
returns c = λ j used. c.loop-j.invariant.each j (omega (arith, used, c.loop-j-test.false, c.segments-j-end.ensures.value))

pub loop-j-preserved : goal.loop-j-preserved
loop-j-preserved c =
    let j = c.loop-j.j in
    let sums = c.args.sums.now in
    let cuts = c.args.cuts.now in
    let means = c.loop-j.means in
    let kept : FitsSigned w16 c.mean_of.result = search rules in
    let y = to_z w16 (of_z w16 c.mean_of.result) in
    let is = c.segments-j-end.ensures.divides in
    let fits : FitsSigned w32 (get_or sums j (pos 0)) = search rules in
    let long : c.cut-from.result.1 - c.cut-from.result.0 ≡ segment_length cuts j
    = ap (λ a. c.cut-from.result.1 - a) c.cut-from.ensures.from ∙ ap (λ b. b - cut_place cuts j) c.cut-from.ensures.to in
    let value : y ≡ mean_of (segment_length cuts j) (get_or sums j (pos 0))
    = to_z-of_z w16 c.mean_of.result kept ∙ c.mean_of.ensures
    ∙ ap (λ n. mean_of n (to_z w32 (of_z w32 (get_or sums j (pos 0))))) long
    ∙ ap (mean_of (segment_length cuts j)) (to_z-of_z w32 (get_or sums j (pos 0)) fits) in
    record {
      long = length-set means j y ∙ c.loop-j.invariant.long;
      each = below_more _ _
          (λ i low. get_or-set_other means j i y (pos 0) (omega (arith, low)) ∙ c.loop-j.invariant.each i low)
          (get_or-set_same means j y (pos 0)
          (omega (arith, c.loop-j.invariant.long, c.segments-j-end.ensures.value, is.few_segments)) ∙ value);
    }

-- what is read is a sum of as many values as lie between the cut points
sum_there : (c : goal.After-mean_of-arg-1)
    → IsSum (c.cut-from.result.1 - c.cut-from.result.0) (to_z w32 (of_z w32 (get_or c.args.sums.now c.loop-j.j (pos 0))))
sum_there c =
    let j = c.loop-j.j in
    let sum = get_or c.args.sums.now j (pos 0) in
    let fits : FitsSigned w32 sum = search rules in
    let long : c.cut-from.result.1 - c.cut-from.result.0 ≡ segment_length c.args.cuts.now j
    = ap (λ a. c.cut-from.result.1 - a) c.cut-from.ensures.from
    ∙ ap (λ b. b - cut_place c.args.cuts.now j) c.cut-from.ensures.to in
    subst (λ n. IsSum n (to_z w32 (of_z w32 sum))) (sym long)
    (subst (IsSum (segment_length c.args.cuts.now j)) (sym (to_z-of_z w32 sum fits))
    (c.requires.each j (omega (arith, c.segments-j-end.ensures.value))))

pub mean_of-requires-clause-not_low : goal.mean_of-requires-clause-not_low
mean_of-requires-clause-not_low c = (sum_there c).not_low

pub mean_of-requires-clause-not_high : goal.mean_of-requires-clause-not_high
mean_of-requires-clause-not_high c = (sum_there c).not_high
