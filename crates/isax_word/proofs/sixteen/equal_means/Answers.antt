-- One mean more: each of the sixteen sums is one of L values.
use Rattle.std.proofs.Common.{rules, ◌∙◌, arith, ap, sym, subst, pos, get_or, below_more, refl, to_z, of_z}
use Rattle.std.specs.Prelude.{FitsSigned}
use Rattle.std.specs.Int.{w16, w32}
use Rattle.std.proofs.lemmas.Int.{to_z-of_z}
use Rattle.std.proofs.lemmas.List.{length-set, get_or-set_same, get_or-set_other}
use Rattle.segment_sums.proofs.Places.{equal_lengths}
use Rattle.isax_word.specs.Symbol.{IsSum, mean_of}
use Rattle.isax_word.proofs.Means.{equal_sums}
use Rattle.isax_word.proofs.sixteen.equal_means.Goals as goal

pub mean_of-requires-clause-not_low : goal.mean_of-requires-clause-not_low
mean_of-requires-clause-not_low g c =
    let j = c.loop-j.j in
    let sums = c.args.sums.now in
    let fits : FitsSigned w32 (get_or sums j (pos 0)) = search rules in
    (subst (IsSum g.row.L) (sym (to_z-of_z w32 (get_or sums j (pos 0)) fits))
    (equal_sums c.args.cuts.now sums g.row.L j c.segments-segments.ensures.divides c.requires.sums c.requires.equal
    c.loop-j-test.true)).not_low

pub mean_of-requires-clause-not_high : goal.mean_of-requires-clause-not_high
mean_of-requires-clause-not_high g c =
    let j = c.loop-j.j in
    let sums = c.args.sums.now in
    let fits : FitsSigned w32 (get_or sums j (pos 0)) = search rules in
    (subst (IsSum g.row.L) (sym (to_z-of_z w32 (get_or sums j (pos 0)) fits))
    (equal_sums c.args.cuts.now sums g.row.L j c.segments-segments.ensures.divides c.requires.sums c.requires.equal
    c.loop-j-test.true)).not_high

pub loop-j-preserved : goal.loop-j-preserved
loop-j-preserved g c =
    let j = c.loop-j.j in
    let sums = c.args.sums.now in
    let means = c.loop-j.means in
    let fits : FitsSigned w32 (get_or sums j (pos 0)) = search rules in
    let kept : FitsSigned w16 c.mean_of.result = search rules in
    let value = to_z-of_z w16 c.mean_of.result kept ∙ c.mean_of.ensures ∙ ap (mean_of g.row.L) (to_z-of_z w32 (get_or sums j (pos 0)) fits) in
    let y = to_z w16 (of_z w16 c.mean_of.result) in
    record {
      long = length-set means j y ∙ c.loop-j.invariant.long;
      each = below_more _ _
          (λ i low. get_or-set_other means j i y (pos 0) (omega (arith, low)) ∙ c.loop-j.invariant.each i low)
          (get_or-set_same means j y (pos 0) (omega (arith, c.loop-j.invariant.long)) ∙ value);
    }

pub returns : goal.returns
returns g c = λ j used.
    let d = c.args.cuts.now in
    let is = c.segments-segments.ensures.divides in
    c.loop-j.invariant.each j (omega (arith, used, is.few_segments, c.loop-j-test.false))
    ∙ ap (λ n. mean_of n (get_or c.args.sums.now j (pos 0)))
    (sym (equal_lengths d d.segments g.row.L j is.some_segments refl c.requires.equal))
