-- Each of the four meets the member at a place by its own limit.
use Rattle.std.proofs.Common.{◌≡◌, ◌∙◌, ◌∷◌, [], ℕ, ℤ, List, ap, refl, subst, arith}
use Rattle.row_codes.specs.Rows.{block_count}
use Rattle.search_task.specs.Questions.{Question}
use Rattle.subtree_build.specs.Means.{coded_points}
use Rattle.group_answer.proofs.Sweeps.{IsPlace, codes_for_view, far_of_several, own_within}
use Rattle.group_answer.specs.Sweeping.{AreSwept}
use Rattle.group_answer.proofs.four.Four.sweep_codes.Given as given
use Rattle.group_answer.proofs.four.Four.sweep_codes.Goals as goal
use Rattle.group_answer.proofs.four.Four.sweep_codes.Goals.{After-codes_at_place-own, then-by_a, else-by_a+else-by_b+else-by_c+else-by_d}

-- four numbers that stay
alike : (a b c d e f g h : ℕ) → e ≡ a → f ≡ b → g ≡ c → h ≡ d → (a ∷ b ∷ c ∷ d ∷ []) ≡ (e ∷ f ∷ g ∷ h ∷ [])
alike a b c d e f g h p q r s = cc

pub codes_at_place-own-requires : goal.codes_at_place-own-requires
codes_at_place-own-requires g c =
    let a = c.args.asked.now in
    let first = c.loop-i.invariant.swept.first in
    own_within g.R.Rows.collection a c.loop-i.self.a.chosen.now first.chosen c.loop-i.i (omega arith)
    c.code_blocks-blocks.result c.args.codes.now []
    (c.code_blocks-blocks.ensures.count
    ∙ ap (λ (q : Question). block_count (coded_points q.collection)) c.requires.swept.first.chosen.question)
    c.requires.codes

-- what the codes of four queries are tested by, in their order
abbrev views : (a b c d : List ℤ) → List (List ℤ)
views a b c d = a ∷ b ∷ c ∷ d ∷ []

-- the codes that are read are those of the member at the place
there : (g : given.Over) (c : After-codes_at_place-own g)
    → IsPlace g.R.Rows.collection c.args.asked.now c.loop-i.i c.code_blocks-blocks.result c.args.codes.now c.codes_at_place-own.result.now
there g c = record {
  inside = omega arith;
  blocks = c.code_blocks-blocks.ensures.count
      ∙ ap (λ (q : Question). block_count (coded_points q.collection)) c.requires.swept.first.chosen.question;
  lent = c.requires.codes;
  taken = c.codes_at_place-own.ensures;
}

pub four_within-requires-clause-a : goal.four_within-requires-clause-a
four_within-requires-clause-a g c =
    codes_for_view g.R.Rows.collection c.args.asked.now (there g (goal.at.four_within-requires-clause-a g c).After-codes_at_place-own)
    c.loop-i.self.a c.loop-i.invariant.swept.first c.args.self.now.a.chosen c.loop-i.invariant.a c.codes.result.now c.codes.ensures.codes

pub four_within-requires-clause-b : goal.four_within-requires-clause-b
four_within-requires-clause-b g c =
    codes_for_view g.R.Rows.collection c.args.asked.now (there g (goal.at.four_within-requires-clause-b g c).After-codes_at_place-own)
    c.loop-i.self.b c.loop-i.invariant.swept.second c.args.self.now.b.chosen c.loop-i.invariant.b c.codes-in-loop-i.result.now c.codes-in-loop-i.ensures.codes

pub four_within-requires-clause-c : goal.four_within-requires-clause-c
four_within-requires-clause-c g c =
    codes_for_view g.R.Rows.collection c.args.asked.now (there g (goal.at.four_within-requires-clause-c g c).After-codes_at_place-own)
    c.loop-i.self.c c.loop-i.invariant.swept.third c.args.self.now.c.chosen c.loop-i.invariant.c c.codes-in-loop-i-2.result.now c.codes-in-loop-i-2.ensures.codes

pub four_within-requires-clause-d : goal.four_within-requires-clause-d
four_within-requires-clause-d g c =
    codes_for_view g.R.Rows.collection c.args.asked.now (there g (goal.at.four_within-requires-clause-d g c).After-codes_at_place-own)
    c.loop-i.self.d c.loop-i.invariant.swept.fourth c.args.self.now.d.chosen c.loop-i.invariant.d c.codes-in-loop-i-3.result.now c.codes-in-loop-i-3.ensures.codes

pub meet-by_a-requires-clause-far : goal.meet-by_a-requires-clause-far
meet-by_a-requires-clause-far g c =
    far_of_several g.R.Rows.collection c.args.asked.now (there g (goal.at.meet-by_a-requires-clause-far g c).After-codes_at_place-own)
    c.loop-i.self.a c.loop-i.invariant.swept.first c.args.self.now.a.chosen c.loop-i.invariant.a c.codes.result.now c.codes.ensures.codes
    0 (views c.codes.result.now c.codes-in-loop-i.result.now c.codes-in-loop-i-2.result.now c.codes-in-loop-i-3.result.now)
    c.four_within.ensures c.loop-i.invariant.limits refl

pub meet-by_b-requires-clause-far : goal.meet-by_b-requires-clause-far
meet-by_b-requires-clause-far g c =
    far_of_several g.R.Rows.collection c.args.asked.now (there g (goal.at.meet-by_b-requires-clause-far g c).After-codes_at_place-own)
    c.loop-i.self.b c.loop-i.invariant.swept.second c.args.self.now.b.chosen c.loop-i.invariant.b c.codes-in-loop-i.result.now c.codes-in-loop-i.ensures.codes
    1 (views c.codes.result.now c.codes-in-loop-i.result.now c.codes-in-loop-i-2.result.now c.codes-in-loop-i-3.result.now)
    c.four_within.ensures c.loop-i.invariant.limits refl

pub meet-by_c-requires-clause-far : goal.meet-by_c-requires-clause-far
meet-by_c-requires-clause-far g c =
    far_of_several g.R.Rows.collection c.args.asked.now (there g (goal.at.meet-by_c-requires-clause-far g c).After-codes_at_place-own)
    c.loop-i.self.c c.loop-i.invariant.swept.third c.args.self.now.c.chosen c.loop-i.invariant.c c.codes-in-loop-i-2.result.now c.codes-in-loop-i-2.ensures.codes
    2 (views c.codes.result.now c.codes-in-loop-i.result.now c.codes-in-loop-i-2.result.now c.codes-in-loop-i-3.result.now)
    c.four_within.ensures c.loop-i.invariant.limits refl

pub meet-by_d-requires-clause-far : goal.meet-by_d-requires-clause-far
meet-by_d-requires-clause-far g c =
    far_of_several g.R.Rows.collection c.args.asked.now (there g (goal.at.meet-by_d-requires-clause-far g c).After-codes_at_place-own)
    c.loop-i.self.d c.loop-i.invariant.swept.fourth c.args.self.now.d.chosen c.loop-i.invariant.d c.codes-in-loop-i-3.result.now c.codes-in-loop-i-3.ensures.codes
    3 (views c.codes.result.now c.codes-in-loop-i.result.now c.codes-in-loop-i-2.result.now c.codes-in-loop-i-3.result.now)
    c.four_within.ensures c.loop-i.invariant.limits refl

pub loop-i-preserved : goal.loop-i-preserved
loop-i-preserved g c = record {
  swept = record {
    first = c.meet-by_a.ensures.swept;
    second = c.meet-by_b.ensures.swept;
    third = c.meet-by_c.ensures.swept;
    fourth = c.meet-by_d.ensures.swept;
  };
  a = c.meet-by_a.ensures.chosen ∙ c.loop-i.invariant.a;
  b = c.meet-by_b.ensures.chosen ∙ c.loop-i.invariant.b;
  c = c.meet-by_c.ensures.chosen ∙ c.loop-i.invariant.c;
  d = c.meet-by_d.ensures.chosen ∙ c.loop-i.invariant.d;
  limits = elim c.if-by_a.branch [
    | then-by_a w ↦ w.limits-is ∙ w.limits-limits-then-by_a.ensures
    | else-by_a+else-by_b+else-by_c+else-by_d w ↦ w.limits-is ∙ c.loop-i.invariant.limits
        ∙ alike c.loop-i.self.a.most c.loop-i.self.b.most c.loop-i.self.c.most c.loop-i.self.d.most _ _ _ _
        (c.meet-by_a.ensures.same w.if-by_a.false) (c.meet-by_b.ensures.same w.if-by_b.false)
        (c.meet-by_c.ensures.same w.if-by_c.false) (c.meet-by_d.ensures.same w.if-by_d.false)
  ];
}

pub returns : goal.returns
returns g c =
    let last = c.loop-i.auto.i-end c.requires.order in
    let end : c.loop-i.i ≡ c.args.to = omega arith in
    subst (λ (m : ℕ). AreSwept g.R.Rows.collection c.args.asked.now m c.loop-i.self) end c.loop-i.invariant.swept
