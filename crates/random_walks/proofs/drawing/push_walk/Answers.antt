use Rattle.std.proofs.Common.{◌≡◌, ◌≤ℤ◌, ◌∙◌, ◌++◌, ◌∷◌, [], sym, ap, subst, pos, neg_ℤ, to_z, of_z, w16, rules}
use Rattle.std.specs.Prelude.{FitsSigned}
use Rattle.std.proofs.lemmas.Int.{to_z-of_z}
use Rattle.random_walks.specs.Walks.{stepped, value_at}
use Rattle.random_walks.proofs.Walked.{state_next, value_next, values_next}
use Rattle.random_walks.proofs.drawing.push_walk.Goals as goal

pub loop-i-preserved : goal.loop-i-preserved
loop-i-preserved c =
    let before = c.loop-i.invariant in
    let x = c.args.rng.now in
    let i = c.loop-i._i in
    let fits : FitsSigned w16 c.step-value.result = search rules in
    let same : to_z w16 (of_z w16 c.step-value.result) ≡ c.step-value.result =
    to_z-of_z w16 c.step-value.result fits in
    let here = value_next x i c.loop-i.rng c.next_word.new.self c.next_word.result (to_z w16 c.loop-i.value-bits)
    c.step-value.result before.state c.next_word.ensures before.value c.step-value.ensures.value in
    record {
      state = state_next x i c.loop-i.rng c.next_word.new.self c.next_word.result before.state c.next_word.ensures;
      value = same ∙ here;
      not_low = subst (λ v. neg_ℤ (pos 30000) ≤ℤ v) (sym same) c.step-value.ensures.not_low;
      not_high = subst (λ v. v ≤ℤ pos 30000) (sym same) c.step-value.ensures.not_high;
      values = values_next x i c.args.values.now.items c.loop-i.values.items c.push.new.self.items
          (to_z w16 (of_z w16 c.step-value.result)) (same ∙ here) before.values c.in_ok-push.ensures.items;
    }
