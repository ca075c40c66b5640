use Rattle.std.proofs.Common.{◌≡◌, List, [], ◌∷◌, ◌++◌, length, slice_index_or, inl, refl, sym, ap, ◌∙◌, subst, arith, length-append}
use Rattle.turn_lock.specs.Passes.{AreAll}
use Rattle.ground_tests.proofs.tests.queues.answers_the_same_through_a_lock.Goals as goal

-- a list without length has nothing
nothing : {A : Type 0} (xs : List A) → length xs ≡ 0 → xs ≡ []
nothing [] e = refl
nothing (x ∷ xs) e = absurd (omega arith)

pub close-requires-clause-all : goal.close-requires-clause-all
close-requires-clause-all g c =
    let lock = c.in-Ok.lock in
    let begun = c.in-Ok.ensures in
    let old = c.in-Some.pass in
    let new = c.loop-call.pass in
    let popped = c.in-Some.ensures.items in
    let one : length c.in-Ok.passes.items ≡ 1 = begun.count in
    let rest : c.pop.new.self.items ≡ [] = nothing c.pop.new.self.items
    (omega (arith, ap length popped, length-append c.pop.new.self.items (old ∷ []))) in
    let before : c.in-Ok.passes.items ≡ old ∷ [] = popped ∙ ap (λ l. l ++ old ∷ []) rest in
    let after : c.push_reserved.new.self.items ≡ new ∷ []
    = c.push_reserved.ensures.items ∙ ap (λ l. l ++ new ∷ []) rest in
    let first : old.number ≡ 0 = subst (λ l. (slice_index_or l 0 old).number ≡ 0) before
    (begun.passes 0 old (omega arith)).1 in
    subst (AreAll lock) (sym after) (λ n below.
    let only : n ≡ 0 = omega (arith, begun.callers) in
    inl (only ∙ sym (c.loop-call.invariant.1 ∙ first)))
