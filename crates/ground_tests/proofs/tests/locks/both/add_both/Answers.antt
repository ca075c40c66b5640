use Rattle.std.proofs.Common.{◌≡◌, ℕ, ◌<◌, ◌⊎◌, Option, Some, None, inl, inr, ⊎_elim, sym, ap, ◌∙◌, subst, length, map, [], ◌∷◌, ◌++◌, nat_lt, arith, List}
use Rattle.std.specs.Prelude.{All, slice_index_or, if◌then◌else◌}
use Rattle.std.proofs.lemmas.List.Elements.{All-head, All-tail}
use Rattle.list_totals.specs.Standing.{In}
use Rattle.turn_lock.specs.declared.object.Entry.{Entry}
use Rattle.turn_lock.specs.Passes.{AgreesWith}
use Rattle.turn_lock.specs.History.{entry, calls_by, state_after}
use Rattle.ground_tests.proofs.TwoCallers.{OfTwo, of_two, two_orders, two_back, both_numbered}
use Rattle.ground_tests.proofs.tests.locks.both.add_both.Goals as goal

-- the meaning of a call on notes
abbrev added : List ℕ → ℕ → ℕ → List ℕ × Option ℕ
added s caller x = if nat_lt (length s) 400 then (s ++ x ∷ [], Some (length s)) else (s, None)

-- a history of two notes leads to both, in one order or the other
led_to : (log : List (Entry ℕ (Option ℕ))) (a b : ℕ) (r t : Option ℕ) (s n : List ℕ) → OfTwo log
    → calls_by 0 log ≡ entry 0 a r ∷ [] → calls_by 1 log ≡ entry 1 b t ∷ []
    → s ≡ [] → n ≡ state_after added s log → (n ≡ a ∷ b ∷ []) ⊎ (n ≡ b ∷ a ∷ [])
led_to log a b r t s n two p q none-yet leads =
    let from-none = leads ∙ ap (λ z. state_after added z log) none-yet in
    ⊎_elim (λ (e : log ≡ entry 0 a r ∷ entry 1 b t ∷ []). inl (from-none ∙ ap (state_after added []) e))
    (λ (e : log ≡ entry 1 b t ∷ entry 0 a r ∷ []). inr (from-none ∙ ap (state_after added []) e))
    (two_orders log (entry 0 a r) (entry 1 b t) two p q)

pub close-requires-clause-all : goal.close-requires-clause-all
close-requires-clause-all g c =
    let begun = c.in-Ok.ensures in
    let one = c.in-Some-pop.one in
    let two = c.in-Some.two in
    let long : length c.in-Ok.passes.items ≡ 2 = begun.count in
    let t = two_back c.in-Ok.passes.items c.pop.new.self.items c.pop-2.new.self.items
    c.push_reserved.new.self.items c.push_reserved-2.new.self.items one two
    c.meet.new.from c.meet.new.into c.in-Some.ensures.items c.in-Some-pop.ensures.items long
    c.push_reserved.ensures.items c.push_reserved-2.ensures.items in
    let numbers = of_two (λ p. p.number) _ one two 0 1 t.0 (begun.passes 0 one (omega arith)).1
    (begun.passes 1 two (omega arith)).1 in
    let from_first = c.meet.ensures.from.1.0 ∙ (c.join-one.ensures.first.1 ∙ numbers.0) in
    let into_second = c.meet.ensures.into.1 ∙ (c.join-one.ensures.second.1 ∙ numbers.1) in
    λ n below. subst (λ vs. In n (map (λ p. p.number) vs)) (sym t.1)
    (both_numbered c.meet.new.from.number c.meet.new.into.number n from_first into_second
    (subst (λ (z : ℕ). n < z) begun.callers below))

pub returns : goal.returns
returns g c =
    let begun = c.in-Ok.ensures in
    let one = c.in-Some-pop.one in
    let two = c.in-Some.two in
    let from = c.meet.new.from in
    let into = c.meet.new.into in
    let long : length c.in-Ok.passes.items ≡ 2 = begun.count in
    let t = two_back c.in-Ok.passes.items c.pop.new.self.items c.pop-2.new.self.items
    c.push_reserved.new.self.items c.push_reserved-2.new.self.items one two
    from into c.in-Some.ensures.items c.in-Some-pop.ensures.items long
    c.push_reserved.ensures.items c.push_reserved-2.ensures.items in
    let numbers = of_two (λ p. p.number) _ one two 0 1 t.0 (begun.passes 0 one (omega arith)).1
    (begun.passes 1 two (omega arith)).1 in
    let from_first = c.meet.ensures.from.1.0 ∙ (c.join-one.ensures.first.1 ∙ numbers.0) in
    let into_second = c.meet.ensures.into.1 ∙ (c.join-one.ensures.second.1 ∙ numbers.1) in
    let log = c.close.ensures.log in
    let agree = subst (All (AgreesWith log)) t.1 c.close.ensures.passes in
    let from_agrees = All-head (AgreesWith log) from (into ∷ []) agree in
    let into_agrees = All-head (AgreesWith log) into []
    (All-tail (AgreesWith log) from (into ∷ []) agree) in
    led_to log c.args.a c.args.b c.join-one.result.0.1 c.join-one.result.1.1 _ c.close.result
    (subst (λ (z : ℕ). All (λ e. e.caller < z) log) begun.callers c.close.ensures.callers_only)
    (ap (λ n. calls_by n log) (sym from_first) ∙ (from_agrees.1 ∙ (c.meet.ensures.from.1.1
    ∙ (c.join-one.ensures.first.2 ∙ ap (λ n. entry n c.args.a c.join-one.result.0.1 ∷ []) numbers.0))))
    (ap (λ n. calls_by n log) (sym into_second) ∙ (into_agrees.1 ∙ (c.meet.ensures.made
    ∙ (c.join-one.ensures.second.2 ∙ ap (λ n. entry n c.args.b c.join-one.result.1.1 ∷ []) numbers.1))))
    (begun.opening ∙ c.requires) c.close.ensures.leads
