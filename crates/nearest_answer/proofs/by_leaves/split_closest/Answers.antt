-- The closest with the next, and the others, are all entries.
use Rattle.std.proofs.Common.{rules, ◌≡◌, ◌++◌, ◌∷◌, [], List, ap, sym, subst, ◌∙◌, append_assoc, IsPermutation}
use Rattle.std.proofs.lemmas.List.Sorted.{IsPermutation-trans, IsPermutation-append_left}
use Rattle.series_core.specs.declared.queue_words.Entry.{Entry}
use Rattle.nearest_answer.proofs.by_leaves.split_closest.Goals as goal

pub returns : goal.returns
returns c =
    let p = c.select_nth_unstable_by_key-closest.result in
    let copied : c.in_ok-first.first.items ≡ p.0.now = search rules in
    let first : c.push.new.self.items ≡ p.0.now ++ p.1.now ∷ []
    = c.in_ok-push.ensures.items ∙ ap (λ (es : List Entry). es ++ p.1.now ∷ []) copied in
    let parts : p.0.now ++ p.1.now ∷ p.2.now ≡ c.push.new.self.items ++ p.2.now
    = sym (append_assoc p.0.now (p.1.now ∷ []) p.2.now) ∙ ap (λ (es : List Entry). es ++ p.2.now) (sym first) in
    IsPermutation-trans c.args.entries.now (c.push.new.self.items ++ p.2.now) (c.ordered-2.result.items ++ p.2.now)
    (subst (IsPermutation c.args.entries.now) parts c.select_nth_unstable_by_key-closest.ensures.permutation)
    (IsPermutation-append_left p.2.now c.push.new.self.items c.ordered-2.result.items c.ordered-2.ensures)
