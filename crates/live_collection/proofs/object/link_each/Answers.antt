use Rattle.std.proofs.Common.{rules, ◌≡◌, ◌<◌, ◌∷◌, [], All, length, subst}
use Rattle.live_collection.proofs.Growing.{linked, all_last}
use Rattle.live_collection.proofs.object.link_each.Goals as goal

pub loop-at-preserved : goal.loop-at-preserved
loop-at-preserved c =
    let b = c.args.call.batch in
    let inv = c.loop-at.invariant in
    let last = all_last (λ p. p ≡ b ∷ []) c.pop.new.self.items c.in-Some.part
    (subst (All (λ p. p ≡ b ∷ [])) c.in-Some.ensures.items inv.2) in
    let inside : c.loop-at.at < length c.args.lists.now.items = search rules in (
      linked b c.args.lists.now.items c.loop-at.lists.items c.loop-at.at c.index_mut.result.now c.in-Some.part
          c.link.new.list inside inv.0 c.index_mut.ensures.value last.0 c.link.ensures,
      search rules,
      last.1,
    )
