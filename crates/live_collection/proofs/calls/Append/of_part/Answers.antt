-- Each part that is made is one of the batch.
use Rattle.std.proofs.Common.{rules, ◌≡◌, ◌∷◌, []}
use Rattle.live_collection.proofs.Growing.{all_more}
use Rattle.live_collection.proofs.calls.Append.of_part.Goals as goal

pub loop-preserved : goal.loop-preserved
loop-preserved c = (
  all_more (λ p. p ≡ c.args.own ∷ []) c.loop.parts.items c.push_reserved.new.self.items c.in_ok-alone.field-0
      c.push_reserved.ensures.items c.loop.invariant.0 (search rules),
  search rules,
  search rules,
)
