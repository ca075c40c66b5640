use Rattle.std.proofs.Common.{◌≡◌, ◌+◌, ◌++◌, ◌∷◌, [], All, length, map, take, drop}
use Rattle.live_collection.proofs.object.link_each.Given as goal

-- the lists before this place have the batch behind, and a part is left for each of the others
abbrev pub invariant-loop-at : goal.invariant-loop-at
invariant-loop-at l =
    (l.lists.items ≡ map (λ w. w ++ l.fn.call.batch ∷ []) (take l.at l.fn.lists.items) ++ drop l.at l.fn.lists.items)
    × (length l.parts.items + l.at ≡ length l.fn.lists.items)
    × All (λ p. p ≡ l.fn.call.batch ∷ []) l.parts.items
