-- Traces of reads and offers: the rule is that a reply is never above what came before it in its own trace.
use Rattle.std.specs.Prelude.{◌≡◌, ℕ, ◌≤◌, min, List, [], ◌∷◌, All, AllPairs, ◌⊎◌}
use Rattle.best_word.specs.declared.rule.Event.{Event}
use Rattle.best_word.specs.declared.rule.Event.TheVariants.{Read, Offer}

-- what a read or an offer was answered
abbrev pub reply : Event → ℕ
reply (Read r) = r
reply (Offer v r) = r

-- n is at most what was answered, and at most what was offered
abbrev pub AtMost : ℕ → Event → Type 0
AtMost n (Read r) = n ≤ r
AtMost n (Offer v r) = (n ≤ r) × (n ≤ v)

-- a reply is at least the floor and at most the start, and an offer is at least the floor
abbrev pub InBounds : ℕ → ℕ → Event → Type 0
InBounds start floor (Read r) = (floor ≤ r) × (r ≤ start)
InBounds start floor (Offer v r) = (floor ≤ r) × (r ≤ start) × (floor ≤ v)

-- the later of two was answered at most what the earlier was answered or offered
abbrev pub Falls : Event → Event → Type 0
Falls earlier later = AtMost (reply later) earlier

-- a trace is legal where each reply and offer is in bounds, and each reply is at most each reply and offer before it
pub record IsLegal (start floor : ℕ) (trace : List Event) : Type 0 where
  pub bounds : All (InBounds start floor) trace
  pub falls : AllPairs Falls trace

-- of two offers, one was answered at most the other's value
abbrev pub Crosses : Event → Event → Type 0
Crosses (Read r) e = Unit {0}
Crosses (Offer v r) (Read q) = Unit {0}
Crosses (Offer v r) (Offer w q) = (r ≤ w) ⊎ (q ≤ v)

-- the least of n and of all offers
abbrev pub least : ℕ → List Event → ℕ
least n [] = n
least n (Read r ∷ es) = least n es
least n (Offer v r ∷ es) = min v (least n es)

-- n was offered
abbrev pub Offered : ℕ → List Event → Type 0
Offered n [] = ⊥
Offered n (Read r ∷ es) = Offered n es
Offered n (Offer v r ∷ es) = (v ≡ n) ⊎ Offered n es

-- n is the start or was offered
abbrev pub IsMet : ℕ → List Event → ℕ → Type 0
IsMet start es n = (n ≡ start) ⊎ Offered n es
