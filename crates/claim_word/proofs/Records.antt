-- Records after a step: a record that fits still fits where more is drawn, and after a step each record fits.
use Rattle.std.proofs.Common.{◌≡◌, ◌≢◌, ℕ, ◌<◌, ◌≤◌, List, ◌∷◌, [], set, All, subst, ⊎_elim, arith}
use mathlib.Core.Option.{some}
use lib.ListN.{get_elem?}
use Rattle.atomic_table.specs.Table.{State}
use Rattle.atomic_table.proofs.Lists.{at_set}
use Rattle.claim_word.specs.declared.rule.View.{View}
use Rattle.claim_word.specs.Rule.{Fits}

-- numbers below a bound are below a greater one
pub all_below : (before after : ℕ) (xs : List ℕ) → before ≤ after → All (λ x. x < before) xs
    → All (λ x. x < after) xs
all_below before after xs le h k d in_list = let here = h k d in_list in omega arith

-- a record fits where more is drawn
pub fits_more : (before after : ℕ) (v : View) → before ≤ after → Fits before v → Fits after v
fits_more before after v le h = record {
  ends = h.ends;
  idle = h.idle;
  below = h.below;
  met = let was = h.met in omega arith;
}

-- each record of a list fits
abbrev pub EachFits : ℕ → List View → Type 0
EachFits drawn views = (j : ℕ) (u : View) → get_elem? views j ≡ some u → Fits drawn u

-- where one record is changed for one that fits, each still fits
pub fits_set : (before after : ℕ) (views : List View) (id : ℕ) (w : View) → before ≤ after
    → EachFits before views → Fits after w → EachFits after (set views id w)
fits_set before after views id w le each new j u at = ⊎_elim
    (λ (x : (j ≡ id) × (w ≡ u)). subst (Fits after) x.1 new)
    (λ (x : (j ≢ id) × (get_elem? views j ≡ some u)). fits_more before after u le (each j u x.1))
    (at_set views id j w u at)

-- the table after a step on its one word
abbrev pub after : State ℕ View → ℕ → ℕ → View → State ℕ View
after s word id w = record { words = word ∷ []; homes = s.homes; views = set s.views id w }
