-- The parts of an outcome: first places, fates by leaf, lines by queue.
use Rattle.std.proofs.Common.{List, None, Option, Some, [], ap, arith, false, length, ltb, map, refl, subst, suc, true, zero, ℕ, ◌+◌, ◌<◌, ◌∙◌, ◌∷◌, ◌≡◌, ◌≢◌, ◌≤◌}
use Rattle.std.proofs.lemmas.Bool.{cond_both, eqb-false, eqb-true, ltb-false, ltb-true}
use Rattle.std.proofs.lemmas.Option.{none-some, same_Some}
use Rattle.std.specs.Option.{option_map}
use Rattle.std.specs.Prelude.{slice_get}
use Rattle.list_totals.specs.Totals.{total}
use Rattle.leaf_queues.specs.PlainQueue.{PlainQueue}
use Rattle.search_machine.specs.declared.outcome.Fate.{Fate}
use Rattle.search_machine.specs.declared.outcome.QueueLine.{QueueLine}
use Rattle.search_machine.specs.Ground.{Ground}
use Rattle.search_machine.specs.Machine.{State}
use Rattle.search_machine.specs.Outcome.{fate, fates_from, first_place, is_start, line_of}
use Rattle.search_machine.proofs.Places.{get_map}

-- f is not 0 at this place
pub record FirstPlace {X : Type 0} (f : X → ℕ) (xs : List X) (i : ℕ) : Type 0 where
  pub item : X
  pub at : slice_get xs i ≡ Some item
  pub some : 0 < f item

module _ {X : Type 0} (f : X → ℕ) where
  -- what a first place says: f is not 0 there, and with none it is 0 at each
  abbrev Found : List X → Option ℕ → Type 0
  Found xs None = total f xs ≡ 0
  Found xs (Some i) = FirstPlace f xs i

  -- behind an item at which f is 0
  later : (x : X) (xs : List X) → f x ≤ 0 → (o : Option ℕ) → Found xs o
      → Found (x ∷ xs) (option_map (λ n. suc n) o)
  later x xs none None h = omega arith
  later x xs none (Some i) h = record { item = h.item; at = h.at; some = h.some }

  -- the first place is one
  found : (xs : List X) → Found xs (first_place f xs)
  found [] = refl
  found (x ∷ xs) =
      let rest : Found xs (first_place f xs) = found xs in
      cond_both (ltb 0 (f x)) (Some 0) (option_map (λ n. suc n) (first_place f xs)) (Found (x ∷ xs))
      (λ e. record { item = x; at = refl; some = ltb-true 0 (f x) e })
      (λ e. later x xs (ltb-false 0 (f x) e) (first_place f xs) rest)

  -- with no first place f has no total
  pub found_none : (xs : List X) → first_place f xs ≡ None → total f xs ≡ 0
  found_none xs e = subst (Found xs) e (found xs)

  -- at a first place f is not 0
  pub found_some : (xs : List X) (i : ℕ) → first_place f xs ≡ Some i → FirstPlace f xs i
  found_some xs i e = subst (Found xs) e (found xs)

-- a leaf that tests so is the start leaf
pub start_true : (o : Option ℕ) (l : ℕ) → is_start o l ≡ true → o ≡ Some l
start_true None l h = absurd (cc)
start_true (Some m) l h = ap (λ (n : ℕ). Some n) (eqb-true m l h)

-- and one that does not is another
pub start_false : (o : Option ℕ) (l : ℕ) → is_start o l ≡ false → o ≢ Some l
start_false None l h e = none-some l e
start_false (Some m) l h e = eqb-false m l h (same_Some m l e)

-- the fates of n leaves are n
pub length_fates : (g : Ground) (s : State) (l n : ℕ) → length (fates_from g s l n) ≡ n
length_fates g s l zero = refl
length_fates g s l (suc n) = let a = length_fates g s (suc l) n in omega arith

-- a fate of the list is that of its leaf
pub get_fates : (g : Ground) (s : State) (l n i : ℕ) (f : Fate)
    → slice_get (fates_from g s l n) i ≡ Some f → (i < n) × (fate g s (i + l) ≡ f)
get_fates g s l zero i f e = absurd (none-some f e)
get_fates g s l (suc n) zero f e = let same : 0 + l ≡ l = omega arith in
    (omega arith, ap (fate g s) same ∙ same_Some (fate g s l) f e)
get_fates g s l (suc n) (suc i) f e =
    let r = get_fates g s (suc l) n i f e in
    let same : suc i + l ≡ i + suc l = omega arith in
    (omega arith, ap (fate g s) same ∙ r.1)

-- a line is that of its queue
pub line_at : (qs : List PlainQueue) (m : ℕ) (line : QueueLine)
    → slice_get (map line_of qs) m ≡ Some line
    → (q : PlainQueue) × (slice_get qs m ≡ Some q) × (line_of q ≡ line)
line_at qs m line e = get_map line_of qs m line e
