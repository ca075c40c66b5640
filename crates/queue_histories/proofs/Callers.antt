-- The sum over a history is the sum over its callers (`by_callers`), and over a team whose members account for their
-- own calls (`by_team`).
use Rattle.std.proofs.Common.{◌≡◌, ◌⊎◌, ℕ, zero, suc, ◌+◌, ◌<◌, ◌≤◌, ◌==◌, Bool, true, false, List, [], ◌∷◌, All, Some, ⊎_elim, cond, length, sym, refl, ◌∙◌, arith}
use Rattle.std.proofs.lemmas.Bool.Decides.{nat_tests}
use Rattle.std.specs.Prelude.{slice_get}
use Rattle.list_totals.specs.Below.{sum_below}
use Rattle.list_totals.specs.Totals.{total}
use Rattle.list_totals.proofs.Below.{sum_below_both, sum_below_none, sum_below_same}
use Rattle.turn_lock.specs.declared.object.Entry.{Entry as Made}
use Rattle.turn_lock.specs.History.{calls_by}

-- what counts a only at the number c
abbrev only : ℕ → ℕ → ℕ → ℕ
only c a i = cond (c == i) a 0

-- a number is that number, or another
this_or_other : (c i a : ℕ)
    → ((c ≡ i) × (only c a i ≡ a)) ⊎ (((c < i) ⊎ (i < c)) × (only c a i ≡ 0))
this_or_other c i a = grind (arith, nat_tests)

-- up to that number there is nothing
sum_only_none : (n c a : ℕ) → n ≤ c → sum_below n (only c a) ≡ 0
sum_only_none zero c a low = refl
sum_only_none (suc n) c a low =
    let rest = sum_only_none n c a (omega arith) in
    ⊎_elim
    (λ (this : (c ≡ n) × (only c a n ≡ a)). let e = this.0 in absurd (omega arith))
    (λ (other : ((c < n) ⊎ (n < c)) × (only c a n ≡ 0)). let e = other.1 in omega arith)
    (this_or_other c n a)

-- and beyond it once
sum_only : (n c a : ℕ) → c < n → sum_below n (only c a) ≡ a
sum_only zero c a low = absurd (omega arith)
sum_only (suc n) c a low = ⊎_elim
    (λ (this : (c ≡ n) × (only c a n ≡ a)).
    let e = this.0 in
    let here = this.1 in
    let rest = sum_only_none n c a (omega arith) in
    omega arith)
    (λ (other : ((c < n) ⊎ (n < c)) × (only c a n ≡ 0)).
    let here = other.1 in
    ⊎_elim
    (λ (less : c < n). let rest = sum_only n c a less in omega arith)
    (λ (more : n < c). absurd (omega arith))
    other.0)
    (this_or_other c n a)

module _ {C R : Type 0} (f : Made C R → ℕ) where
  -- one more call counts at its caller
  one_more : (x : Made C R) (log : List (Made C R)) (i : ℕ)
      → total f (calls_by i (x ∷ log)) ≡ only x.caller (f x) i + total f (calls_by i log)
  one_more x log i = by (x.caller == i)
    where
      by : (b : Bool)
          → total f (cond b (x ∷ calls_by i log) (calls_by i log))
          ≡ cond b (f x) 0 + total f (calls_by i log)
      by true = omega arith
      by false = omega arith

  -- the sum over a history is the sum over its callers
  pub by_callers : (n : ℕ) (log : List (Made C R)) → All (λ x. x.caller < n) log
      → total f log ≡ sum_below n (λ i. total f (calls_by i log))
  by_callers n [] low = sym (sum_below_none n)
  by_callers n (x ∷ log) low =
      let here : x.caller < n = low 0 x (omega arith) in
      let rest = by_callers n log (λ k d in_list. low (suc k) d (omega arith)) in
      let one = sum_only n x.caller (f x) here in
      let split = sum_below_both n (only x.caller (f x)) (λ i. total f (calls_by i log)) in
      let same = sum_below_same n (λ i. total f (calls_by i (x ∷ log)))
      (λ i. only x.caller (f x) i + total f (calls_by i log)) (λ i _. one_more x log i) in
      omega arith

-- a sum is its first part and the sum of the others
sum_first : (n : ℕ) (g : ℕ → ℕ) → sum_below (suc n) g ≡ g 0 + sum_below n (λ i. g (suc i))
sum_first zero g = refl
sum_first (suc n) g = let rest = sum_first n g in omega arith

-- where g gives at each place what the item there counts, its sum over the places is the total
by_place : {X : Type 0} (count : X → ℕ) (xs : List X) (g : ℕ → ℕ)
    → ((i : ℕ) (x : X) → slice_get xs i ≡ Some x → g i ≡ count x)
    → sum_below (length xs) g ≡ total count xs
by_place count [] g same = refl
by_place count (x ∷ xs) g same =
    let first = sum_first (length xs) g in
    let here : g 0 ≡ count x = same 0 x refl in
    let rest = by_place count xs (λ i. g (suc i)) (λ i y at. same (suc i) y at) in
    omega arith

-- where each member accounts for the calls of its own number, that is the sum over the team
pub by_team : {C R X : Type 0} (f : Made C R → ℕ) (count : X → ℕ) (team : List X)
    (log : List (Made C R)) → All (λ x. x.caller < length team) log
    → ((i : ℕ) (x : X) → slice_get team i ≡ Some x → total f (calls_by i log) ≡ count x)
    → total f log ≡ total count team
by_team f count team log low own =
    by_callers f (length team) log low
    ∙ by_place count team (λ i. total f (calls_by i log)) own

-- a history is as long as its calls count, each once
pub length_once : {X : Type 0} (xs : List X) → total (λ x. 1) xs ≡ length xs
length_once [] = refl
length_once (x ∷ xs) = let rest = length_once xs in omega arith
