-- Choosing in one pass: what one more pair at the end of the list adds to the choice.
use Rattle.std.proofs.Common.{◌≡◌, ℕ, zero, suc, ◌+◌, ◌-◌, ◌<◌, ◌≤◌, List, [], ◌∷◌, ◌++◌, length, Bool, true, false, Option, None, Some, refl, sym, ap, ◌∙◌, subst, ⊎_elim, arith, append-nil, length-append, take, get_or}
use Rattle.std.specs.Prelude.{◌&&◌, nat_lt, nat_le, find, if◌then◌else◌}
use Rattle.std.specs.Option.{option_to_list, option_or}
use Rattle.std.proofs.lemmas.Bool.{cases_Bool, cases_lt, cond-true, cond-false, false≢true}
use Rattle.std.proofs.lemmas.Bool.Decides.{nat_tests}
use Rattle.std.proofs.lemmas.Option.{none-some}
use Rattle.std.proofs.lemmas.List.{take_more}
use Rattle.std.proofs.lemmas.List.Folds.{find-append, list_all-append}
use Rattle.window_rows.specs.Choice.{is_apart, is_apart_from, chosen_apart, added}
use Rattle.series_core.specs.declared.pair.Pair.{Pair}

-- what is found, or that nothing is
pub found_or_not : {X : Type 0} {P : Type 0} (o : Option X) → (o ≡ None → P) → ((x : X)
    → o ≡ Some x → P) → P
found_or_not None none some = none refl
found_or_not (Some x) none some = some x refl

-- what is found in a list of one
find_one : {X : Type 0} (test : X → Bool) (x : X) → test x ≡ true → find test (x ∷ []) ≡ Some x
find_one test x ok = cond-true (test x) (Some x) None ok

find_one_none : {X : Type 0} (test : X → Bool) (x : X) → test x ≡ false → find test (x ∷ []) ≡ None
find_one_none test x bad = cond-false (test x) (Some x) None bad

-- where a wider test finds nothing, neither does a narrower one
find_narrower : {X : Type 0} (wide narrow : X → Bool) → ((x : X) → wide x ≡ false
    → narrow x ≡ false)
    → (xs : List X) → find wide xs ≡ None → find narrow xs ≡ None
find_narrower wide narrow less [] none = refl
find_narrower wide narrow less (x ∷ xs) none =
    ⊎_elim
    (λ (ok : wide x ≡ true).
    absurd (none-some x (sym none ∙ cond-true (wide x) (Some x) (find wide xs) ok)))
    (λ (bad : wide x ≡ false).
    cond-false (narrow x) (Some x) (find narrow xs) (less x bad)
    ∙ find_narrower wide narrow less xs (sym (cond-false (wide x) (Some x) (find wide xs) bad)
    ∙ none))
    (cases_Bool (wide x))

and_false : (a b : Bool) → a ≡ false → (a && b) ≡ false
and_false true b h = absurd (false≢true (sym h))
and_false false b h = refl

and_false_right : (a b : Bool) → b ≡ false → (a && b) ≡ false
and_false_right true b h = h
and_false_right false b h = refl

below : (a b : ℕ) → a < b → nat_lt a b ≡ true
below a b h = grind (arith, nat_tests)

not_below : (a b : ℕ) → b ≤ a → nat_lt a b ≡ false
not_below a b h = grind (arith, nat_tests)

module _ (far : ℕ) (pairs : List Pair) where
  -- the pairs of the first k ranks, and the next one
  abbrev chosen : ℕ → List Pair
  chosen k = chosen_apart far pairs k

  abbrev next : ℕ → Option Pair
  next k = find (is_apart_from far (chosen k)) pairs

  -- where there is a next pair, it is the next rank
  pub chosen_some : (k : ℕ) (p : Pair) → next k ≡ Some p → chosen (suc k) ≡ chosen k ++ p ∷ []
  chosen_some k p e = ap (λ o. chosen k ++ option_to_list o) e

  -- where there is none, the ranks end
  pub chosen_none : (k : ℕ) → next k ≡ None → chosen (suc k) ≡ chosen k
  chosen_none k e = ap (λ o. chosen k ++ option_to_list o) e ∙ append-nil (chosen k)

  -- at most k pairs are chosen
  pub chosen_size : (k : ℕ) → length (chosen k) ≤ k
  chosen_size zero = omega arith
  chosen_size (suc k) =
      found_or_not (next k)
      (λ e. omega (arith, chosen_size k, ap length (chosen_none k e)))
      (λ p e. omega (
        arith,
        chosen_size k,
        ap length (chosen_some k p e),
        length-append (chosen k)
            (p ∷ []),
      ))

  -- where fewer are, there was no next pair
  pub chosen_ended : (k : ℕ) → length (chosen k) < k → next k ≡ None
  chosen_ended zero h = absurd (omega arith)
  chosen_ended (suc k) h =
      found_or_not (next k)
      (λ e. subst (λ (c : List Pair). find (is_apart_from far c) pairs ≡ None) (sym
      (chosen_none k e)) e)
      (λ p e.
      let size = ap length (chosen_some k p e) in
      let none = chosen_ended k (omega (arith, size, length-append (chosen k) (p ∷ []), h)) in
      absurd (none-some p (sym none ∙ e)))

module _ (far : ℕ) (some : 0 < far) (pairs : List Pair) (p : Pair) where
  -- the choice before the pair, and with it
  abbrev before : ℕ → List Pair
  before k = chosen_apart far pairs k

  abbrev with : ℕ → List Pair
  with k = chosen_apart far (pairs ++ p ∷ []) k

  -- a pair is not apart from itself
  self_near : is_apart far p.number p.number ≡ false
  self_near =
      let none : p.number - p.number + (p.number - p.number) ≡ 0 = omega arith in
      ap (λ m. nat_le far m) none ∙ not_within far some
    where
      not_within : (m : ℕ) → 0 < m → nat_le m 0 ≡ false
      not_within m h = grind (arith, nat_tests)

  -- where no pair of the list was apart from the choice, none is from the choice with this pair
  none_after : (k : ℕ) → find (is_apart_from far (before k)) pairs ≡ None
      → find (is_apart_from far (before k ++ p ∷ [])) (pairs ++ p ∷ []) ≡ None
  none_after k none =
      find-append narrow pairs (p ∷ [])
      ∙ ap (λ o. option_or o (find narrow (p ∷ []))) (find_narrower (is_apart_from far
      (before k)) narrow narrower pairs none)
      ∙ find_one_none narrow p at_itself
    where
      narrow : Pair → Bool
      narrow q = is_apart_from far (before k ++ p ∷ []) q

      parts : (q : Pair) → narrow q ≡ (is_apart_from far (before k) q && is_apart_from far
          (p ∷ []) q)
      parts q = list_all-append (λ c. is_apart far q.number c.number) (before k) (p ∷ [])

      narrower : (q : Pair) → is_apart_from far (before k) q ≡ false → narrow q ≡ false
      narrower q bad = parts q ∙ and_false (is_apart_from far (before k) q) (is_apart_from far
          (p ∷ []) q) bad

      at_itself : narrow p ≡ false
      at_itself = parts p ∙ and_false_right (is_apart_from far (before k) p)
          (is_apart_from far (p ∷ []) p) (and_false (is_apart far p.number p.number) true self_near)

  -- where there is room and the pair is apart, it is added; else the choice stays
  added_yes : (c : List Pair) (k : ℕ) → length c < k → is_apart_from far c p ≡ true
      → added far k c p ≡ c ++ p ∷ []
  added_yes c k room ok =
      ap (λ b. if b && is_apart_from far c p then c ++ p ∷ [] else c) (below (length c) k room)
      ∙ cond-true (is_apart_from far c p) (c ++ p ∷ []) c ok

  added_near : (c : List Pair) (k : ℕ) → is_apart_from far c p ≡ false → added far k c p ≡ c
  added_near c k bad =
      cond-false (nat_lt (length c) k && is_apart_from far c p) (c ++ p ∷ []) c
      (and_false_right (nat_lt (length c) k) (is_apart_from far c p) bad)

  pub added_full : (c : List Pair) (k : ℕ) → k ≤ length c → added far k c p ≡ c
  added_full c k full =
      cond-false (nat_lt (length c) k && is_apart_from far c p) (c ++ p ∷ []) c
      (and_false (nat_lt (length c) k) (is_apart_from far c p) (not_below (length c) k full))

  -- the next rank, where the choice stayed so far
  from_same : (k : ℕ) → with k ≡ before k
      → with (suc k) ≡ before k ++ option_to_list (option_or (find (is_apart_from far
      (before k)) pairs)
      (find (is_apart_from far (before k)) (p ∷ [])))
  from_same k same =
      ap (λ c. c ++ option_to_list (find (is_apart_from far c) (pairs ++ p ∷ []))) same
      ∙ ap (λ o. before k ++ option_to_list o) (find-append (is_apart_from far (before k)) pairs
      (p ∷ []))

  -- no pair of the list is next: the choice stayed, and the pair is next or not
  from_ended : (k : ℕ) → with k ≡ before k → find (is_apart_from far (before k)) pairs ≡ None
      → with (suc k) ≡ added far (suc k) (before (suc k)) p
  from_ended k same none =
      from_same k same
      ∙ ap (λ o. before k ++ option_to_list (option_or o (find (is_apart_from far (before k))
      (p ∷ [])))) none
      ∙ ⊎_elim
      (λ (ok : is_apart_from far (before k) p ≡ true).
      ap (λ o. before k ++ option_to_list o) (find_one (is_apart_from far (before k)) p ok)
      ∙ sym (added_yes (before k) (suc k) (omega (arith, chosen_size far pairs k)) ok))
      (λ (bad : is_apart_from far (before k) p ≡ false).
      ap (λ o. before k ++ option_to_list o) (find_one_none (is_apart_from far (before k)) p bad)
      ∙ append-nil (before k) ∙ sym (added_near (before k) (suc k) bad))
      (cases_Bool (is_apart_from far (before k) p))
      ∙ ap (λ c. added far (suc k) c p) (sym (chosen_none far pairs k none))

  -- each rank was taken before the pair came
  at_full : (k : ℕ) → length (before k) ≡ k → with k ≡ added far k (before k) p
      → with (suc k) ≡ added far (suc k) (before (suc k)) p
  at_full k full IH =
      let same : with k ≡ before k = IH ∙ added_full (before k) k (omega arith) in
      found_or_not (find (is_apart_from far (before k)) pairs)
      (λ none. from_ended k same none)
      (λ q e.
      let taken = chosen_some far pairs k q e in
      from_same k same
      ∙ ap (λ o. before k ++ option_to_list (option_or o (find (is_apart_from far (before k))
      (p ∷ [])))) e
      ∙ sym taken
      ∙ sym (added_full (before (suc k)) (suc k)
      (omega (arith, ap length taken, length-append (before k) (q ∷ []), full))))

  -- a rank was left
  not_full : (k : ℕ) → length (before k) < k → with k ≡ added far k (before k) p
      → with (suc k) ≡ added far (suc k) (before (suc k)) p
  not_full k room IH =
      let none = chosen_ended far pairs k room in
      ⊎_elim
      (λ (ok : is_apart_from far (before k) p ≡ true).
      let more : with k ≡ before k ++ p ∷ [] = IH ∙ added_yes (before k) k room ok in
      ap (λ c. c ++ option_to_list (find (is_apart_from far c) (pairs ++ p ∷ []))) more
      ∙ ap (λ o. (before k ++ p ∷ []) ++ option_to_list o) (none_after k none)
      ∙ append-nil (before k ++ p ∷ [])
      ∙ sym (added_yes (before k) (suc k) (omega arith) ok)
      ∙ ap (λ c. added far (suc k) c p) (sym (chosen_none far pairs k none)))
      (λ (bad : is_apart_from far (before k) p ≡ false).
      from_ended k (IH ∙ added_near (before k) k bad) none)
      (cases_Bool (is_apart_from far (before k) p))

  -- with one more pair, the choice is the choice before and what the pair adds
  pub chosen_more : (k : ℕ) → with k ≡ added far k (before k) p
  chosen_more zero = refl
  chosen_more (suc k) =
      ⊎_elim
      (λ (room : length (before k) < k). not_full k room (chosen_more k))
      (λ (most : k ≤ length (before k)).
      at_full k (omega (arith, chosen_size far pairs k)) (chosen_more k))
      (cases_lt (length (before k)) k)

-- of no pairs nothing is chosen
pub chosen_nothing : (far k : ℕ) → chosen_apart far [] k ≡ []
chosen_nothing far zero = refl
chosen_nothing far (suc k) = append-nil (chosen_apart far [] k) ∙ chosen_nothing far k

-- the step of a pass over the pairs
pub chosen_step : (far : ℕ) → 0 < far → (pairs : List Pair) (i k : ℕ) (d : Pair) → i < length pairs
    → chosen_apart far (take (i + 1) pairs) k ≡ added far k (chosen_apart far (take i pairs) k)
    (get_or pairs i d)
chosen_step far some pairs i k d within =
    ap (λ ps. chosen_apart far ps k) (take_more pairs i d within)
    ∙ chosen_more far some (take i pairs) (get_or pairs i d) k
