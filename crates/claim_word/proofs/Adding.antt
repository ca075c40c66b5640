-- An add keeps the rule: the number that it finds is drawn, or the pass has ended.
use Rattle.std.proofs.Common.{◌≡◌, ℕ, zero, suc, ◌+◌, ◌%◌, ◌^◌, ◌<◌, ◌≤◌, List, [], ◌∷◌, set, All, refl, sym, ap, subst, arith, slice_index}
use Rattle.std.proofs.lemmas.List.Elements.{All-push}
use mathlib.Core.Option.{some}
use native.Mathlib.Decide.{dec_lt}
use lib.ListN.{get_elem?}
use Rattle.atomic_table.specs.Table.{State, Me, Step, Act, keeps, carried_after, Valid, stepped, Allows}
use Rattle.list_totals.specs.Totals.{total, times}
use Rattle.list_totals.proofs.Totals.{total_set, total_le, times_push, once_below_more}
use Rattle.claim_word.specs.declared.rule.View.{View}
use Rattle.claim_word.specs.declared.rule.Terms.{Terms}
use Rattle.claim_word.specs.Rule.{taken, ended, Fits, Kept, Draws}
use Rattle.claim_word.proofs.Records.{all_below, EachFits, fits_set, after}

-- where the counter is below the count, no pass has ended
none_ended : (ends drawn n count : ℕ) → (0 < ends → drawn ≡ count) → n ≡ drawn + ends → n < count
    → ends ≡ 0
none_ended zero drawn n count whole is low = refl
none_ended (suc ends) drawn n count whole is low =
    let full : drawn ≡ count = whole (omega arith) in absurd (omega arith)

-- where the counter is at the count or above, all is drawn
all_drawn : (ends drawn n count : ℕ) → (0 < ends → drawn ≡ count) → n ≡ drawn + ends
    → drawn ≤ count → count ≤ n
    → drawn ≡ count
all_drawn zero drawn n count whole is bound high = omega arith
all_drawn (suc ends) drawn n count whole is bound high = whole (omega arith)

module _ (terms : Terms) (id n : ℕ) (v : View) (s : State ℕ View) (h : Kept terms s)
    (at : get_elem? s.views id ≡ some v) (is : n ≡ h.drawn + total (λ u. u.ends) s.views)
    (part : v.parts ≡ 1) where
  -- the rule holds after a number is drawn
  takes : n < terms.count → Kept terms (after s ((n + 1) % 2 ^ 64) id (taken v n))
  takes low =
      let ends_set = total_set (λ (u : View). u.ends) s.views id v (taken v n) at in
      let parts_set = total_set (λ (u : View). u.parts) s.views id v (taken v n) at in
      let room = h.room in
      let none = none_ended _ h.drawn n terms.count h.whole is low in
      let same : n ≡ h.drawn = omega arith in
      let before = h.each id v at in
      let met = before.met in
      let new : Fits (n + 1) (taken v n) = record {
        ends = before.ends;
        idle = λ no_part. absurd (omega arith);
        below = All-push (λ x. x < n + 1) v.draws n
            (all_below v.met (n + 1) v.draws (omega arith) before.below) (omega arith);
        met = omega arith;
      } in
      record {
        drawn = n + 1;
        word = ap (λ (k : ℕ). k ∷ []) (omega arith);
        bound = omega arith;
        whole = λ some_ended. absurd (omega arith);
        parts = let all = h.parts in omega arith;
        room = room;
        once = λ x.
            let set_times = total_set (λ (u : View). times x u.draws) s.views id v (taken v n) at in
            let grown = times_push x v.draws n in
            let was = h.once x in
            let more = once_below_more x n h.drawn same in
            omega arith;
        each = fits_set h.drawn (n + 1) s.views id (taken v n) (omega arith) h.each new;
      }

  -- the rule holds after the pass has ended
  ends_here : v.ends ≡ 0 → v.count ≡ terms.count → terms.count ≤ n
      → Kept terms (after s ((n + 1) % 2 ^ 64) id (ended v))
  ends_here fresh_end count high =
      let ends_set = total_set (λ (u : View). u.ends) s.views id v (ended v) at in
      let parts_set = total_set (λ (u : View). u.parts) s.views id v (ended v) at in
      let bound = h.bound in
      let full = all_drawn _ h.drawn n terms.count h.whole is bound high in
      let room = h.room in
      let all = h.parts in
      let before = h.each id v at in
      let met = before.met in
      let new : Fits h.drawn (ended v) = record {
        ends = omega arith;
        idle = before.idle;
        below = all_below v.met v.count v.draws (omega arith) before.below;
        met = omega arith;
      } in
      let each : EachFits h.drawn (set s.views id (ended v)) =
      fits_set h.drawn h.drawn s.views id (ended v) (omega arith) h.each new in
      let le = total_le (λ (u : View). u.ends) (λ (u : View). u.parts) (set s.views id (ended v))
      (λ j u there. (each j u there).ends) in
      record {
        drawn = h.drawn;
        word = ap (λ (k : ℕ). k ∷ []) (omega arith);
        bound = bound;
        whole = λ _. full;
        parts = omega arith;
        room = room;
        once = λ x.
            let set_times = total_set (λ (u : View). times x u.draws) s.views id v (ended v) at in
            let was = h.once x in
            omega arith;
        each = each;
      }

-- what an add owes where the word is ws: a new record and an act that keep the rule and tell the pass what it found
abbrev Adds : Terms → ℕ → View → Step ℕ → State ℕ View → List ℕ → Type 0
Adds terms id v st s ws =
    let found = slice_index ws 0 in
    let state : State ℕ View = record { words = ws; homes = s.homes; views = s.views } in
    (w : View) × (a : Act ℕ) × Valid s.homes [] a
    × Kept terms (stepped state 0 ((found + 1) % 2 ^ 64) id [] w a)
    × Draws st (v, []) found (w, carried_after {S = ℕ} [] a)

-- a seat of one pass that has not ended may add one
draws : (terms : Terms) (slots id : ℕ) (v : View) (st : Step ℕ) → v.count ≡ terms.count
    → v.parts ≡ 1 → v.ends ≡ 0
    → Allows (Kept terms) slots id (v, []) 0 (λ n. (n + 1) % 2 ^ 64) (Draws st (v, []))
draws terms slots id v st count part fresh_end s h homes at small =
    let n : ℕ = h.drawn + total (λ u. u.ends) s.views in
    subst (Adds terms id v st s) (sym h.word) (go n refl (dec_lt n terms.count))
  where
    met : v.met ≤ h.drawn
    met = (h.each id v at).met

    above : (n : ℕ) → n ≡ h.drawn + total (λ u. u.ends) s.views → All (λ x. x < n) v.draws
    above n is = all_below v.met n v.draws (let here = met in omega arith) (h.each id v at).below

    go : (n : ℕ) → n ≡ h.drawn + total (λ u. u.ends) s.views → Dec (n < terms.count)
        → Adds terms id v st s (n ∷ [])
    go n is (yes low) =
        let told : Draws st (v, []) n (taken v n, []) = record {
          slots = refl;
          above = above n is;
          met = λ _. let here = met in omega arith;
          taken = λ _. refl;
          ended = λ high. absurd (omega arith);
        } in
        (taken v n, keeps, tt, takes terms id n v s h at is part low, told)
    go n is (no high) =
        let told : Draws st (v, []) n (ended v, []) = record {
          slots = refl;
          above = above n is;
          met = λ low. absurd (omega arith);
          taken = λ low. absurd (omega arith);
          ended = λ _. refl;
        } in (
          ended v,
          keeps,
          tt,
          ends_here terms id n v s h at is part fresh_end count (omega arith),
          told,
        )

-- the same for a seat whose list of slots is known to be empty
pub draws_as : (terms : Terms) (slots id : ℕ) (me : Me ℕ View) (st : Step ℕ) → me.1 ≡ []
    → me.0.count ≡ terms.count → me.0.parts ≡ 1 → me.0.ends ≡ 0
    → Allows (Kept terms) slots id me 0 (λ n. (n + 1) % 2 ^ 64) (Draws st me)
draws_as terms slots id me st none count part fresh_end =
    let Allowed : List (ℕ × ℕ) → Type 0 = λ xs.
    Allows (Kept terms) slots id (me.0, xs) 0 (λ n. (n + 1) % 2 ^ 64) (Draws st (me.0, xs)) in
    subst Allowed (sym none) (draws terms slots id me.0 st count part fresh_end)
