-- A load and a min keep the rule: the pass finds the number, which stays or falls to what it offers.
use Rattle.std.proofs.Common.{◌≡◌, ◌≢◌, ◌⊎◌, ℕ, ◌<◌, ◌≤◌, min, List, [], ◌∷◌, get_or, set, All, refl, sym, ap, ◌∙◌, subst, inl, inr, ⊎_elim, arith, slice_index}
use Rattle.std.proofs.lemmas.List.Elements.{All-push}
use Rattle.std.proofs.lemmas.List.Quantifiers.{all_pairs_push}
use mathlib.Core.Option.{some}
use lib.ListN.{get_elem?}
use Rattle.atomic_table.specs.Table.{State, Me, Step, Act, keeps, carried_after, Valid, stepped, Allows}
use Rattle.atomic_table.proofs.Lists.{at_set}
use Rattle.list_totals.proofs.Totals.{total_set}
use Rattle.best_word.specs.declared.rule.View.{View}
use Rattle.best_word.specs.declared.rule.Terms.{Terms}
use Rattle.best_word.specs.declared.rule.Event.{Event}
use Rattle.best_word.specs.declared.rule.Event.TheVariants.{Read, Offer}
use Rattle.best_word.specs.Traces.{reply, AtMost, Crosses, Offered}
use Rattle.best_word.specs.Rule.{seen, Fits, Met, Source, CrossAll, Kept, Reads, Offers}
use Rattle.best_word.proofs.TraceLaws.{all_less, offered_left, offered_right}
use Rattle.best_word.proofs.Sources.{set_there, source_stays, replies_stay, met_set}

-- the table after a step on its one word
abbrev pub after : State ℕ View → ℕ → ℕ → View → State ℕ View
after s word id w = record { words = word ∷ []; homes = s.homes; views = set s.views id w }

-- a record fits where the number is lower
pub fits_lower : (common low now : ℕ) (v : View) → now ≤ low → Fits common low v → Fits common now v
fits_lower common low now v le h = record {
  idle = h.idle;
  floor = h.floor;
  below = all_less now low v.trace le h.below;
  crossed = h.crossed;
}

-- a read crosses everything
read_crosses : (r n : ℕ) (a : Event) → AtMost n a → Crosses a (Read r) × Crosses (Read r) a
read_crosses r n (Read q) h = (tt, tt)
read_crosses r n (Offer v q) h = (tt, tt)

-- an offer that found n crosses all that n is at most
offer_crosses : (k n : ℕ) (a : Event) → AtMost n a → Crosses a (Offer k n) × Crosses (Offer k n) a
offer_crosses k n (Read q) h = (tt, tt)
offer_crosses k n (Offer v q) h = (inr h.1, inl h.1)

-- of two numbers one is at most the other
le_or_lt : (n k : ℕ) → (n ≤ k) ⊎ (k < n)
le_or_lt n k = grind arith

-- the less of the number and an offer is the number or the offer
offer_made : (k n : ℕ) → (min n k ≡ n) ⊎ Offered (min n k) (Offer k n ∷ [])
offer_made k n = ⊎_elim (λ (le : n ≤ k). inl (omega arith))
    (λ (lt : k < n). inr (inl (omega arith))) (le_or_lt n k)

-- what a step of a pass owes: it finds the number `low`, leaves `now` and adds the event e to its trace
record Owes (terms : Terms) (s : State ℕ View) (h : Kept terms s) (now : ℕ) (e : Event) : Type 0
  where
    falls : now ≤ h.low
    bound : h.floor ≤ now
    fits : AtMost now e
    made : (now ≡ h.low) ⊎ Offered now (e ∷ [])
    answers : reply e ≡ h.low
    crosses : (a : Event) → AtMost h.low a → Crosses a e × Crosses e a

module _ (terms : Terms) (id now : ℕ) (v : View) (e : Event) (s : State ℕ View) (h : Kept terms s)
    (at : get_elem? s.views id ≡ some v) (part : v.parts ≡ 1) (owes : Owes terms s h now e) where
  -- the records after the step
  abbrev views_after : List View
  views_after = set s.views id (seen v e)

  -- the pass's record after the step fits
  new_fits : Fits h.floor now (seen v e)
  new_fits =
      let mine = h.each id v at in
      record {
        idle = λ none. absurd (omega arith);
        floor = λ some_part. mine.floor (omega arith);
        below = All-push (AtMost now) v.trace e (all_less now h.low v.trace owes.falls mine.below)
            owes.fits;
        crossed = all_pairs_push Crosses v.trace e mine.crossed
            (λ k d in_list. (owes.crosses (get_or v.trace k d) (mine.below k d in_list)).0);
      }

  -- what was offered before the step stays met
  stays_met : (n : ℕ) → Met n s.views → Met n views_after
  stays_met n = met_set n s.views id v (seen v e) at (offered_left n v.trace (e ∷ []))

  -- the number after the step is the start or was offered
  source_after : Source terms.start views_after now
  source_after = ⊎_elim
      (λ (same : now ≡ h.low). subst (Source terms.start views_after) (sym same)
      (source_stays terms.start h.low s.views views_after (stays_met h.low) h.source))
      (λ (offer : Offered now (e ∷ [])). inr record {
        seat = id;
        view = seen v e;
        there = set_there s.views id v (seen v e) at;
        offered = offered_right now v.trace (e ∷ []) offer;
      })
      owes.made

  -- the event's reply is the start or was offered
  reply_met : Source terms.start views_after (reply e)
  reply_met = subst (Source terms.start views_after) (sym owes.answers)
      (source_stays terms.start h.low s.views views_after (stays_met h.low) h.source)

  -- the event crosses each trace of another record, on both sides
  cross_left : (j : ℕ) (w : View) → j ≢ id → get_elem? s.views j ≡ some w
      → CrossAll (seen v e).trace w.trace
  cross_left j w apart there = All-push (λ x. All (Crosses x) w.trace) v.trace e
      (h.crossed id j v w (λ same. apart (sym same)) at there)
      (λ k d in_list. (owes.crosses (get_or w.trace k d) ((h.each j w there).below k d in_list)).1)

  -- the same with the other trace first
  cross_right : (i : ℕ) (u : View) → i ≢ id → get_elem? s.views i ≡ some u
      → CrossAll u.trace (seen v e).trace
  cross_right i u apart there k d in_list = All-push (Crosses (get_or u.trace k d)) v.trace e
      (h.crossed i id u v apart there at k d in_list)
      (owes.crosses (get_or u.trace k d) ((h.each i u there).below k d in_list)).0

  -- offers cross after the step
  crossed_after : (i j : ℕ) (u w : View) → i ≢ j → get_elem? views_after i ≡ some u
      → get_elem? views_after j ≡ some w → CrossAll u.trace w.trace
  crossed_after i j u w apart ti tj = ⊎_elim
      (λ (a : (i ≡ id) × (seen v e ≡ u)). ⊎_elim
      (λ (b : (j ≡ id) × (seen v e ≡ w)). absurd (apart (a.0 ∙ sym b.0)))
      (λ (b : (j ≢ id) × (get_elem? s.views j ≡ some w)).
      subst (λ (x : View). CrossAll x.trace w.trace) a.1 (cross_left j w b.0 b.1))
      (at_set s.views id j (seen v e) w tj))
      (λ (a : (i ≢ id) × (get_elem? s.views i ≡ some u)). ⊎_elim
      (λ (b : (j ≡ id) × (seen v e ≡ w)).
      subst (λ (x : View). CrossAll u.trace x.trace) b.1 (cross_right i u a.0 a.1))
      (λ (b : (j ≢ id) × (get_elem? s.views j ≡ some w)). h.crossed i j u w apart a.1 b.1)
      (at_set s.views id j (seen v e) w tj))
      (at_set s.views id i (seen v e) u ti)

  -- the replies of each record are met after the step
  replies_after : (j : ℕ) (u : View) → get_elem? views_after j ≡ some u
      → All (λ a. Source terms.start views_after (reply a)) u.trace
  replies_after j u there = ⊎_elim
      (λ (t : (j ≡ id) × (seen v e ≡ u)).
      subst (λ (x : View). All (λ a. Source terms.start views_after (reply a)) x.trace) t.1
      (All-push (λ a. Source terms.start views_after (reply a)) v.trace e
      (replies_stay terms.start s.views views_after v.trace stays_met (h.replies id v at))
      reply_met))
      (λ (t : (j ≢ id) × (get_elem? s.views j ≡ some u)).
      replies_stay terms.start s.views views_after u.trace stays_met (h.replies j u t.1))
      (at_set s.views id j (seen v e) u there)

  -- the rule holds after the step
  steps : Kept terms (after s now id (seen v e))
  steps =
      let start = h.start in
      let falls = owes.falls in
      let parts_set = total_set (λ (u : View). u.parts) s.views id v (seen v e) at in
      let all = h.parts in
      record {
        low = now;
        word = refl;
        floor = h.floor;
        bound = owes.bound;
        start = omega arith;
        source = source_after;
        parts = omega arith;
        each = λ j u there. ⊎_elim
            (λ (t : (j ≡ id) × (seen v e ≡ u)). subst (Fits h.floor now) t.1 new_fits)
            (λ (t : (j ≢ id) × (get_elem? s.views j ≡ some u)).
            fits_lower h.floor h.low now u falls (h.each j u t.1))
            (at_set s.views id j (seen v e) u there);
        replies = replies_after;
        crossed = crossed_after;
      }

-- what a step of a pass that leaves `f n` gives where the word is ws: a new record that keeps the rule and of which tell holds
abbrev Gives : Terms → ℕ → Me ℕ View → (ℕ → ℕ) → (ℕ → Me ℕ View → Type 0) → State ℕ View → List ℕ
    → Type 0
Gives terms id me f tell s ws =
    let state : State ℕ View = record { words = ws; homes = s.homes; views = s.views } in
    (w : View) × (a : Act ℕ) × Valid s.homes me.1 a
    × Kept terms (stepped state 0 (f (slice_index ws 0)) id me.1 w a)
    × tell (slice_index ws 0) (w, carried_after {S = ℕ} me.1 a)

-- the record is of one pass with these terms
pub record OnePass (terms : Terms) (v : View) : Type 0 where
  pub start : v.start ≡ terms.start
  pub part : v.parts ≡ 1

-- the number lies between the floor of one pass, which is that of the rule, and its start
between : (terms : Terms) (s : State ℕ View) (h : Kept terms s) (id : ℕ) (v : View) → get_elem? s.views id ≡ some v
    → OnePass terms v → (v.floor ≡ h.floor) × (v.floor ≤ h.low) × (h.low ≤ v.start)
between terms s h id v at one =
    let same = (h.each id v at).floor (omega (arith, one.part)) in
    (same, omega (arith, same, h.bound), omega (arith, h.start, one.start))

-- a seat of one pass may load
pub reads : (terms : Terms) (slots id : ℕ) (me : Me ℕ View) (st : Step ℕ) → me.1 ≡ []
    → OnePass terms me.0
    → Allows (Kept terms) slots id me 0 (λ n. n) (Reads st me)
reads terms slots id me st none one s h homes at small =
    let v = me.0 in
    let range = between terms s h id v at one in
    let owes : Owes terms s h h.low (Read h.low) = record {
      falls = omega arith;
      bound = h.bound;
      fits = omega arith;
      made = inl refl;
      answers = refl;
      crosses = read_crosses h.low h.low;
    } in
    let kept = steps terms id h.low v (Read h.low) s h at one.part owes in
    let told : Reads st me h.low (seen v (Read h.low), me.1) = record {
      slots = none;
      low = range.1;
      high = range.2;
      below = (h.each id v at).below;
      view = refl;
    } in
    subst (Gives terms id me (λ n. n) (Reads st me) s) (sym h.word)
    (seen v (Read h.low), keeps, tt, kept, told)

-- a seat of one pass may make the number the less of itself and an offer that is at least the floor
pub offers : (terms : Terms) (slots id k : ℕ) (me : Me ℕ View) (st : Step ℕ) → st.first ≡ k
    → me.1 ≡ []
    → OnePass terms me.0 → me.0.floor ≤ k
    → Allows (Kept terms) slots id me 0 (λ n. min n k) (Offers st me)
offers terms slots id k me st first none one up s h homes at small =
    let v = me.0 in
    let range = between terms s h id v at one in
    let owes : Owes terms s h (min h.low k) (Offer k h.low) = record {
      falls = omega arith;
      bound = omega (arith, h.bound, up, range.0);
      fits = (omega arith, omega arith);
      made = offer_made k h.low;
      answers = refl;
      crosses = offer_crosses k h.low;
    } in
    let kept = steps terms id (min h.low k) v (Offer k h.low) s h at one.part owes in
    let told : Offers st me h.low (seen v (Offer k h.low), me.1) = record {
      slots = none;
      low = range.1;
      high = range.2;
      below = (h.each id v at).below;
      view = ap (λ (x : ℕ). seen v (Offer x h.low)) (sym first);
    } in
    subst (Gives terms id me (λ n. min n k) (Offers st me) s) (sym h.word)
    (seen v (Offer k h.low), keeps, tt, kept, told)
