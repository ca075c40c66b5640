-- The opening: before there is any pass, the number is the start, and the first record may be given any floor up to it.
use Rattle.std.proofs.Common.{◌≡◌, ◌≢◌, ℕ, ◌≤◌, List, [], ◌∷◌, set, All, refl, sym, ap, ◌∙◌, subst, inl, ⊎_elim, arith, slice_index}
use mathlib.Core.Option.{some}
use mathlib.Core.Logic.{dite}
use native.Mathlib.Decide.{ℕ_discrete}
use lib.ListN.{get_elem?}
use Rattle.atomic_table.specs.Table.{State, Me, Step, Act, keeps, carried_after, Valid, stepped, Allows}
use Rattle.atomic_table.proofs.Lists.{at_set, set_else}
use Rattle.list_totals.specs.Totals.{total}
use Rattle.list_totals.proofs.Totals.{total_set, total_at}
use Rattle.best_word.specs.declared.rule.View.{View}
use Rattle.best_word.specs.declared.rule.Terms.{Terms}
use Rattle.best_word.specs.declared.rule.Event.{Event}
use Rattle.best_word.specs.Traces.{reply, Offered}
use Rattle.best_word.specs.Rule.{floored, spent, Fits, Met, Source, CrossAll, Kept, Opens}
use Rattle.best_word.proofs.Sources.{same_record}

-- where one record stands for all passes, any other stands for none
pub others_idle : (views : List View) (id j : ℕ) (v u : View) → get_elem? views id ≡ some v
    → total (λ w. w.parts) views ≡ v.parts → j ≢ id → get_elem? views j ≡ some u → u.parts ≡ 0
others_idle views id j v u at all apart there =
    let left = total_set (λ (w : View). w.parts) views id v spent at in
    let still = set_else views id j spent apart ∙ there in
    let here = total_at (λ (w : View). w.parts) (set views id spent) j u still in
    omega arith

module _ (terms : Terms) (id floor : ℕ) (v : View) (s : State ℕ View) (h : Kept terms s)
    (at : get_elem? s.views id ≡ some v) (all : v.parts ≡ terms.callers) (none : v.trace ≡ [])
    (below : floor ≤ terms.start) where
  -- every record has an empty trace
  no_trace : (j : ℕ) (u : View) → get_elem? s.views j ≡ some u → u.trace ≡ []
  no_trace j u there = dite (ℕ_discrete j id)
      (λ (same : j ≡ id). ap (λ (w : View). w.trace) (same_record s.views j id u v same there at)
      ∙ none)
      (λ (other : j ≢ id). (h.each j u there).idle
      (others_idle s.views id j v u at (h.parts ∙ sym all) other there))

  -- the number is the start
  number_is_start : h.low ≡ terms.start
  number_is_start = ⊎_elim
      (λ (first : h.low ≡ terms.start). first)
      (λ (m : Met h.low s.views). absurd
      (subst (Offered h.low) (no_trace m.seat m.view m.there) m.offered))
      h.source

  -- the records after the opening
  abbrev told_views : List View
  told_views = set s.views id (floored v floor)

  -- a record with the new floor fits
  told_fits : (j : ℕ) (u : View) → get_elem? told_views j ≡ some u → Fits floor h.low u
  told_fits j u there = ⊎_elim
      (λ (t : (j ≡ id) × (floored v floor ≡ u)).
      let mine = h.each id v at in
      let new : Fits floor h.low (floored v floor) = record {
        idle = mine.idle;
        floor = λ _. refl;
        below = mine.below;
        crossed = mine.crossed;
      } in
      subst (Fits floor h.low) t.1 new)
      (λ (t : (j ≢ id) × (get_elem? s.views j ≡ some u)).
      let was = h.each j u t.1 in
      let idle = others_idle s.views id j v u at (h.parts ∙ sym all) t.0 t.1 in
      record {
        idle = was.idle;
        floor = λ some_part. absurd (omega arith);
        below = was.below;
        crossed = was.crossed;
      })
      (at_set s.views id j (floored v floor) u there)

  -- every record has an empty trace after the opening too
  no_trace_told : (j : ℕ) (u : View) → get_elem? told_views j ≡ some u → u.trace ≡ []
  no_trace_told j u there = ⊎_elim
      (λ (t : (j ≡ id) × (floored v floor ≡ u)). sym (ap (λ (w : View). w.trace) t.1) ∙ none)
      (λ (t : (j ≢ id) × (get_elem? s.views j ≡ some u)). no_trace j u t.1)
      (at_set s.views id j (floored v floor) u there)

  -- the rule holds after the opening
  told : Kept terms record { words = h.low ∷ []; homes = s.homes; views = told_views }
  told =
      let is = number_is_start in
      let parts_set = total_set (λ (u : View). u.parts) s.views id v (floored v floor) at in
      let parts = h.parts in
      record {
        low = h.low;
        word = refl;
        floor = floor;
        bound = omega arith;
        start = h.start;
        source = inl is;
        parts = omega arith;
        each = told_fits;
        replies = λ j u there.
            let Replies : List Event
            → Type 0 = λ es. All (λ e. Source terms.start told_views (reply e)) es in
            subst Replies (sym (no_trace_told j u there)) (λ k d in_list. absurd (omega arith));
        crossed = λ i j u w apart ti tj.
            subst (λ (es : List Event). CrossAll es w.trace) (sym (no_trace_told i u ti))
            (λ k d in_list. absurd (omega arith));
      }

-- what the opening owes where the word is ws
abbrev Gives : Terms → ℕ → ℕ → Me ℕ View → Step ℕ → State ℕ View → List ℕ → Type 0
Gives terms floor id me st s ws =
    let state : State ℕ View = record { words = ws; homes = s.homes; views = s.views } in
    (w : View) × (a : Act ℕ) × Valid s.homes me.1 a
    × Kept terms (stepped state 0 (slice_index ws 0) id me.1 w a)
    × Opens floor st me (slice_index ws 0) (w, carried_after {S = ℕ} me.1 a)

-- a seat that stands for all passes and has no trace may be given any floor up to the start
pub opens : (terms : Terms) (slots id floor : ℕ) (me : Me ℕ View) (st : Step ℕ) → me.1 ≡ []
    → me.0.parts ≡ terms.callers → me.0.trace ≡ [] → floor ≤ terms.start
    → Allows (Kept terms) slots id me 0 (λ n. n) (Opens floor st me)
opens terms slots id floor me st empty all none below s h homes at small =
    let opened : Opens floor st me h.low (floored me.0 floor, me.1) =
    record { slots = empty; view = refl } in
    let kept = told terms id floor me.0 s h at all none below in
    subst (Gives terms floor id me st s) (sym h.word) (floored me.0 floor, keeps, tt, kept, opened)
