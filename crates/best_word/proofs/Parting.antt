-- Splits and joins keep the rule: a new pass has no trace, and a joined record has what both had.
use Rattle.std.proofs.Common.{◌≡◌, ◌≢◌, ◌⊎◌, ℕ, ◌<◌, List, [], ◌∷◌, ◌++◌, get_or, set, All, refl, sym, ap, ◌∙◌, subst, inl, inr, ⊎_elim, arith}
use Rattle.std.proofs.lemmas.List.Elements.{All-append}
use mathlib.Core.Option.{some}
use lib.ListN.{get_elem?}
use Rattle.atomic_table.specs.Table.{State, Splits, Joins}
use Rattle.atomic_table.proofs.Lists.{at_set, at_snoc}
use Rattle.list_totals.specs.Totals.{total}
use Rattle.list_totals.proofs.Totals.{total_set, total_push}
use Rattle.best_word.specs.declared.rule.View.{View}
use Rattle.best_word.specs.declared.rule.Terms.{Terms}
use Rattle.best_word.specs.declared.rule.Event.{Event}
use Rattle.best_word.specs.Traces.{reply, AtMost, Crosses}
use Rattle.best_word.specs.Rule.{less, one, both, spent, Fits, Met, Source, CrossAll, Kept}
use Rattle.best_word.proofs.TraceLaws.{pairs_append}
use Rattle.best_word.proofs.Sources.{source_stays, replies_stay, met_set, met_push, met_joined}

-- where a trace is empty, all of it is so
none_of : (P : Event → Type 0) (es : List Event) → es ≡ [] → All P es
none_of P es none = subst (All P) (sym none) (λ k d in_list. absurd (omega arith))

-- an empty trace crosses every other, on both sides
crosses_none : (es fs : List Event) → es ≡ [] → CrossAll es fs × CrossAll fs es
crosses_none es fs none = (
  none_of (λ a. All (Crosses a) fs) es none,
  λ k d in_list. none_of (Crosses (get_or fs k d)) es
      none,
)

-- other records under the same word keep the rule, where they are of as many passes, what was met stays met, and each
-- of them is as it should be
same_word : (terms : Terms) (s : State ℕ View) (h : Kept terms s) (views : List View)
    → ((n : ℕ) → Met n s.views → Met n views)
    → total (λ u. u.parts) views ≡ total (λ u. u.parts) s.views
    → ((j : ℕ) (u : View) → get_elem? views j ≡ some u → Fits h.floor h.low u)
    → ((j : ℕ) (u : View) → get_elem? views j ≡ some u → All (λ e. Source terms.start views (reply e)) u.trace)
    → ((i j : ℕ) (u w : View) → i ≢ j → get_elem? views i ≡ some u → get_elem? views j ≡ some w
    → CrossAll u.trace w.trace)
    → Kept terms record { words = s.words; homes = s.homes; views = views }
same_word terms s h views stays parts each replies crossed = record {
  low = h.low;
  word = h.word;
  floor = h.floor;
  bound = h.bound;
  start = h.start;
  source = source_stays terms.start h.low s.views views (stays h.low) h.source;
  parts = parts ∙ h.parts;
  each = each;
  replies = replies;
  crossed = crossed;
}

module _ (terms : Terms) (id : ℕ) (v : View) (some_part : 0 < v.parts) (none : v.trace ≡ [])
    (s : State ℕ View) (h : Kept terms s) (at : get_elem? s.views id ≡ some v) where
  -- the records after a split
  abbrev split_views : List View
  split_views = set s.views id (less v) ++ one v ∷ []

  -- a record after the split is the old one of its place, or one of the two halves
  halves : (j : ℕ) (u : View) → get_elem? split_views j ≡ some u
      → (get_elem? s.views j ≡ some u) ⊎ ((less v ≡ u) ⊎ (one v ≡ u))
  halves j u there = ⊎_elim
      (λ (was : get_elem? (set s.views id (less v)) j ≡ some u). ⊎_elim
      (λ (t : (j ≡ id) × (less v ≡ u)). inr (inl t.1))
      (λ (t : (j ≢ id) × (get_elem? s.views j ≡ some u)). inl t.1)
      (at_set s.views id j (less v) u was))
      (λ (new : one v ≡ u). inr (inr new))
      (at_snoc (set s.views id (less v)) (one v) u j there)

  -- a record after the split is the old one of its place, or has no trace
  old_or_none : (j : ℕ) (u : View) → get_elem? split_views j ≡ some u
      → (get_elem? s.views j ≡ some u) ⊎ (u.trace ≡ [])
  old_or_none j u there = ⊎_elim
      (λ (was : get_elem? s.views j ≡ some u). inl was)
      (λ (half : (less v ≡ u) ⊎ (one v ≡ u)). inr (⊎_elim
      (λ (e : less v ≡ u). sym (ap (λ (w : View). w.trace) e) ∙ none)
      (λ (e : one v ≡ u). sym (ap (λ (w : View). w.trace) e))
      half))
      (halves j u there)

  -- the halves fit
  half_fits : (u : View) → (less v ≡ u) ⊎ (one v ≡ u) → Fits h.floor h.low u
  half_fits u half =
      let mine = h.each id v at in
      let left : Fits h.floor h.low (less v) = record {
        idle = λ _. none;
        floor = λ some_left. mine.floor some_part;
        below = mine.below;
        crossed = mine.crossed;
      } in
      let right : Fits h.floor h.low (one v) = record {
        idle = λ _. refl;
        floor = λ some_left. mine.floor some_part;
        below = λ k d in_list. absurd (omega arith);
        crossed = λ i j d lt in_list. absurd (omega arith);
      } in
      ⊎_elim
      (λ (e : less v ≡ u). subst (Fits h.floor h.low) e left)
      (λ (e : one v ≡ u). subst (Fits h.floor h.low) e right)
      half

  -- what was offered stays met
  split_stays : (n : ℕ) → Met n s.views → Met n split_views
  split_stays n m = met_push n (set s.views id (less v)) (one v)
      (met_set n s.views id v (less v) at (λ offered. offered) m)

  -- the rule holds after a split
  split : Kept terms record { words = s.words; homes = s.homes; views = split_views }
  split =
      let parts_set = total_set (λ (u : View). u.parts) s.views id v (less v) at in
      let parts_push = total_push (λ (u : View). u.parts) (set s.views id (less v)) (one v) in
      same_word terms s h split_views split_stays (omega arith)
      (λ j u there. ⊎_elim
      (λ (was : get_elem? s.views j ≡ some u). h.each j u was)
      (λ (half : (less v ≡ u) ⊎ (one v ≡ u)). half_fits u half)
      (halves j u there))
      (λ j u there. ⊎_elim
      (λ (was : get_elem? s.views j ≡ some u).
      replies_stay terms.start s.views split_views u.trace split_stays (h.replies j u was))
      (λ (idle : u.trace ≡ []). none_of (λ e. Source terms.start split_views (reply e)) u.trace idle)
      (old_or_none j u there))
      (λ i j u w apart ti tj. ⊎_elim
      (λ (a : get_elem? s.views i ≡ some u). ⊎_elim
      (λ (b : get_elem? s.views j ≡ some w). h.crossed i j u w apart a b)
      (λ (idle : w.trace ≡ []). (crosses_none w.trace u.trace idle).1)
      (old_or_none j w tj))
      (λ (idle : u.trace ≡ []). (crosses_none u.trace w.trace idle).0)
      (old_or_none i u ti))

-- a pass is split off a record that has no trace
pub parts_off : (terms : Terms) (id : ℕ) (v : View) → 0 < v.parts → v.trace ≡ []
    → Splits (Kept terms) id v (less v) (one v)
parts_off terms id v some_part none s h at = split terms id v some_part none s h at

-- where a record stands after one has taken in another: it is the spent one, the joined one, or an old one elsewhere
data Place (views : List View) (id other : ℕ) (joined : View) (j : ℕ) (u : View) : Type 0 where
  at_spent : spent ≡ u → Place views id other joined j u
  at_joined : j ≡ id → joined ≡ u → Place views id other joined j u
  elsewhere : j ≢ id → j ≢ other → get_elem? views j ≡ some u → Place views id other joined j u

-- each record after a join stands in one of these places
place : (views : List View) (id other : ℕ) (joined : View) (j : ℕ) (u : View)
    → get_elem? (set (set views id joined) other spent) j ≡ some u → Place views id other joined j u
place views id other joined j u there = ⊎_elim
    (λ (t : (j ≡ other) × (spent ≡ u)). at_spent t.1)
    (λ (t : (j ≢ other) × (get_elem? (set views id joined) j ≡ some u)). ⊎_elim
    (λ (a : (j ≡ id) × (joined ≡ u)). at_joined a.0 a.1)
    (λ (a : (j ≢ id) × (get_elem? views j ≡ some u)). elsewhere a.0 t.0 a.1)
    (at_set views id j joined u t.1))
    (at_set (set views id joined) other j spent u there)

module _ (terms : Terms) (id : ℕ) (v : View) (other : ℕ) (w : View) (part : w.parts ≡ 1)
    (s : State ℕ View) (h : Kept terms s) (at : get_elem? s.views id ≡ some v) (apart : other ≢ id)
    (there : get_elem? (set s.views id (both v w)) other ≡ some w) where
  -- the records after the join
  abbrev joined_views : List View
  joined_views = set (set s.views id (both v w)) other spent

  -- the other record stood in its place before
  other_there : get_elem? s.views other ≡ some w
  other_there = ⊎_elim
      (λ (t : (other ≡ id) × (both v w ≡ w)). absurd (apart t.0))
      (λ (t : (other ≢ id) × (get_elem? s.views other ≡ some w)). t.1)
      (at_set s.views id other (both v w) w there)

  -- the joined record fits
  joined_fits : Fits h.floor h.low (both v w)
  joined_fits =
      let mine = h.each id v at in
      let theirs = h.each other w other_there in
      record {
        idle = λ none. absurd (omega arith);
        floor = λ some_part. theirs.floor (omega arith);
        below = All-append (AtMost h.low) w.trace v.trace theirs.below mine.below;
        crossed = pairs_append w.trace v.trace theirs.crossed mine.crossed
            (h.crossed other id w v apart other_there at);
      }

  -- the spent record fits
  spent_fits : Fits h.floor h.low spent
  spent_fits = record {
    idle = λ _. refl;
    floor = λ some_part. absurd (omega arith);
    below = λ k d in_list. absurd (omega arith);
    crossed = λ i j d lt in_list. absurd (omega arith);
  }

  -- each record fits after the join
  fits_after : (j : ℕ) (u : View) → Place s.views id other (both v w) j u → Fits h.floor h.low u
  fits_after j u (at_spent e) = subst (Fits h.floor h.low) e spent_fits
  fits_after j u (at_joined e is) = subst (Fits h.floor h.low) is joined_fits
  fits_after j u (elsewhere e f was) = h.each j u was

  -- what was offered stays met
  join_stays : (n : ℕ) → Met n s.views → Met n joined_views
  join_stays n = met_joined n s.views id v other w apart at other_there

  -- the replies of old records stay met
  old_replies : (j : ℕ) (u : View) → get_elem? s.views j ≡ some u
      → All (λ e. Source terms.start joined_views (reply e)) u.trace
  old_replies j u was =
      replies_stay terms.start s.views joined_views u.trace join_stays (h.replies j u was)

  -- the replies of each record are met after the join
  replies_after : (j : ℕ) (u : View) → Place s.views id other (both v w) j u
      → All (λ e. Source terms.start joined_views (reply e)) u.trace
  replies_after j u (at_spent e) =
      none_of (λ a. Source terms.start joined_views (reply a)) u.trace
      (sym (ap (λ (x : View). x.trace) e))
  replies_after j u (at_joined e is) =
      subst (λ (x : View). All (λ a. Source terms.start joined_views (reply a)) x.trace) is
      (All-append (λ a. Source terms.start joined_views (reply a)) w.trace v.trace
      (old_replies other w other_there) (old_replies id v at))
  replies_after j u (elsewhere e f was) = old_replies j u was

  -- offers cross after the join
  crossed_after : (i j : ℕ) (a b : View) → i ≢ j → Place s.views id other (both v w) i a
      → Place s.views id other (both v w) j b → CrossAll a.trace b.trace
  crossed_after i j a b i_j (at_spent e) q =
      (crosses_none a.trace b.trace (sym (ap (λ (x : View). x.trace) e))).0
  crossed_after i j a b i_j (at_joined e is) (at_spent f) =
      (crosses_none b.trace a.trace (sym (ap (λ (x : View). x.trace) f))).1
  crossed_after i j a b i_j (at_joined e is) (at_joined f is_too) = absurd (i_j (e ∙ sym f))
  crossed_after i j a b i_j (at_joined e is) (elsewhere f g was) =
      subst (λ (x : View). CrossAll x.trace b.trace) is
      (All-append (λ x. All (Crosses x) b.trace) w.trace v.trace
      (h.crossed other j w b (λ (k : other ≡ j). g (sym k)) other_there was)
      (h.crossed id j v b (λ (k : id ≡ j). f (sym k)) at was))
  crossed_after i j a b i_j (elsewhere e g was) (at_spent f) =
      (crosses_none b.trace a.trace (sym (ap (λ (x : View). x.trace) f))).1
  crossed_after i j a b i_j (elsewhere e g was) (at_joined f is) =
      subst (λ (x : View). CrossAll a.trace x.trace) is
      (λ k d in_list. All-append (Crosses (get_or a.trace k d)) w.trace v.trace
      (h.crossed i other a w g was other_there k d in_list)
      (h.crossed i id a v e was at k d in_list))
  crossed_after i j a b i_j (elsewhere e g was) (elsewhere f k too) = h.crossed i j a b i_j was too

  -- the rule holds after the join
  join : Kept terms record { words = s.words; homes = s.homes; views = joined_views }
  join =
      let now = set s.views id (both v w) in
      let parts_set = total_set (λ (u : View). u.parts) s.views id v (both v w) at in
      let parts_spent = total_set (λ (u : View). u.parts) now other w spent there in
      same_word terms s h joined_views join_stays (omega arith)
      (λ j u t. fits_after j u (place s.views id other (both v w) j u t))
      (λ j u t. replies_after j u (place s.views id other (both v w) j u t))
      (λ i j a b i_j ti tj. crossed_after i j a b i_j
      (place s.views id other (both v w) i a ti) (place s.views id other (both v w) j b tj))

-- a record takes in that of a pass
pub joins : (terms : Terms) (id : ℕ) (v : View) (other : ℕ) (w : View) → w.parts ≡ 1
    → Joins (Kept terms) id v other w (both v w) spent
joins terms id v other w part s h at apart there = join terms id v other w part s h at apart there
