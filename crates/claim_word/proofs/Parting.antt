-- Splits and joins keep the rule: a new pass has drawn nothing, and a joined record has what both had.
use Rattle.std.proofs.Common.{◌≡◌, ◌≢◌, ℕ, ◌+◌, ◌<◌, List, [], ◌∷◌, ◌++◌, set, refl, sym, ap, ◌∙◌, subst, ⊎_elim, arith}
use Rattle.std.proofs.lemmas.List.Elements.{All-append}
use mathlib.Core.Option.{some}
use lib.ListN.{get_elem?}
use Rattle.atomic_table.specs.Table.{State, Splits, Joins}
use Rattle.atomic_table.proofs.Lists.{at_set, at_snoc}
use Rattle.list_totals.specs.Totals.{total, times}
use Rattle.list_totals.proofs.Totals.{total_set, total_push, times_append}
use Rattle.claim_word.specs.declared.rule.View.{View}
use Rattle.claim_word.specs.declared.rule.Terms.{Terms}
use Rattle.claim_word.specs.Rule.{less, one, both, spent, Fits, Kept}
use Rattle.claim_word.proofs.Records.{all_below, EachFits, fits_set}

-- a new last record that fits joins those that fit
fits_push : (drawn : ℕ) (views : List View) (w : View) → EachFits drawn views → Fits drawn w
    → EachFits drawn (views ++ w ∷ [])
fits_push drawn views w each new j u there = ⊎_elim
    (λ was. each j u was)
    (λ (same : w ≡ u). subst (Fits drawn) same new)
    (at_snoc views w u j there)

-- other records under the same counter keep the rule, where they have as many ends, passes and draws, and each fits
same_counter : (terms : Terms) (s : State ℕ View) (h : Kept terms s) (views : List View)
    → total (λ u. u.ends) views ≡ total (λ u. u.ends) s.views
    → total (λ u. u.parts) views ≡ total (λ u. u.parts) s.views
    → ((x : ℕ) → total (λ u. times x u.draws) views ≡ total (λ u. times x u.draws) s.views)
    → EachFits h.drawn views
    → Kept terms record { words = s.words; homes = s.homes; views = views }
same_counter terms s h views ends parts draws each = record {
  drawn = h.drawn;
  word = h.word ∙ ap (λ (e : ℕ). (h.drawn + e) ∷ []) (sym ends);
  bound = h.bound;
  whole = λ some_ended. h.whole (omega (arith, ends));
  parts = parts ∙ h.parts;
  room = h.room;
  once = λ x. draws x ∙ h.once x;
  each = each;
}

-- a pass is split off a record that has drawn nothing
pub parts_off : (terms : Terms) (id : ℕ) (v : View) → 0 < v.parts → v.draws ≡ [] → v.ends ≡ 0
    → Splits (Kept terms) id v (less v) (one v)
parts_off terms id v some_part none open_still s h at =
    let left_views = set s.views id (less v) in
    let ends_set = total_set (λ (u : View). u.ends) s.views id v (less v) at in
    let parts_set = total_set (λ (u : View). u.parts) s.views id v (less v) at in
    let ends_push = total_push (λ (u : View). u.ends) left_views (one v) in
    let parts_push = total_push (λ (u : View). u.parts) left_views (one v) in
    let before = h.each id v at in
    let left : Fits h.drawn (less v) = record {
      ends = omega arith;
      idle = λ _. none;
      below = before.below;
      met = before.met;
    } in
    let right : Fits h.drawn (one v) = record {
      ends = omega arith;
      idle = λ _. refl;
      below = λ k d in_list. absurd (omega arith);
      met = omega arith;
    } in
    same_counter terms s h (left_views ++ one v ∷ []) (omega arith) (omega arith)
    (λ x. let times_set = total_set (λ (u : View). times x u.draws) s.views id v (less v) at in
    let times_push = total_push (λ (u : View). times x u.draws) left_views (one v) in
    omega arith)
    (fits_push h.drawn left_views (one v)
    (fits_set h.drawn h.drawn s.views id (less v) (omega arith) h.each left) right)

-- where two fit, both as one fit
fits_both : (drawn : ℕ) (v w : View) → Fits drawn v → Fits drawn w → Fits drawn (both v w)
fits_both drawn v w mine theirs =
    let a = mine.ends in
    let b = theirs.ends in
    let c = mine.met in
    let d = theirs.met in
    let together = both v w in
    record {
      ends = omega arith;
      idle = λ none. ap (λ (xs : List ℕ). xs ++ w.draws) (mine.idle (omega arith))
          ∙ theirs.idle (omega arith);
      below = All-append (λ x. x < together.met) v.draws w.draws
          (all_below v.met together.met v.draws (omega arith) mine.below)
          (all_below w.met together.met w.draws (omega arith) theirs.below);
      met = omega arith;
    }

-- the record of no pass fits
fits_spent : (drawn : ℕ) → Fits drawn spent
fits_spent drawn = record {
  ends = omega arith;
  idle = λ _. refl;
  below = λ k d in_list. absurd (omega arith);
  met = omega arith;
}

-- a record takes in another
pub joins : (terms : Terms) (id : ℕ) (v : View) (other : ℕ) (w : View)
    → Joins (Kept terms) id v other w (both v w) spent
joins terms id v other w s h at apart there =
    let now = set s.views id (both v w) in
    let ends_set = total_set (λ (u : View). u.ends) s.views id v (both v w) at in
    let ends_spent = total_set (λ (u : View). u.ends) now other w spent there in
    let parts_set = total_set (λ (u : View). u.parts) s.views id v (both v w) at in
    let parts_spent = total_set (λ (u : View). u.parts) now other w spent there in
    let glued = fits_both h.drawn v w (h.each id v at) (h.each other w other_there) in
    same_counter terms s h (set now other spent) (omega arith) (omega arith)
    (λ x. let times_set = total_set (λ (u : View). times x u.draws) s.views id v (both v w) at in
    let times_spent = total_set (λ (u : View). times x u.draws) now other w spent there in
    let glue = times_append x v.draws w.draws in
    omega arith)
    (fits_set h.drawn h.drawn now other spent (omega arith)
    (fits_set h.drawn h.drawn s.views id (both v w) (omega arith) h.each glued)
    (fits_spent h.drawn))
  where
    other_there : get_elem? s.views other ≡ some w
    other_there = ⊎_elim
        (λ (t : (other ≡ id) × (both v w ≡ w)). absurd (apart t.0))
        (λ (t : (other ≢ id) × (get_elem? s.views other ≡ some w)). t.1)
        (at_set s.views id other (both v w) w there)
