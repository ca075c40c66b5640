-- Where the number and the replies come from: what was the start or was offered stays so through each step.
use Rattle.std.proofs.Common.{◌≡◌, ◌≢◌, ℕ, zero, suc, List, [], ◌∷◌, ◌++◌, set, All, refl, sym, ap, ◌∙◌, subst, inl, inr, ⊎_elim}
use mathlib.Core.Option.{some, some-ne-none, some-injective}
use mathlib.Core.Logic.{dite}
use native.Mathlib.Decide.{ℕ_discrete}
use lib.ListN.{get_elem?}
use Rattle.atomic_table.proofs.Lists.{set_else, at_longer}
use Rattle.best_word.specs.declared.rule.View.{View}
use Rattle.best_word.specs.declared.rule.Event.{Event}
use Rattle.best_word.specs.Traces.{reply, Offered}
use Rattle.best_word.specs.Rule.{both, spent, Met, Source}
use Rattle.best_word.proofs.TraceLaws.{offered_left, offered_right}

-- where a record is set, it stands there
pub set_there : (views : List View) (id : ℕ) (v w : View) → get_elem? views id ≡ some v
    → get_elem? (set views id w) id ≡ some w
set_there [] id v w at = absurd (some-ne-none v (sym at))
set_there (x ∷ xs) zero v w at = refl
set_there (x ∷ xs) (suc id) v w at = set_there xs id v w at

-- the record that a place has is the one that is known there
pub same_record : (views : List View) (i id : ℕ) (u v : View) → i ≡ id → get_elem? views i ≡ some u
    → get_elem? views id ≡ some v → u ≡ v
same_record views i id u v same there at =
    some-injective u v (sym there ∙ ap (get_elem? views) same ∙ at)

-- a source stays one where each offer stays met
pub source_stays : (start n : ℕ) (before after : List View) → (Met n before → Met n after)
    → Source start before n
    → Source start after n
source_stays start n before after stays source =
    ⊎_elim (λ (first : n ≡ start). inl first) (λ (m : Met n before). inr (stays m)) source

-- the replies of a trace stay met where each offer stays met
pub replies_stay : (start : ℕ) (before after : List View) (es : List Event)
    → ((n : ℕ) → Met n before → Met n after)
    → All (λ e. Source start before (reply e)) es → All (λ e. Source start after (reply e)) es
replies_stay start before after es stays replies k d in_list =
    source_stays start _ before after (stays _) (replies k d in_list)

-- what was met in a place whose record is changed, stays met where the new record has the offers of the old one
pub met_set : (n : ℕ) (views : List View) (id : ℕ) (v w : View) → get_elem? views id ≡ some v
    → (Offered n v.trace → Offered n w.trace) → Met n views → Met n (set views id w)
met_set n views id v w at keeps m = dite (ℕ_discrete m.seat id)
    (λ (same : m.seat ≡ id).
    let is = same_record views m.seat id m.view v same m.there at in
    record {
      seat = id;
      view = w;
      there = set_there views id v w at;
      offered = keeps (subst (λ (u : View). Offered n u.trace) is m.offered);
    })
    (λ (other : m.seat ≢ id). record {
      seat = m.seat;
      view = m.view;
      there = set_else views id m.seat w other ∙ m.there;
      offered = m.offered;
    })

-- what was met stays met with one record more
pub met_push : (n : ℕ) (views : List View) (w : View) → Met n views → Met n (views ++ w ∷ [])
met_push n views w m = record {
  seat = m.seat;
  view = m.view;
  there = at_longer views (w ∷ []) m.seat m.view m.there;
  offered = m.offered;
}

-- what was met stays met where one record takes in another
pub met_joined : (n : ℕ) (views : List View) (id : ℕ) (v : View) (other : ℕ) (w : View) → other ≢ id
    → get_elem? views id ≡ some v → get_elem? views other ≡ some w
    → Met n views → Met n (set (set views id (both v w)) other spent)
met_joined n views id v other w apart at there m = dite (ℕ_discrete m.seat id)
    (λ (same : m.seat ≡ id).
    let is = same_record views m.seat id m.view v same m.there at in
    joined (offered_right n w.trace v.trace (subst (λ (u : View). Offered n u.trace) is m.offered)))
    (λ (not_id : m.seat ≢ id). dite (ℕ_discrete m.seat other)
    (λ (same : m.seat ≡ other).
    let is = same_record views m.seat other m.view w same m.there there in
    joined (offered_left n w.trace v.trace (subst (λ (u : View). Offered n u.trace) is m.offered)))
    (λ (not_other : m.seat ≢ other). record {
      seat = m.seat;
      view = m.view;
      there = set_else now other m.seat spent not_other
          ∙ set_else views id m.seat (both v w) not_id ∙ m.there;
      offered = m.offered;
    }))
  where
    now : List View
    now = set views id (both v w)

    joined : Offered n (both v w).trace → Met n (set now other spent)
    joined offer = record {
      seat = id;
      view = both v w;
      there = set_else now other id spent (λ e. apart (sym e)) ∙ set_there views id v (both v w) at;
      offered = offer;
    }
