-- When all passes are back, one record was joined from theirs, and the rule speaks of it alone (`back`).
use Rattle.std.proofs.Common.{◌≡◌, ◌≢◌, ℕ, List, [], ◌∷◌, ◌++◌, length, map, get_or, All, AllPairs, sym, ap, ◌∙◌, subst, inl, inr, ⊎_elim, arith}
use Rattle.std.proofs.lemmas.List.{append-nil}
use Rattle.std.proofs.lemmas.List.Elements.{All-head, All-tail}
use mathlib.Core.Option.{some, some-injective}
use mathlib.Core.Logic.{dite}
use native.Mathlib.Decide.{ℕ_discrete}
use lib.ListN.{get_elem?}
use Rattle.atomic_table.specs.Seated.{TableId}
use Rattle.atomic_table.specs.Table.{State}
use Rattle.best_word.specs.declared.rule.View.{View}
use Rattle.best_word.specs.declared.rule.Terms.{Terms}
use Rattle.best_word.specs.declared.rule.Event.{Event}
use Rattle.best_word.specs.Traces.{reply, Crosses, Offered, IsMet, least}
use Rattle.best_word.specs.Rule.{both, Met, Source, Kept}
use Rattle.best_word.specs.Passes.{Pass, IsBest, IsPass, pass_of, together}
use Rattle.table_passes.specs.AllBack.{AllBack, joined}
use Rattle.best_word.proofs.TraceLaws.{least_is}
use Rattle.best_word.proofs.Sources.{same_record}
use Rattle.best_word.proofs.Opening.{others_idle}

-- what a record has of all passes, when it was joined from theirs
pub record Gathered (all : List Pass) (v : View) : Type 0 where
  pub is : v.trace ≡ together all
  pub parts : v.parts ≡ length all

-- a record that was joined from those of all passes has their traces, one after another
pub gathered : (t : TableId) (before : List View) (last : View) → All IsPass (before ++ last ∷ [])
    → Gathered (map (pass_of t) (before ++ last ∷ [])) (joined both before last)
gathered t [] last each = record {
  is = sym (append-nil last.trace);
  parts = (All-head IsPass last [] each).part;
}
gathered t (v ∷ before) last each =
    let behind = before ++ last ∷ [] in
    let rest = gathered t before last (All-tail IsPass v behind each) in
    record {
      is = ap (λ (xs : List Event). v.trace ++ xs) rest.is;
      parts = let was = rest.parts in let one = (All-head IsPass v behind each).part in omega arith;
    }

-- what the rule says of one trace that stands for all passes
pub record KnowsAll (start low : ℕ) (trace : List Event) : Type 0 where
  pub least : low ≡ least start trace
  pub replies : All (λ e. IsMet start trace (reply e)) trace
  pub crossed : AllPairs Crosses trace

module _ (terms : Terms) (id : ℕ) (v : View) (s : State ℕ View) (h : Kept terms s)
    (at : get_elem? s.views id ≡ some v) (all : v.parts ≡ terms.callers) where
  -- what is met is met in the one trace
  met_here : (n : ℕ) → Source terms.start s.views n → IsMet terms.start v.trace n
  met_here n source = ⊎_elim
      (λ (first : n ≡ terms.start). inl first)
      (λ (m : Met n s.views). dite (ℕ_discrete m.seat id)
      (λ (same : m.seat ≡ id).
      let is = same_record s.views m.seat id m.view v same m.there at in
      inr (subst (λ (u : View). Offered n u.trace) is m.offered))
      (λ (other : m.seat ≢ id).
      let idle = others_idle s.views id m.seat v m.view at (h.parts ∙ sym all) other m.there in
      absurd (subst (Offered n) ((h.each m.seat m.view m.there).idle idle) m.offered)))
      source

  -- a record that stands for all passes knows all
  pub knows_all : KnowsAll terms.start h.low v.trace
  knows_all =
      let mine = h.each id v at in
      record {
        least = least_is h.low terms.start v.trace h.start mine.below (met_here h.low h.source);
        replies = λ k d in_list. met_here (reply (get_or v.trace k d))
            (h.replies id v at k d in_list);
        crossed = mine.crossed;
      }

-- what is known of the number and of all traces when all passes are back
pub back : (terms : Terms) (t : TableId) (all : List Pass) (word : ℕ) → length all ≡ terms.callers
    → AllBack (Kept terms) (pass_of t) IsPass both all word → KnowsAll terms.start word (together all)
back terms t all word every b =
    let v = joined both b.before b.last in
    let g = subst (λ (ps : List Pass). Gathered ps v) b.shown (gathered t b.before b.last b.each_own) in
    let parts = g.parts in
    let known = knows_all terms b.place v b.state b.kept b.there (omega arith) in
    let low : b.kept.low ≡ word =
    some-injective _ _ (sym (ap (λ (ws : List ℕ). get_elem? ws 0) b.kept.word) ∙ b.word_is) in
    subst (λ (n : ℕ). KnowsAll terms.start n (together all)) low
    (subst (λ (es : List Event). KnowsAll terms.start b.kept.low es) g.is known)

-- and so of a number with this start, where as many passes are back as it has
pub back_of : (key : Terms) (t : TableId) (start callers : ℕ) (all : List Pass) (word : ℕ) → IsBest t key start callers
    → length all ≡ callers → AllBack (Kept key) (pass_of t) IsPass both all word → KnowsAll start word (together all)
back_of key t start callers all word is every b =
    subst (λ (n : ℕ). KnowsAll n word (together all)) (ap (λ (k : Terms). k.start) is.0)
    (back key t all word (every ∙ sym (ap (λ (k : Terms). k.callers) is.0)) b)
