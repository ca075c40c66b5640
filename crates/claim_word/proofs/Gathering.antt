-- When all passes are back, one record was joined from theirs, and the rule speaks of it alone (`back`).
use Rattle.std.proofs.Common.{◌≡◌, ℕ, zero, suc, ◌+◌, ◌<◌, ◌≤◌, List, [], ◌∷◌, ◌++◌, length, map, get_or, All, Bool, true, cond, ltb, sym, ap, ◌∙◌, subst, arith}
use Rattle.std.proofs.lemmas.List.Elements.{All-head, All-tail}
use Rattle.std.proofs.lemmas.Bool.Decides.{nat_tests}
use mathlib.Core.Option.{some}
use lib.ListN.{get_elem?}
use Rattle.atomic_table.specs.Seated.{TableId}
use Rattle.atomic_table.specs.Table.{State}
use Rattle.list_totals.specs.Totals.{total, greatest, times, once_below}
use Rattle.list_totals.proofs.Totals.{times_append, alone}
use Rattle.list_totals.proofs.Greatest.{at_most_greatest}
use Rattle.claim_word.specs.declared.rule.View.{View}
use Rattle.claim_word.specs.declared.rule.Terms.{Terms}
use Rattle.claim_word.specs.Rule.{both, Kept}
use Rattle.claim_word.specs.Passes.{Pass, IsClaim, IsOnePass, pass_of, EachDrawnOnce}
use Rattle.table_passes.specs.AllBack.{AllBack, joined}

-- 1 for a pass that has ended, and else 0
abbrev one_if_ended : Pass → ℕ
one_if_ended p = cond p.ended 1 0

-- what a record has of all passes, when it was joined from theirs
pub record Gathered (all : List Pass) (v : View) : Type 0 where
  pub once : (x : ℕ) → times x v.draws ≡ total (λ (p : Pass). times x p.draws) all
  pub ends : total one_if_ended all ≤ v.ends
  pub met : greatest (λ (p : Pass). p.met) all ≤ v.met
  pub parts : v.parts ≡ length all

-- a pass ends at most as often as its record says
one_end : (n : ℕ) → cond (ltb 0 n) 1 0 ≤ n
one_end n = grind (arith, nat_tests)

-- a record that was joined from those of all passes has what these have together
pub gathered : (t : TableId) (before : List View) (last : View) → All IsOnePass (before ++ last ∷ [])
    → Gathered (map (pass_of t) (before ++ last ∷ [])) (joined both before last)
gathered t [] last each = record {
  once = λ x. omega arith;
  ends = let e = one_end last.ends in omega arith;
  met = omega arith;
  parts = All-head IsOnePass last [] each;
}
gathered t (v ∷ before) last each =
    let behind = before ++ last ∷ [] in
    let rest = gathered t before last (All-tail IsOnePass v behind each) in
    let j = joined both before last in
    record {
      once = λ x.
          let glue = times_append x j.draws v.draws in
          let was = rest.once x in
          omega arith;
      ends = let e = one_end v.ends in let was = rest.ends in omega arith;
      met = let was = rest.met in omega arith;
      parts = let was = rest.parts in let one = All-head IsOnePass v behind each in omega arith;
    }

-- what the rule says of one record that stands for all passes
pub record KnowsAll (count : ℕ) (v : View) : Type 0 where
  pub drawn : ℕ
  pub bound : drawn ≤ count
  pub once : (x : ℕ) → times x v.draws ≡ once_below x drawn
  pub met : v.met ≤ drawn
  pub whole : 0 < v.ends → drawn ≡ count

-- a record that stands for all passes knows all
pub knows_all : (terms : Terms) (id : ℕ) (v : View) (s : State ℕ View) → Kept terms s
    → get_elem? s.views id ≡ some v → v.parts ≡ terms.callers → KnowsAll terms.count v
knows_all terms id v s h at all =
    let parts = h.parts in
    let ends = alone (λ (u : View). u.parts) (λ (u : View). u.ends) s.views id v
    (λ j y there none. let le = (h.each j y there).ends in omega arith) at (omega arith) in
    record {
      drawn = h.drawn;
      bound = h.bound;
      once = λ x.
          let mine = alone (λ (u : View). u.parts) (λ (u : View). times x u.draws) s.views id v
          (λ j y there none. ap (times x) ((h.each j y there).idle none)) at (omega arith) in
          sym mine ∙ h.once x;
      met = (h.each id v at).met;
      whole = λ some_ended. h.whole (omega arith);
    }

-- where a pass of the list has ended, the number of those that ended is not 0
ended_there : (xs : List Pass) (k : ℕ) (d : Pass) → k < length xs → (get_or xs k d).ended ≡ true
    → 0 < total one_if_ended xs
ended_there [] k d in_list e = absurd (omega arith)
ended_there (p ∷ xs) zero d in_list e =
    let here : one_if_ended p ≡ 1 = ap (λ (b : Bool). cond b 1 0) e in omega arith
ended_there (p ∷ xs) (suc k) d in_list e = let rest = ended_there xs k d (omega arith) e in
    omega arith

-- the records of all passes fit together
pub each_once : (count : ℕ) (all : List Pass) (v : View) → Gathered all v → KnowsAll count v
    → EachDrawnOnce count all
each_once count all v g k = record {
  drawn = k.drawn;
  bound = k.bound;
  once = λ x. sym (g.once x) ∙ k.once x;
  met = λ j d in_list.
      let here = at_most_greatest (λ (p : Pass). p.met) all j d in_list in
      let most = g.met in
      let own = k.met in
      omega arith;
  whole = λ j d in_list e.
      let some_ended = ended_there all j d in_list e in
      let all_ends = g.ends in
      k.whole (omega arith);
}

-- claims whose passes are all back have each number drawn once
pub back : (terms : Terms) (t : TableId) (all : List Pass) (word : ℕ) → length all ≡ terms.callers
    → AllBack (Kept terms) (pass_of t) IsOnePass both all word → EachDrawnOnce terms.count all
back terms t all word every b =
    let v = joined both b.before b.last in
    let g = subst (λ (ps : List Pass). Gathered ps v) b.shown (gathered t b.before b.last b.each_own) in
    let parts = g.parts in
    each_once terms.count all v g (knows_all terms b.place v b.state b.kept b.there (omega arith))

-- and so of claims with this count, where as many passes are back as they have
pub back_of : (key : Terms) (t : TableId) (count callers : ℕ) (all : List Pass) (word : ℕ) → IsClaim t key count callers
    → length all ≡ callers → AllBack (Kept key) (pass_of t) IsOnePass both all word → EachDrawnOnce count all
back_of key t count callers all word is every b =
    subst (λ (n : ℕ). EachDrawnOnce n all) (ap (λ (k : Terms). k.count) is.0)
    (back key t all word (every ∙ sym (ap (λ (k : Terms). k.callers) is.0)) b)
