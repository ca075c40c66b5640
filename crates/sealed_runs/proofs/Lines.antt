-- The visits of all passes at one run say what the closed run is.
use Rattle.std.proofs.Common.{◌≡◌, ◌≢◌, ◌⊎◌, ℕ, zero, suc, ◌-◌, ◌*◌, ◌<◌, ◌≤◌, List, length, get_or, map, All, Any, Contains, Option, Some, None, IfSome, true, refl, sym, ap, ◌∙◌, subst, ⊎_elim, arith}
use Rattle.std.proofs.lemmas.List.{get_or_default}
use Rattle.std.proofs.lemmas.List.Elements.{All-map, Contains-get_or}
use mathlib.Core.Logic.{dite}
use native.Mathlib.Decide.{ℕ_discrete}
use Rattle.series_core.proofs.EntryOrder.{bounds_rise}
use Rattle.series_core.specs.declared.queue_words.Entry.{Entry}
use Rattle.claim_word.specs.Passes.{Pass, EachDrawnOnce}
use Rattle.list_totals.specs.Standing.{In}
use Rattle.list_totals.specs.Totals.{total, times, once_below}
use Rattle.list_totals.proofs.Standing.{contains_in, in_contains}
use Rattle.list_totals.proofs.Totals.{total_map, once_below_yes, once_below_most, total_le}
use Rattle.list_totals.proofs.Greatest.{at_most_greatest, greatest_le, greatest_map}
use Rattle.list_totals.proofs.Below.{sum_below_same, totals_by_number}
use Rattle.list_totals.proofs.Places.{total_place, total_some, total_two, times_at, times_contains}
use Rattle.series_core.specs.EntryOrder.{IsAscending}
use Rattle.sealed_runs.specs.Entries.{Run, no_entry, entry_at}
use Rattle.sealed_runs.specs.Visits.{Visit, handed, leaves, IsVisit, no_visit}
use Rattle.sealed_runs.specs.Closed.{least_limit, IsLine}
use Rattle.sealed_runs.specs.Tallied.{Refusals, reach_of, IsTally, Takes}
use Rattle.sealed_runs.proofs.Members.{contains_map, map_contains, in_or_not}
use Rattle.sealed_runs.proofs.Taking.{not_counted}
use Rattle.sealed_runs.proofs.Handing.{handed_drawn, drawn_handed, handed_times}
use Rattle.sealed_runs.proofs.Limits.{least_limit_at, above_least}

-- an option that is not None has a value
some_of : (o : Option ℕ) → o ≢ None → (n : ℕ) × (o ≡ Some n)
some_of None not_none = absurd (not_none refl)
some_of (Some n) not_none = (n, refl)

-- a visit that refused a place has the limit of a Closed reply
limit_of : (run : Run) (v : Visit) → IsVisit run v → (x : ℕ) → v.refused ≡ Some x → (limit : ℕ)
    × (v.closed ≡ Some limit)
limit_of run v own x is = some_of v.closed (λ none. none_is_some x (sym ((own.going none).1) ∙ is))
  where
    none_is_some : (x : ℕ) → None ≡ Some x → ⊥
    none_is_some x e = grind arith

-- a place is below another or not
near_or_far : (x n : ℕ) → (x < n) ⊎ (n ≤ x)
near_or_far x n = grind arith

-- the reach is at most what is drawn
reach_low : (count : ℕ) (vs : List Visit)
    (once : EachDrawnOnce count (map (λ (v : Visit). v.claim) vs))
    → reach_of vs ≤ once.drawn
reach_low count vs once =
    let each = greatest_le (λ (p : Pass). p.met) once.drawn (map (λ (v : Visit). v.claim) vs)
    once.met in
    let same = greatest_map (λ (p : Pass). p.met) (λ (v : Visit). v.claim) vs in
    omega arith

module _ (run : Run) (vs : List Visit) (own : All (IsVisit run) vs) (some : 0 < length vs)
    (once : EachDrawnOnce (length run.entries) (map (λ (v : Visit). v.claim) vs))
    (refused : List ℕ) (refusals : Refusals vs refused) (taken : List Entry)
    (takes : Takes run.entries refused (reach_of vs) taken) (ascending : IsAscending run.entries)
  where
    -- visit k
    abbrev visit : ℕ → Visit
    visit k = get_or vs k no_visit

    -- how often the visits drew place x
    drawn_times : (x : ℕ) → total (λ (v : Visit). times x v.claim.draws) vs ≡ once_below x once.drawn
    drawn_times x = sym (total_map (λ (p : Pass). times x p.draws) (λ (v : Visit). v.claim) vs)
        ∙ once.once x

    -- what a visit knows drawn is below the reach
    within : (k : ℕ) → k < length vs → (visit k).claim.met ≤ reach_of vs
    within k in_list = at_most_greatest (λ (v : Visit). v.claim.met) vs k no_visit in_list

    -- a place that a visit drew is below the reach
    drawn_low : (k x : ℕ) → k < length vs → Contains (visit k).claim.draws x → x < reach_of vs
    drawn_low k x in_list there =
        let below = (own k no_visit in_list).below there.0 x there.1 in
        let is = there.2 in
        let most = within k in_list in
        omega arith

    -- no two visits drew one place
    apart : (i j x : ℕ) → i < length vs → j < length vs → Contains (visit i).claim.draws x
        → Contains (visit j).claim.draws x → i ≢ j → ⊥
    apart i j x i_in j_in mine theirs differ =
        let a = times_at x (visit i).claim.draws mine.0 x mine.1 mine.2 in
        let b = times_at x (visit j).claim.draws theirs.0 x theirs.1 theirs.2 in
        let all = drawn_times x in
        let most = once_below_most x once.drawn in
        ⊎_elim
        (λ (less : i < j).
        let two = total_two (λ (v : Visit). times x v.claim.draws) vs i j no_visit less j_in in
        omega arith)
        (λ (more : j < i).
        let two = total_two (λ (v : Visit). times x v.claim.draws) vs j i no_visit more i_in in
        omega arith)
        (either i j differ)
      where
        either : (i j : ℕ) → i ≢ j → (i < j) ⊎ (j < i)
        either i j differ = grind arith

    -- a handed-out place was refused by nobody
    not_refused : (k x : ℕ) → k < length vs → Contains (handed (visit k)) x → ¬ (Contains refused x)
    not_refused k x in_list there is =
        let mine = drawn_handed (visit k) x there in
        let who = refusals.from x is in
        let theirs = in_contains (visit who.0).claim.draws x ((own who.0 no_visit who.1).refused x who.2) in
        dite (ℕ_discrete k who.0)
        (λ (same : k ≡ who.0). mine.1 (subst (λ j. (visit j).refused ≡ Some x) (sym same) who.2))
        (λ (differ : k ≢ who.0). apart k who.0 x in_list who.1 mine.0 theirs differ)

    -- a place below the reach was drawn by some visit
    drawn_by : (x : ℕ) → x < reach_of vs → (k : ℕ) × (k < length vs)
        × Contains (visit k).claim.draws x
    drawn_by x low =
        let most = reach_low (length run.entries) vs once in
        let one = once_below_yes x once.drawn (omega arith) in
        let all = drawn_times x in
        let who = total_some (λ (v : Visit). times x v.claim.draws) vs no_visit (omega arith) in
        (who.0, who.1, times_contains x (visit who.0).claim.draws who.2)

    -- what was taken, some visit handed out
    taken_handed : (e : Entry) → In e taken → Any (λ v. In e (leaves run.entries v)) vs
    taken_handed e there =
        let x = takes.from e (in_contains taken e there) in
        let who = drawn_by x.0 x.1 in
        let v = visit who.0 in
        let mine = handed_drawn v x.0 who.2 (λ is. x.2 (refusals.all who.0 x.0 who.1 is)) in
        let leaf = subst (Contains (leaves run.entries v)) x.3
        (contains_map (entry_at run.entries) (handed v) x.0 mine) in (
          who.0,
          v,
          who.1,
          get_or_default vs who.0 v no_visit who.1,
          contains_in (leaves run.entries v) e leaf,
        )

    -- what some visit handed out was taken
    handed_taken : (e : Entry) → Any (λ v. In e (leaves run.entries v)) vs → In e taken
    handed_taken e (k, v, in_list, is, leaf) =
        let x = map_contains (entry_at run.entries) (handed v) e
        (in_contains (leaves run.entries v) e leaf) in
        let same = sym is ∙ get_or_default vs k v no_visit in_list in
        let there = subst (λ (w : Visit). Contains (handed w) x.0) same x.1 in
        let low = drawn_low k x.0 in_list (drawn_handed (visit k) x.0 there).0 in
        contains_in taken e
        (subst (Contains taken) x.2 (takes.all x.0 low (not_refused k x.0 in_list there)))

    -- no place was handed out twice
    handed_once : (x : ℕ) → total (λ (v : Visit). times x (handed v)) vs ≤ 1
    handed_once x =
        let fewer = total_le (λ (v : Visit). times x (handed v))
        (λ (v : Visit). times x v.claim.draws) vs
        (λ j v at. handed_times v x) in
        let all = drawn_times x in
        let most = once_below_most x once.drawn in
        omega arith

    -- a place below the reach is handed out once where it was refused by nobody, and else not
    handed_count : (x : ℕ) → x < reach_of vs
        → total (λ (v : Visit). times x (handed v)) vs ≡ 1 - times x refused
    handed_count x low = ⊎_elim
        (λ (is : Contains refused x).
        let some = times_at x refused is.0 x is.1 is.2 in
        let none = nobody (total (λ (v : Visit). times x (handed v)) vs) (λ handed_some.
        let who = total_some (λ (v : Visit). times x (handed v)) vs no_visit handed_some in
        not_refused who.0 x who.1 (times_contains x (handed (visit who.0)) who.2) is) in
        omega arith)
        (λ (not : ¬ (Contains refused x)).
        let none = not_counted refused x not in
        let who = drawn_by x low in
        let mine = handed_drawn (visit who.0) x who.2 (λ is. not (refusals.all who.0 x who.1 is)) in
        let some = times_at x (handed (visit who.0)) mine.0 x mine.1 mine.2 in
        let part = total_place (λ (v : Visit). times x (handed v)) vs who.0 no_visit who.1 in
        let most = handed_once x in
        omega arith)
        (in_or_not refused x)
      where
        nobody : (k : ℕ) → (0 < k → ⊥) → k ≡ 0
        nobody zero not = refl
        nobody (suc k) not = absurd (not (omega arith))

    -- what a visit handed out is below the reach
    handed_low : All (λ v. All (λ x. x < reach_of vs) (handed v)) vs
    handed_low k d in_list = subst (λ (v : Visit). All (λ x. x < reach_of vs) (handed v))
        (sym (get_or_default vs k d no_visit in_list))
        (λ j e j_in.
        let x = get_or (handed (visit k)) j e in
        drawn_low k x in_list
        (drawn_handed (visit k) x (Contains-get_or (handed (visit k)) j e j_in)).0)

    -- what is counted of the taken entries is what is counted of all that was handed out
    taken_counts : (f : Entry → ℕ) → total f taken ≡ total (λ v. total f (leaves run.entries v)) vs
    taken_counts f =
        let part = λ (x : ℕ). f (entry_at run.entries x) in
        takes.counts f
        ∙ sum_below_same (reach_of vs) (λ x. (1 - times x refused) * part x)
        (λ x. total (λ (v : Visit). times x (handed v)) vs * part x)
        (λ x low. ap (λ k. k * part x) (sym (handed_count x low)))
        ∙ sym (totals_by_number (reach_of vs) part handed vs handed_low)
        ∙ sym (λ i. total (λ (v : Visit). total_map f (entry_at run.entries) (handed v) i) vs)

    -- a refused place is above the least limit
    refused_above : (x : ℕ) → Contains refused x
        → IfSome (least_limit vs) (λ least. least < (entry_at run.entries x).bound)
    refused_above x is =
        let who = refusals.from x is in
        let v = own who.0 no_visit who.1 in
        let told = limit_of run (visit who.0) v x who.2 in
        let least = least_limit_at vs who.0 no_visit told.0 who.1 told.1 in
        above_least (least_limit vs) told.0 (entry_at run.entries x).bound least
        (v.above x told.0 who.2 told.1)

    -- where each visit is closed, a place that nobody knows drawn is above the least limit
    unknown_above : All (λ v. v.closed ≢ None) vs → (x : ℕ) → reach_of vs ≤ x → x < length run.entries
        → IfSome (least_limit vs) (λ least. least < (entry_at run.entries x).bound)
    unknown_above closed x far low =
        let v = own 0 no_visit some in
        let told = some_of (visit 0).closed (closed 0 no_visit some) in
        ⊎_elim
        (λ (ended : (visit 0).claim.ended ≡ true).
        let most = within 0 some in let all = v.ended ended in absurd (omega arith))
        (λ (place : (visit 0).refused ≢ None).
        let y = some_of (visit 0).refused place in
        let least = least_limit_at vs 0 no_visit told.0 some told.1 in
        let before = drawn_low 0 y.0 some (in_contains (visit 0).claim.draws y.0 (v.refused y.0 y.1)) in
        let bound = v.above y.0 told.0 y.1 told.1 in
        let rises = bounds_rise (entry_at run.entries y.0) (entry_at run.entries x)
        (ascending y.0 x no_entry (omega arith) low) in
        above_least (least_limit vs) told.0 (entry_at run.entries x).bound least (omega arith))
        (v.shut told.0 told.1)

    -- where each visit is closed, what was not taken is above the least limit
    rest_above : All (λ v. v.closed ≢ None) vs → (e : Entry) → In e run.entries
        → ¬ (In e taken)
        → IfSome (least_limit vs) (λ least. least < e.bound)
    rest_above closed e within not_taken =
        let there = in_contains run.entries e within in
        let x = there.0 in
        let is : entry_at run.entries x ≡ e = get_or_default run.entries x no_entry e there.1
        ∙ there.2 in
        let at_x = place_above x there.1
        (λ taken_there. not_taken (contains_in taken e (subst (Contains taken) is taken_there))) in
        subst (λ (f : Entry). IfSome (least_limit vs) (λ least. least < f.bound)) is at_x
      where
        place_above : (x : ℕ) → x < length run.entries → ¬ (Contains taken (entry_at run.entries x))
            → IfSome (least_limit vs) (λ least. least < (entry_at run.entries x).bound)
        place_above x low not_there = ⊎_elim
            (λ (is : Contains refused x). refused_above x is)
            (λ (not : ¬ (Contains refused x)). ⊎_elim
            (λ (near : x < reach_of vs). absurd (not_there (takes.all x near not)))
            (λ (far : reach_of vs ≤ x). unknown_above closed x far low)
            (near_or_far x (reach_of vs)))
            (in_or_not refused x)

    -- the line that these visits close
    pub line : IsLine run vs record { taken = taken; kept = least_limit vs }
    line = record {
      ascending = takes.ascending;
      exactly = λ e. (taken_handed e, handed_taken e);
      counts = taken_counts;
      once = handed_once;
      kept = refl;
      rest = rest_above;
    }

-- the passes of visits of a run are of its counter
pub own_claims : (run : Run) (vs : List Visit) (passes : List Pass)
    → passes ≡ map (λ (v : Visit). v.claim) vs
    → All (IsVisit run) vs → All (λ p. p.claims ≡ run.claims) passes
own_claims run vs passes is own =
    subst (All (λ (p : Pass). p.claims ≡ run.claims)) (sym is)
    (All-map (λ (p : Pass). p.claims ≡ run.claims) (λ (v : Visit). v.claim) vs
    (λ k d in_list. (own k d in_list).claims))

module _ (run : Run) (vs : List Visit) (passes : List Pass) (count reach : ℕ) (refused : List ℕ)
    (kept : Option ℕ)
    (count_is : count ≡ length run.entries) (tally : IsTally vs passes reach refused kept)
    (closed : EachDrawnOnce count passes) where
  -- what the close of the counter says of the visits
  once_of : EachDrawnOnce (length run.entries) (map (λ (v : Visit). v.claim) vs)
  once_of = subst (λ (n : ℕ). EachDrawnOnce n (map (λ (v : Visit). v.claim) vs)) count_is
      (subst (EachDrawnOnce count) tally.claims closed)

  -- the reach is at most the number of places
  pub reach_fits : reach ≤ length run.entries
  reach_fits =
      let bound = once_of.bound in
      let low = reach_low (length run.entries) vs once_of in
      let is = tally.reach in
      omega arith

  -- the line that a tally closes
  pub tally_line : (es taken : List Entry) → es ≡ run.entries → Takes es refused reach taken
      → IsAscending run.entries → All (IsVisit run) vs → 0 < length vs
      → IsLine run vs record { taken = taken; kept = kept }
  tally_line es taken es_is takes ascending own some =
      let takes_all = subst (λ (n : ℕ). Takes run.entries refused n taken) tally.reach
      (subst (λ (xs : List Entry). Takes xs refused reach taken) es_is takes) in
      let closes = line run vs own some once_of refused tally.refused taken takes_all ascending in
      subst (λ (k : Option ℕ). IsLine run vs record { taken = taken; kept = k }) (sym tally.kept)
      closes
