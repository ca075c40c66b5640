-- A pop of one run changes the visit of that run alone, and the pass stays one of the runs.
use Rattle.std.proofs.Common.{◌≡◌, ◌≢◌, ℕ, ◌<◌, List, length, set, get_or-set_same, get_or-set_other, Some, None, true, false, refl, sym, ◌∙◌, subst, arith}
use Rattle.std.proofs.lemmas.List.{length-set, length-map, get_or-map}
use mathlib.Core.Logic.{dite}
use native.Mathlib.Decide.{ℕ_discrete}
use Rattle.sealed_runs.specs.Entries.{Run, no_run, run_at}
use Rattle.sealed_runs.specs.Visits.{Visit, fresh_visit, visit_at, no_visit, IsVisit, IsPass}
use Rattle.sealed_runs.specs.Sealing.{fresh_visits}

module _ (runs : List Run) (visits : List Visit) (m : ℕ) (w : Visit) (own : IsPass runs visits)
    (low : m < length runs) where
  -- the visit of the run is the new one
  pub new_visit : visit_at (set visits m w) m ≡ w
  new_visit = let count = own.count in get_or-set_same visits m w no_visit (omega arith)

  -- the pass stays one of the runs
  pub pass_stays : IsVisit (run_at runs m) w → IsPass runs (set visits m w)
  pass_stays new = record {
    count = length-set visits m w ∙ own.count;
    each = λ k in_list. dite (ℕ_discrete k m)
        (λ (same : k ≡ m).
        let at_m = subst (IsVisit (run_at runs m)) (sym new_visit) new in
        subst (λ j. IsVisit (run_at runs j) (visit_at (set visits m w) j)) (sym same) at_m)
        (λ (other : k ≢ m).
        subst (IsVisit (run_at runs k)) (sym (get_or-set_other visits m k w no_visit other))
        (own.each k in_list));
  }

-- a visit that has done nothing is one of its run
fresh_is_visit : (run : Run) → IsVisit run (fresh_visit run.claims)
fresh_is_visit run = record {
  claims = refl;
  most = omega arith;
  below = λ k d in_list. absurd (omega arith);
  ended = λ e. absurd (false_true e);
  going = λ _. (refl, refl);
  shut = λ limit e. absurd (none_some limit e);
  refused = λ x e. absurd (none_some x e);
  above = λ x limit e f. absurd (none_some x e);
}
  where
    none_some : (n : ℕ) → None ≡ Some n → ⊥
    none_some n e = grind arith

    false_true : false ≡ true → ⊥
    false_true e = grind arith

-- a pass that has done nothing is one of the runs
pub fresh_is_pass : (runs : List Run) → IsPass runs (fresh_visits runs)
fresh_is_pass runs = record {
  count = length-map runs (λ (run : Run). fresh_visit run.claims);
  each = λ m low. subst (IsVisit (run_at runs m))
      (sym (get_or-map (λ (run : Run). fresh_visit run.claims) runs m no_run no_visit low))
      (fresh_is_visit (run_at runs m));
}
