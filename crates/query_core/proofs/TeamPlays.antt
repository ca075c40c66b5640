-- A team that plays a schedule entry by entry stands for the state to which the schedule leads.
use Rattle.std.proofs.Common.{Err, List, Ok, Result, [], ap, arith, get_or, length, refl, subst, suc, sym, take, zero, ℕ, ⊎_elim, ◌++◌, ◌+◌, ◌<◌, ◌∙◌, ◌∷◌, ◌≡◌, ◌≤◌}
use Rattle.std.proofs.lemmas.Bool.{cases_eq}
use Rattle.std.proofs.lemmas.List.{take_more}
use Rattle.std.proofs.lemmas.Option.{slice_get_within, get_or_from_slice_get}
use Rattle.std.specs.Result.{IfOk}
use Rattle.std.specs.Prelude.{replicate, slice_get}
use Rattle.list_totals.specs.Totals.{times}
use Rattle.search_machine.specs.Ground.{Fits, Ground, enough_turns}
use Rattle.search_machine.specs.Machine.{State, opened, played, run, turn}
use Rattle.search_machine.specs.declared.outcome.Outcome.{Outcome}
use Rattle.search_machine.specs.Legal.{IsStraight, Legal}
use Rattle.search_machine.specs.Outcome.{AllDone, outcome}
use Rattle.query_core.specs.Replays.{FirstUnfinished, NamesWorkers, NoStranger}
use Rattle.query_core.specs.Teams.{AreDone, EndsAlone, IsFirstBusy, StandsAt, TeamParts, searched}
use Rattle.search_machine.proofs.Counts.{equal_counts}
use Rattle.search_machine.proofs.Ending.{ending_legal}
use Rattle.search_machine.proofs.Opening.{opening_sound}
use Rattle.search_machine.proofs.OneWorker.{opening_straight, run_straight, straight_outcome}
use Rattle.search_machine.proofs.Places.{get_some}
use Rattle.search_machine.proofs.Schedules.{enough_done, played_sound}

-- one turn more at the end of a schedule
run_push : (g : Ground) (is : List ℕ) (i : ℕ) (s : State) → run g (is ++ i ∷ []) s ≡ turn g i (run g is s)
run_push g [] i s = refl
run_push g (j ∷ is) i s = run_push g is i (turn g j s)

-- one entry more of a schedule is played
pub played_more : (g : Ground) (schedule : List ℕ) (n : ℕ) → n < length schedule
    → played g (take (n + 1) schedule) ≡ turn g (get_or schedule n 0) (played g (take n schedule))
played_more g schedule n low =
    ap (λ (is : List ℕ). run g is (opened g)) (take_more schedule n 0 low)
    ∙ run_push g (take n schedule) (get_or schedule n 0) (opened g)

-- one turn more of worker 0
repeat_more : (g : Ground) (n : ℕ) (s : State)
    → run g (replicate n 0) (turn g 0 s) ≡ turn g 0 (run g (replicate n 0) s)
repeat_more g zero s = refl
repeat_more g (suc n) s = repeat_more g n (turn g 0 s)

-- one turn more of worker 0 alone
pub alone_more : (g : Ground) (n : ℕ)
    → played g (replicate (n + 1) 0) ≡ turn g 0 (played g (replicate n 0))
alone_more g n =
    let e : n + 1 ≡ suc n = omega arith in
    ap (λ (k : ℕ). played g (replicate k 0)) e ∙ repeat_more g n (opened g)

-- a repeated number stands in the list as often
times_replicate : (n i : ℕ) → times i (replicate n i) ≡ n
times_replicate zero i = refl
times_replicate (suc n) i =
    let a = times_replicate n i in let b = equal_counts i i refl in omega arith

-- one worker alone is done after enough turns
pub alone_done : (g : Ground) → Fits g → g.workers ≡ 1 → (n : ℕ) → enough_turns g ≤ n
    → AllDone (played g (replicate n 0))
alone_done g fits one n enough = enough_done g fits (replicate n 0) (λ i low.
    let z : i ≡ 0 = omega arith in
    let t = times_replicate n 0 in
    subst (λ (j : ℕ). enough_turns g ≤ times j (replicate n 0)) (sym z) (omega arith))

-- one entry more names a worker
pub names_more : (g : Ground) (schedule : List ℕ) (n : ℕ) → NamesWorkers g schedule n
    → get_or schedule n 0 < g.workers → NamesWorkers g schedule (n + 1)
names_more g schedule n names here at i low e = ⊎_elim
    (λ (same : at ≡ n).
    let v : get_or schedule n 0 ≡ i = get_or_from_slice_get schedule n i 0
    (ap (slice_get schedule) (sym same) ∙ e) in
    omega arith)
    (λ (other : at ≡ n → ⊥). names at i (omega arith) e)
    (cases_eq at n)

-- where all entries name workers there is no stranger
pub no_stranger : (g : Ground) (schedule : List ℕ) (n : ℕ) → NamesWorkers g schedule n
    → length schedule ≤ n → NoStranger g schedule
no_stranger g schedule n names all at i e =
    let low = slice_get_within schedule at i e in names at i (omega arith) e

module _ (t : TeamParts) (s : State) (stands : StandsAt t s) where
  -- where the team's workers are done, so are the state's
  pub all_done : AreDone t.workers → AllDone s
  all_done done i m e =
      let inside = slice_get_within s.workers i m e in
      let count = stands.count in
      let w = get_some t.workers i (omega arith) in
      (stands.shows i w.0 m w.1 e).phase ∙ done i w.0 w.1

-- the team's first busy worker is the first that the schedule does not leave done
pub first_unfinished : (g : Ground) (schedule : List ℕ) (t : TeamParts) → StandsAt t (played g schedule)
    → (i : ℕ) → IsFirstBusy t.workers i → FirstUnfinished g schedule i
first_unfinished g schedule t stands i busy =
    let inside = slice_get_within t.workers i busy.worker busy.there in
    let count = stands.count in
    let m = get_some (played g schedule).workers i (omega arith) in
    let shows = stands.shows i busy.worker m.0 busy.there m.1 in
    record {
      worker = m.0;
      there = m.1;
      not_done = λ e. busy.busy (sym shows.phase ∙ e);
      first = λ j v low e.
          let w = get_some t.workers j (omega arith) in
          (stands.shows j w.0 v w.1 e).phase ∙ busy.first j w.0 low w.1;
    }

-- what follows from a fact follows of a value that is there
pub if_ok : {T E : Type 0} (P Q : T → Type 0) (r : Result T E) → ((x : T) → P x → Q x) → IfOk r P
    → IfOk r Q
if_ok P Q (Ok x) f p = f x p
if_ok P Q (Err e) f p = tt

module _ (g : Ground) (fits : Fits g) (t : TeamParts) (over : searched t ≡ g) (ends : EndsAlone t) where
  -- the state to which the turns of worker 0 led
  abbrev last_state : State
  last_state = played g (replicate ends.turns 0)

  ended_done : AllDone last_state
  ended_done = subst (λ (h : Ground). AllDone (played h (replicate ends.turns 0))) over ends.all_done

  -- its outcome is legal
  pub alone_legal : (o : Outcome) → o ≡ outcome (searched t) (played (searched t) (replicate ends.turns 0))
      → Legal g o
  alone_legal o e =
      subst (Legal g) (sym (e ∙ ap (λ (h : Ground). outcome h (played h (replicate ends.turns 0))) over))
      (ending_legal g fits last_state (played_sound g fits (replicate ends.turns 0)) ended_done)

  -- and straight
  pub alone_straight : g.workers ≡ 1 → (o : Outcome)
      → o ≡ outcome (searched t) (played (searched t) (replicate ends.turns 0)) → IsStraight o
  alone_straight one o e =
      subst IsStraight (sym (e ∙ ap (λ (h : Ground). outcome h (played h (replicate ends.turns 0))) over))
      (straight_outcome g fits last_state (played_sound g fits (replicate ends.turns 0))
      (run_straight g fits one (replicate ends.turns 0) (opened g) (opening_sound g fits) (opening_straight g))
      ended_done)
