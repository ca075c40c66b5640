-- What one pass did at one run: the places that it drew, the one that it refused, and the limit that closed it.
use Rattle.std.specs.Prelude.{◌≡◌, ◌≢◌, ℕ, ◌<◌, ◌≤◌, ◌⊎◌, List, Bool, true, false, not, All, Option, Some, None, filter, map, length, slice_index_or, nat_eq}
use Rattle.series_core.specs.declared.queue_words.Entry.{Entry}
use Rattle.claim_word.specs.Passes.{Claim, Pass, fresh_pass}
use Rattle.list_totals.specs.Standing.{In}
use Rattle.sealed_runs.specs.Entries.{Run, entry_at, no_run, run_at}

-- a visit: the record of its pass of the counter, the place whose entry was above the limit, and the limit of its
-- Closed reply
pub record Visit : Type 0 where
  pub claim : Pass
  pub refused : Option ℕ
  pub closed : Option ℕ

-- a visit that has done nothing
abbrev pub fresh_visit : Claim → Visit
fresh_visit c = record { claim = fresh_pass c; refused = None; closed = None }

-- what is read past the end of a list of visits
abbrev pub no_visit : Visit
no_visit = fresh_visit (no_run.claims)

-- the visit of a pass at run m
abbrev pub visit_at : List Visit → ℕ → Visit
visit_at vs m = slice_index_or vs m no_visit

-- the visits of all passes at run m
abbrev pub column : List (List Visit) → ℕ → List Visit
column passes m = map (λ vs. visit_at vs m) passes

-- whether a place is the one that was refused
abbrev pub is_refused : Option ℕ → ℕ → Bool
is_refused None x = false
is_refused (Some y) x = nat_eq y x

-- the places whose entries a visit handed out: all that it drew but the one that it refused
abbrev pub handed : Visit → List ℕ
handed v = filter (λ x. not (is_refused v.refused x)) v.claim.draws

-- the entries of a visit's Leaf replies, in order
abbrev pub leaves : List Entry → Visit → List Entry
leaves es v = map (entry_at es) (handed v)

-- a visit is of a run: it draws from its counter; where it has no Closed reply it has refused no place and its pass
-- goes on; where it has one, it found the run ended or drew a place whose entry is above the limit
pub record IsVisit (run : Run) (v : Visit) : Type 0 where
  pub claims : v.claim.claims ≡ run.claims
  pub most : v.claim.met ≤ length run.entries
  pub below : All (λ x. x < v.claim.met) v.claim.draws
  pub ended : v.claim.ended ≡ true → v.claim.met ≡ length run.entries
  pub going : v.closed ≡ None → (v.claim.ended ≡ false) × (v.refused ≡ None)
  pub shut : (limit : ℕ) → v.closed ≡ Some limit → (v.claim.ended ≡ true) ⊎ (v.refused ≢ None)
  pub refused : (x : ℕ) → v.refused ≡ Some x → In x v.claim.draws
  pub above : (x limit : ℕ) → v.refused ≡ Some x → v.closed ≡ Some limit
      → limit < (entry_at run.entries x).bound

-- a pass is of these runs: it has one visit of each
pub record IsPass (runs : List Run) (visits : List Visit) : Type 0 where
  pub count : length visits ≡ length runs
  pub each : (m : ℕ) → m < length runs → IsVisit (run_at runs m) (visit_at visits m)
