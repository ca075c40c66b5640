-- What gathering the visits of one run keeps: the rule is that each visit adds its own part, whatever came before.
use Rattle.std.specs.Prelude.{◌≡◌, ℕ, ◌-◌, ◌*◌, ◌<◌, List, [], ◌∷◌, ◌++◌, map, length, slice_index_or, Option, Some, None, Contains}
use Rattle.series_core.specs.declared.queue_words.Entry.{Entry}
use Rattle.claim_word.specs.Passes.{Pass}
use Rattle.list_totals.specs.Below.{sum_below}
use Rattle.list_totals.specs.Totals.{total, times, greatest}
use Rattle.series_core.specs.EntryOrder.{IsAscending}
use Rattle.sealed_runs.specs.Entries.{entry_at}
use Rattle.sealed_runs.specs.Visits.{Visit, no_visit}
use Rattle.sealed_runs.specs.Closed.{least_limit}

-- the places with one more, where there is one
abbrev pub with_place : List ℕ → Option ℕ → List ℕ
with_place xs None = xs
with_place xs (Some x) = xs ++ x ∷ []

-- the places that some visit refused
pub record Refusals (vs : List Visit) (refused : List ℕ) : Type 0 where
  pub from : (x : ℕ) → Contains refused x → (k : ℕ) × (k < length vs)
      × ((slice_index_or vs k no_visit).refused ≡ Some x)
  pub all : (k x : ℕ) → k < length vs → (slice_index_or vs k no_visit).refused ≡ Some x
      → Contains refused x

-- how many places some pass of these visits knows drawn
abbrev pub reach_of : List Visit → ℕ
reach_of vs = greatest (λ v. v.claim.met) vs

-- a tally of these visits: their passes, the reach, the refused places and the least limit
pub record IsTally (vs : List Visit) (passes : List Pass) (most : ℕ) (places : List ℕ)
    (least : Option ℕ) : Type 0 where
  pub claims : passes ≡ map (λ v. v.claim) vs
  pub reach : most ≡ reach_of vs
  pub refused : Refusals vs places
  pub kept : least ≡ least_limit vs

-- a list has exactly the entries of the places below n that were not refused, each once and in ascending order
pub record Takes (es : List Entry) (refused : List ℕ) (n : ℕ) (taken : List Entry) : Type 0 where
  pub from : (e : Entry) → Contains taken e → (x : ℕ) × (x < n) × (¬ (Contains refused x))
      × (entry_at es x ≡ e)
  pub all : (x : ℕ) → x < n → ¬ (Contains refused x) → Contains taken (entry_at es x)
  pub ascending : IsAscending taken
  pub counts : (f : Entry → ℕ)
      → total f taken ≡ sum_below n (λ x. (1 - times x refused) * f (entry_at es x))
