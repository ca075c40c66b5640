-- What is true of the falling number and of all records between any two steps, and what each step does to a record.
use Rattle.std.specs.Prelude.{◌≡◌, ◌≢◌, ℕ, ◌+◌, ◌-◌, ◌≤◌, ◌<◌, List, [], ◌∷◌, ◌++◌, All, AllPairs, ◌⊎◌}
use mathlib.Core.Option.{some}
use lib.ListN.{get_elem?}
use Rattle.atomic_table.specs.Table.{State, Me, Step}
use Rattle.list_totals.specs.Totals.{total}
use Rattle.best_word.specs.Traces.{reply, AtMost, Crosses, Offered}
use Rattle.best_word.specs.declared.rule.View.{View}
use Rattle.best_word.specs.declared.rule.Terms.{Terms}
use Rattle.best_word.specs.declared.rule.Event.{Event}
use Rattle.best_word.specs.declared.rule.Event.TheVariants.{Read, Offer}

-- the record of `parts` passes of this floor that have read and offered nothing
abbrev pub fresh : Terms → ℕ → ℕ → View
fresh t floor parts =
    record { start = t.start; floor = floor; callers = t.callers; parts = parts; trace = [] }

-- the first record stands for all passes and has yet to be given their floor
abbrev pub root : Terms → View
root t = fresh t 0 t.callers

-- a record with this floor
abbrev pub floored : View → ℕ → View
floored v floor = record v { floor = floor }

-- a record without one of its passes
abbrev pub less : View → View
less v = record v { parts = v.parts - 1 }

-- the record of one pass of the same terms that has read and offered nothing
abbrev pub one : View → View
one v = record v { parts = 1; trace = [] }

-- two records as one, with the trace of the second before that of the first
abbrev pub both : View → View → View
both v w = record v { floor = w.floor; parts = v.parts + w.parts; trace = w.trace ++ v.trace }

-- the record of no pass
abbrev pub spent : View
spent = record { start = 0; floor = 0; callers = 0; parts = 0; trace = [] }

-- the record after one read or offer more
abbrev pub seen : View → Event → View
seen v e = record v { trace = v.trace ++ e ∷ [] }

-- a record fits where the number is `low`: a record of no pass has no trace and any other has the common floor,
-- nothing that it found or offered is below `low`, and its offers cross
pub record Fits (common low : ℕ) (v : View) : Type 0 where
  pub idle : v.parts ≡ 0 → v.trace ≡ []
  pub floor : 0 < v.parts → v.floor ≡ common
  pub below : All (AtMost low) v.trace
  pub crossed : AllPairs Crosses v.trace

-- some record has n as an offer
pub record Met (n : ℕ) (views : List View) : Type 0 where
  pub seat : ℕ
  pub view : View
  pub there : get_elem? views seat ≡ some view
  pub offered : Offered n view.trace

-- n is the start, or some record has it as an offer
abbrev pub Source : ℕ → List View → ℕ → Type 0
Source start views n = (n ≡ start) ⊎ Met n views

-- each offer of one trace crosses each of the other
abbrev pub CrossAll : List Event → List Event → Type 0
CrossAll xs ys = All (λ a. All (Crosses a) ys) xs

-- the number is between the common floor and the start; it and each reply is the start or was offered; the offers
-- of all records cross; and each record fits
pub record Kept (terms : Terms) (s : State ℕ View) : Type 0 where
  pub low : ℕ
  pub word : s.words ≡ low ∷ []
  pub floor : ℕ
  pub bound : floor ≤ low
  pub start : low ≤ terms.start
  pub source : Source terms.start s.views low
  pub parts : total (λ v. v.parts) s.views ≡ terms.callers
  pub each : (j : ℕ) (v : View) → get_elem? s.views j ≡ some v → Fits floor low v
  pub replies : (j : ℕ) (v : View) → get_elem? s.views j ≡ some v
      → All (λ e. Source terms.start s.views (reply e)) v.trace
  pub crossed : (i j : ℕ) (u v : View) → i ≢ j → get_elem? s.views i ≡ some u
      → get_elem? s.views j ≡ some v → CrossAll u.trace v.trace

-- the opening load gives the record this floor
pub record Opens (floor : ℕ) (s : Step ℕ) (v : Me ℕ View) (n : ℕ) (w : Me ℕ View) : Type 0 where
  pub slots : w.1 ≡ []
  pub view : w.0 ≡ floored v.0 floor

-- a step found n, which is between the floor and the start and at most all that the pass has found or offered
pub record Finds (v : Me ℕ View) (n : ℕ) (e : Event) (w : Me ℕ View) : Type 0 where
  pub slots : w.1 ≡ []
  pub low : v.0.floor ≤ n
  pub high : n ≤ v.0.start
  pub below : All (AtMost n) v.0.trace
  pub view : w.0 ≡ seen v.0 e

-- a load for a pass reads
abbrev pub Reads : Step ℕ → Me ℕ View → ℕ → Me ℕ View → Type 0
Reads s v n w = Finds v n (Read n) w

-- a min for a pass offers
abbrev pub Offers : Step ℕ → Me ℕ View → ℕ → Me ℕ View → Type 0
Offers s v n w = Finds v n (Offer s.first n) w
