-- What is true of the counter and of all records between any two steps, and what each step does to a record.
use Rattle.std.specs.Prelude.{◌≡◌, ℕ, ◌+◌, ◌-◌, ◌^◌, ◌<◌, ◌≤◌, max, [], ◌∷◌, ◌++◌, All}
use mathlib.Core.Option.{some}
use lib.ListN.{get_elem?}
use Rattle.atomic_table.specs.Table.{State, Me, Step}
use Rattle.list_totals.specs.Totals.{total, times, once_below}
use Rattle.claim_word.specs.declared.rule.View.{View}
use Rattle.claim_word.specs.declared.rule.Terms.{Terms}

-- the record of `parts` passes that have drawn nothing
abbrev pub fresh : Terms → ℕ → View
fresh t parts = record {
  count = t.count;
  callers = t.callers;
  parts = parts;
  draws = [];
  met =
      0;
  ends = 0;
}

-- the first record stands for all passes
abbrev pub root : Terms → View
root t = fresh t t.callers

-- a record without one of its passes
abbrev pub less : View → View
less v = record v { parts = v.parts - 1 }

-- the record of one pass of the same terms that has drawn nothing
abbrev pub one : View → View
one v = record { count = v.count; callers = v.callers; parts = 1; draws = []; met = 0; ends = 0 }

-- two records as one
abbrev pub both : View → View → View
both v w = record v {
  parts = v.parts + w.parts;
  draws = v.draws ++ w.draws;
  met =
      max v.met w.met;
  ends = v.ends + w.ends;
}

-- the record of no pass
abbrev pub spent : View
spent = record { count = 0; callers = 0; parts = 0; draws = []; met = 0; ends = 0 }

-- the record after a draw of n
abbrev pub taken : View → ℕ → View
taken v n = record v { draws = v.draws ++ n ∷ []; met = n + 1 }

-- the record after a draw that found all numbers drawn
abbrev pub ended : View → View
ended v = record v { met = v.count; ends = v.ends + 1 }

-- a record fits where `drawn` numbers are drawn: no more passes ended than there are, a record of no pass has no
-- draws, its draws are below what it met, and it met no more than is drawn
pub record Fits (drawn : ℕ) (v : View) : Type 0 where
  pub ends : v.ends ≤ v.parts
  pub idle : v.parts ≡ 0 → v.draws ≡ []
  pub below : All (λ x. x < v.met) v.draws
  pub met : v.met ≤ drawn

-- the counter is the number of draws and ends; none ended before all were drawn; each number below `drawn` stands
-- once in all records, and no other stands there; and each record fits
pub record Kept (terms : Terms) (s : State ℕ View) : Type 0 where
  pub drawn : ℕ
  pub word : s.words ≡ (drawn + total (λ v. v.ends) s.views) ∷ []
  pub bound : drawn ≤ terms.count
  pub whole : 0 < total (λ v. v.ends) s.views → drawn ≡ terms.count
  pub parts : total (λ v. v.parts) s.views ≡ terms.callers
  pub room : terms.count + terms.callers < 2 ^ 64
  pub once : (x : ℕ) → total (λ v. times x v.draws) s.views ≡ once_below x drawn
  pub each : (j : ℕ) (v : View) → get_elem? s.views j ≡ some v → Fits drawn v

-- an add found n: a number below the count is drawn, and from the count on the pass has ended
pub record Draws (s : Step ℕ) (v : Me ℕ View) (n : ℕ) (w : Me ℕ View) : Type 0 where
  pub slots : w.1 ≡ []
  pub above : All (λ x. x < n) v.0.draws
  pub met : n < v.0.count → v.0.met ≤ n
  pub taken : n < v.0.count → w.0 ≡ taken v.0 n
  pub ended : v.0.count ≤ n → w.0 ≡ ended v.0
