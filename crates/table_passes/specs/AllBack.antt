-- All passes to a word are back: one record was joined from those of all, and the rule speaks of it.
use Rattle.std.specs.Prelude.{◌≡◌, ℕ, List, [], ◌∷◌, ◌++◌, map, All}
use mathlib.Core.Option.{some}
use lib.ListN.{get_elem?}
use Rattle.atomic_table.specs.Table.{State}

-- the last record, when it has taken in those before it, from behind
abbrev pub joined : {V : Type 0} → (V → V → V) → List V → V → V
joined both [] last = last
joined both (v ∷ before) last = both (joined both before last) v

-- there is a record of its own for each pass, and the rule holds of a state with this word in which some record is
-- joined from all of them
pub record AllBack {V P : Type 0} (holds : State ℕ V → Type 0) (seen : V → P) (own : V → Type 0)
    (both : V → V → V) (passes : List P) (word : ℕ) : Type 0 where
  pub before : List V
  pub last : V
  pub each_own : All own (before ++ last ∷ [])
  pub shown : map seen (before ++ last ∷ []) ≡ passes
  pub state : State ℕ V
  pub kept : holds state
  pub word_is : get_elem? state.words 0 ≡ some word
  pub place : ℕ
  pub there : get_elem? state.views place ≡ some (joined both before last)
