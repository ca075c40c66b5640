-- What a clause says of a lock and its passes.
use Rattle.std.specs.Prelude.{◌≡◌, ℕ, ◌<◌, List, Some, length, slice_index_or, map, [], All}
use mathlib.Core.List.{IsPrefix}
use Rattle.list_totals.specs.Standing.{In}
use Rattle.turn_lock.specs.declared.object.Entry.{Entry}
use Rattle.turn_lock.specs.declared.lock.PassOf.{PassOf}
use Rattle.turn_lock.specs.declared.lock.LockOf.{LockOf}
use Rattle.turn_lock.specs.declared.object.Held.{Held}
use Rattle.turn_lock.specs.declared.plays.Knowing.{Knowing}
use Rattle.turn_lock.specs.declared.plays.Opening.{Opening}
use Rattle.turn_lock.specs.declared.plays.Role.TheVariants.{Idle}
use Rattle.turn_lock.specs.declared.plays.View.{View}
use Rattle.turn_lock.specs.Rule.{knowing}
use Rattle.turn_lock.specs.History.{calls_by, state_after, IsLegal}

-- a pass of a lock on an object O with calls C and replies R
abbrev pub Pass : Type 0 → Type 0 → Type 0 → Type 0
Pass O C R = PassOf (Held O C R) (View O C R)

-- a lock on an object O with calls C and replies R; P is the type of its rule
abbrev pub Lock : Type 0 → Type 0 → Type 0 → Type 0 → Type 0
Lock O C R P = LockOf (Held O C R) (View O C R) (Opening O) P

module _ {O C R : Type 0} where
  -- the history that the pass has seen
  abbrev pub seen_by : Pass O C R → List (Entry C R)
  seen_by p = p.seat.me.0.seen

  -- the pass's own calls, in their order
  abbrev pub made_by : Pass O C R → List (Entry C R)
  made_by p = p.seat.me.0.mine

  -- what the pass knows, for the end
  abbrev pub known_by : Pass O C R → Knowing C R
  known_by p = knowing p.seat.me.0

  -- the object that the lock was begun with
  abbrev pub opening_of : {P : Type 0} → Lock O C R P → O
  opening_of k = k.table.shared.key.object.value

  -- the number of the lock's passes
  abbrev pub callers_of : {P : Type 0} → Lock O C R P → ℕ
  callers_of k = k.table.shared.key.callers

  -- it is a pass of this lock
  abbrev pub IsPassOf : {P : Type 0} → Lock O C R P → Pass O C R → Type 0
  IsPassOf k p =
      (p.seat.table_id ≡ k.table.shared.table_id) × (p.seat.me.0.opening ≡ Some (opening_of k))
      × (p.seat.me.0.role ≡ Idle) × (p.seat.me.0.number ≡ p.number)

  -- the number, the own calls and what was seen are the same
  abbrev pub SamePass : Pass O C R → Pass O C R → Type 0
  SamePass p q = (q.number ≡ p.number) × (made_by q ≡ made_by p) × (seen_by q ≡ seen_by p)

  -- it is the pass with this number, and has seen and made no call
  abbrev pub IsNewPass : {P : Type 0} → Lock O C R P → ℕ → Pass O C R → Type 0
  IsNewPass k n p = IsPassOf k p × (p.number ≡ n) × (seen_by p ≡ []) × (made_by p ≡ [])

  -- they are numbered from 0 in order, and have seen and made no call
  abbrev pub AreNewPasses : {P : Type 0} → Lock O C R P → List (Pass O C R) → Type 0
  AreNewPasses k ps = (i : ℕ) (d : _) → i < length ps → IsNewPass k i (slice_index_or ps i d)

  -- each of the lock's numbers is there
  abbrev pub AreAll : {P : Type 0} → Lock O C R P → List (Pass O C R) → Type 0
  AreAll k ps = (n : ℕ) → n < callers_of k → In n (map (λ p. p.number) ps)

  -- what the pass has seen begins the history, whose calls by its number are just its own
  abbrev pub AgreesWith : List (Entry C R) → Pass O C R → Type 0
  AgreesWith log p = IsPrefix (seen_by p) log × (calls_by p.number log ≡ made_by p)

-- One legal history of all calls leads from the lock's opening object to o. Each call in it is one
-- of a caller's, and each of these passes agrees with it.
pub record HasOneHistory {O C R P : Type 0} (next : O → ℕ → C → O × R)
    (k : Lock O C R P) (ps : List (Pass O C R)) (o : O) : Type 0 where
  pub log : List (Entry C R)
  pub legal : IsLegal next (opening_of k) log
  pub leads : o ≡ state_after next (opening_of k) log
  pub callers_only : All (λ e. e.caller < callers_of k) log
  pub passes : All (AgreesWith log) ps
