-- The rule of the lock's table, what a seat knows under it, and what each step tells.
-- Word 0 is 0 while nobody has the turn, and else one more than the holder's number.
use Rattle.std.specs.Prelude.{◌≡◌, ◌≢◌, ℕ, suc, ◌+◌, ◌<◌, ◌≤◌, List, [], ◌∷◌, ◌++◌, length, slice_index, All, Option, Some, None}
use mathlib.Core.Option.{some}
use mathlib.Core.List.{IsPrefix}
use lib.ListN.{get_elem?}
use Rattle.atomic_table.specs.Table.{State, Me, Step}
use Rattle.turn_lock.specs.declared.object.Entry.{Entry}
use Rattle.turn_lock.specs.declared.object.Held.{Held}
use Rattle.turn_lock.specs.declared.object.Last.{Last}
use Rattle.turn_lock.specs.declared.plays.Role.{Role}
use Rattle.turn_lock.specs.declared.plays.Role.TheVariants.{Dealer, Idle, Turn, Note, Closer}
use Rattle.turn_lock.specs.declared.plays.Knowing.{Knowing}
use Rattle.turn_lock.specs.declared.plays.View.{View}
use Rattle.turn_lock.specs.History.{entry, calls_by, state_after, IsLegal}

module _ {O C R : Type 0} where
  -- a seat in this role for the number n, with what it has seen and its own calls
  abbrev pub caller_view : Role → Option O → ℕ → List (Entry C R) → List (Entry C R) → View O C R
  caller_view role o n seen mine = record {
    role = role;
    opening = o;
    number = n;
    seen = seen;
    mine = mine;
    told = [];
    handed = [];
  }

  -- the seat that deals the numbers from n on
  abbrev pub dealer : O → ℕ → View O C R
  dealer o n = caller_view Dealer (Some o) n [] []

  -- the dealer once it has dealt its number
  abbrev pub dealt : View O C R → View O C R
  dealt v = caller_view Dealer v.opening (v.number + 1) [] []

  -- the pass that has the number of this dealer
  abbrev pub newcomer : View O C R → View O C R
  newcomer v = caller_view Idle v.opening v.number [] []

  -- what a pass has seen, written down for another
  abbrev pub note_of : View O C R → View O C R
  note_of v = caller_view Note v.opening v.number v.seen []

  -- the pass v that was told what the note w says
  abbrev pub told_of : View O C R → View O C R → View O C R
  told_of v w = record {
    role = v.role;
    opening = v.opening;
    number = v.number;
    seen = v.seen;
    mine = v.mine;
    told = w.seen;
    handed = v.handed;
  }

  -- the view of a pass that gives the turn back, with its call
  abbrev pub gave : O → View O C R → Last C R → View O C R
  gave o v l =
      let e : Entry C R = entry v.number l.call.value l.reply.value in
      caller_view Idle (Some o) v.number (v.seen ++ e ∷ []) (v.mine ++ e ∷ [])

  -- a seat to which these passes were handed in
  abbrev pub closer : List (Knowing C R) → View O C R
  closer ks = record {
    role = Closer;
    opening = None;
    number = 0;
    seen = [];
    mine = [];
    told = [];
    handed = ks;
  }

  -- what a pass knows, for the end
  abbrev pub knowing : View O C R → Knowing C R
  knowing v = record { number = v.number; seen = v.seen; mine = v.mine }

  -- what a seat in this role brings to the end: a pass itself, or all that was handed in to it
  abbrev pub gathered_in : Role → View O C R → List (Knowing C R)
  gathered_in Closer v = v.handed
  gathered_in _ v = knowing v ∷ []

  -- what a seat brings to the end
  abbrev pub gathered : View O C R → List (Knowing C R)
  gathered v = gathered_in v.role v

  -- the seat v after the pass w was handed in to it
  abbrev pub handed_in : View O C R → View O C R → View O C R
  handed_in v w = closer (knowing w ∷ gathered v)

-- a seat in this role may take passes in
abbrev pub MayGather : Role → Type 0
MayGather Idle = Unit {0}
MayGather Closer = Unit {0}
MayGather _ = ⊥

module _ {C R : Type 0} (callers word : ℕ) (seat_of : ℕ → ℕ) (log : List (Entry C R)) (j : ℕ) where
  -- the seat j has the number n, which does not have the turn
  abbrev pub HasNoTurn : ℕ → List (Entry C R) → List (Entry C R) → Type 0
  HasNoTurn n seen mine = (seat_of n ≡ j) × (word ≢ suc n) × IsPrefix seen log × (calls_by n log ≡ mine)

  -- the seat j has the number n, which has the turn and has seen the whole history
  abbrev pub HasTurn : ℕ → List (Entry C R) → List (Entry C R) → Type 0
  HasTurn n seen mine = (seat_of n ≡ j) × (word ≡ suc n) × (seen ≡ log) × (calls_by n log ≡ mine)

  -- the seat j has the number that k names: that of a pass, which does not have the turn
  abbrev pub HasPass : Knowing C R → Type 0
  HasPass k = (k.number < callers) × HasNoTurn k.number k.seen k.mine

  -- what the seat j knows in each role
  abbrev pub Knows : {O : Type 0} → O → View O C R → Role → Type 0
  Knows o v Dealer = (v.opening ≡ Some o) × ((n : ℕ) → v.number ≤ n → HasNoTurn n [] [])
  Knows o v Idle =
      (v.opening ≡ Some o) × (v.number < callers) × HasNoTurn v.number v.seen v.mine × IsPrefix v.told log
  Knows o v Turn = (v.opening ≡ Some o) × (v.number < callers) × HasTurn v.number v.seen v.mine
  Knows o v Note = IsPrefix v.seen log
  Knows o v Closer = All HasPass v.handed

-- the rule: there is one legal history, the object is at home where it leaves it, and each seat
-- knows a part of it
pub record Kept {O C R : Type 0} (next : O → ℕ → C → O × R) (o : O) (callers : ℕ)
    (s : State (Held O C R) (View O C R)) : Type 0 where
  pub log : List (Entry C R)
  pub seat_of : ℕ → ℕ
  pub one_word : length s.words ≡ 1
  pub one_slot : length s.homes ≡ 1
  pub legal : IsLegal next o log
  pub callers_only : All (λ e. e.caller < callers) log
  pub at_home : slice_index s.words 0 ≡ 0
      → (h : Held O C R) × (get_elem? s.homes 0 ≡ some (some h))
      × (h.object ≡ state_after next o log)
  pub holder : slice_index s.words 0 ≤ callers
  pub each_seat : (j : ℕ) (v : View O C R) → get_elem? s.views j ≡ some v
      → Knows callers (slice_index s.words 0) seat_of log j o v v.role

-- a seat at the table: its view, and the slots that it holds
abbrev pub Sat : Type 0 → Type 0 → Type 0 → Type 0
Sat O C R = Me (Held O C R) (View O C R)

module _ {O C R : Type 0} (next : O → ℕ → C → O × R) where
  -- the pass has the turn and the object, and has seen the history
  pub record Took (m m' : Sat O C R) : Type 0 where
    pub opening : O
    pub held : Held O C R
    pub log : List (Entry C R)
    pub opens : m.0.opening ≡ Some opening
    pub begins : IsPrefix m.0.seen log
    pub after : m' ≡ (caller_view Turn (Some opening) m.0.number log m.0.mine, (0, held) ∷ m.1)
    pub legal : IsLegal next opening log
    pub there : held.object ≡ state_after next opening log
    pub own : calls_by m.0.number log ≡ m.0.mine

  -- the pass has seen the history, and all that it was told is in it
  pub record Learnt (m m' : Sat O C R) : Type 0 where
    pub opening : O
    pub log : List (Entry C R)
    pub opens : m.0.opening ≡ Some opening
    pub begins : IsPrefix m.0.seen log
    pub told : IsPrefix m.0.told log
    pub after : m' ≡ (caller_view Idle (Some opening) m.0.number log m.0.mine, m.1)
    pub legal : IsLegal next opening log
    pub own : calls_by m.0.number log ≡ m.0.mine

  -- the pass has made this call, with all calls before it seen
  pub record Called (m m' : Sat O C R) (e : Entry C R) : Type 0 where
    pub opening : O
    pub log : List (Entry C R)
    pub opens : m.0.opening ≡ Some opening
    pub begins : IsPrefix m.0.seen log
    pub after : m'
        ≡ (caller_view Idle (Some opening) m.0.number (log ++ e ∷ []) (m.0.mine ++ e ∷ []), [])
    pub legal : IsLegal next opening (log ++ e ∷ [])
    pub own : calls_by m.0.number (log ++ e ∷ []) ≡ m.0.mine ++ e ∷ []

  -- what a try tells: where the word was 0 the pass has the turn, and else nothing changed
  abbrev pub took : Step (Held O C R) → Sat O C R → ℕ → Sat O C R → Type 0
  took st m r m' = (r ≡ 0 → Took m m') × (r ≢ 0 → m' ≡ m)

  -- what a pass learns by a load, where another pass told it something
  abbrev pub learnt : Step (Held O C R) → Sat O C R → ℕ → Sat O C R → Type 0
  learnt st m r m' = Learnt m m'

  -- what a release tells: the call that the slot names last is the last of the history
  abbrev pub released : Step (Held O C R) → Sat O C R → ℕ → Sat O C R → Type 0
  released st m r m' = (o : O) (h : Held O C R) (l : Last C R)
      → m.0.opening ≡ Some o → m.1 ≡ (0, h) ∷ [] → h.last ≡ Some l → m' ≡ (gave o m.0 l, [])

  -- the call was applied to the object in the slot, and the slot names it
  pub record Applied (before after : List (ℕ × Held O C R)) (n : ℕ) (c : C) (r : R) : Type 0 where
    pub old : Held O C R
    pub new : Held O C R
    pub last : Last C R
    pub held_old : before ≡ (0, old) ∷ []
    pub held_new : after ≡ (0, new) ∷ []
    pub named : new.last ≡ Some last
    pub call_is : last.call.value ≡ c
    pub reply_is : last.reply.value ≡ r
    pub did : (new.object, r) ≡ next old.object n c
