-- The states of a lock's table, and what a seat knows: it is known by its role (`known`), and it stays so while others take
-- steps.
use Rattle.std.proofs.Common.{◌≡◌, ◌≢◌, ℕ, zero, suc, ◌⊎◌, List, [], ◌∷◌, ◌++◌, get_or, length, set, refl, sym, ap, ◌∙◌, subst, inl, inr, ⊎_elim}
use Rattle.std.specs.Prelude.{All}
use Rattle.std.proofs.lemmas.List.Elements.{All-weaker}
use mathlib.Core.Option.{some, some-injective, some-ne-none}
use mathlib.Core.List.{IsPrefix}
use lib.ListN.{get_elem?}
use Rattle.atomic_table.specs.Table.{State}
use Rattle.atomic_table.proofs.Lists.{at_set}
use Rattle.turn_lock.specs.declared.object.Entry.{Entry}
use Rattle.turn_lock.specs.declared.object.Held.{Held}
use Rattle.turn_lock.specs.declared.plays.Role.{Role}
use Rattle.turn_lock.specs.declared.plays.Role.TheVariants.{Dealer, Idle, Turn, Note, Closer}
use Rattle.turn_lock.specs.declared.plays.Knowing.{Knowing}
use Rattle.turn_lock.specs.declared.plays.View.{View}
use Rattle.turn_lock.specs.History.{calls_by}
use Rattle.turn_lock.specs.Rule.{HasNoTurn, HasPass, Knows, Kept}

-- one element more is at the end, and the others are where they were
pub at_push : {A : Type 0} (l : List A) (a b : A) (j : ℕ) → get_elem? (l ++ a ∷ []) j ≡ some b
    → (get_elem? l j ≡ some b) ⊎ ((j ≡ length l) × (a ≡ b))
at_push [] a b zero e = inr (refl, some-injective a b e)
at_push [] a b (suc j) e = absurd (some-ne-none b (sym e))
at_push (x ∷ xs) a b zero e = inl e
at_push (x ∷ xs) a b (suc j) e =
    ⊎_elim (λ t. inl t) (λ t. inr (ap suc t.0, t.1)) (at_push xs a b j e)

module _ {V : Type 0} (K : ℕ → V → Type 0) (vs : List V) where
  -- what holds of each view holds after one is set, where it holds of the new one
  pub each_set : (me : ℕ) (w : V) → K me w
      → ((j : ℕ) (d : V) → j ≢ me → get_elem? vs j ≡ some d → K j d)
      → (j : ℕ) (d : V) → get_elem? (set vs me w) j ≡ some d → K j d
  each_set me w mine others j d e = ⊎_elim
      (λ (t : (j ≡ me) × (w ≡ d)). subst (λ (x : ℕ × V). K x.0 x.1) (λ i. (sym t.0 i, t.1 i)) mine)
      (λ (t : (j ≢ me) × (get_elem? vs j ≡ some d)). others j d t.0 t.1)
      (at_set vs me j w d e)

  -- what holds of each view holds after one is put behind, where it holds of the new one
  pub each_push : (w : V) → K (length vs) w
      → ((j : ℕ) (d : V) → get_elem? vs j ≡ some d → K j d)
      → (j : ℕ) (d : V) → get_elem? (vs ++ w ∷ []) j ≡ some d → K j d
  each_push w mine others j d e = ⊎_elim
      (λ (t : get_elem? vs j ≡ some d). others j d t)
      (λ (t : (j ≡ length vs) × (w ≡ d)).
      subst (λ (x : ℕ × V). K x.0 x.1) (λ i. (sym t.0 i, t.1 i)) mine)
      (at_push vs w d j e)

-- the history grows by another seat's call, and the turn is not the seat's before or after
module _ {C R : Type 0} (callers w w' : ℕ) (f : ℕ → ℕ) (log log' : List (Entry C R)) (j : ℕ)
    (longer : (xs : List (Entry C R)) → IsPrefix xs log → IsPrefix xs log')
    (apart : (m : ℕ) → f m ≡ j
    → (w ≢ suc m) × (w' ≢ suc m) × (calls_by m log' ≡ calls_by m log)) where
  -- a number that the seat has stays without the turn
  has_still : (m : ℕ) (seen mine : List (Entry C R)) → HasNoTurn callers w f log j m seen mine
      → HasNoTurn callers w' f log' j m seen mine
  has_still m seen mine h = (h.0, (apart m h.0).1, longer seen h.2, (apart m h.0).2 ∙ h.3)

  -- the passes that were handed in to the seat stay so
  passes_still : (ks : List (Knowing C R)) → All (HasPass callers w f log j) ks
      → All (HasPass callers w' f log' j) ks
  passes_still ks all = All-weaker (HasPass callers w f log j) (HasPass callers w' f log' j)
      (λ (x : Knowing C R) p. (p.0, has_still x.number x.seen x.mine p.1)) ks all

  -- what the seat knows stays so
  pub knows_still : {O : Type 0} (o : O) (v : View O C R) (role : Role)
      → Knows callers w f log j o v role → Knows callers w' f log' j o v role
  knows_still o v Dealer k = (k.0, λ n le. has_still n [] [] (k.1 n le))
  knows_still o v Idle k =
      (k.0, k.1, has_still v.number v.seen v.mine k.2, longer v.told k.3)
  knows_still o v Turn k = let h = k.2 in absurd ((apart v.number h.0).0 h.1)
  knows_still o v Note k = longer v.seen k
  knows_still o v Closer k = passes_still v.handed k

-- numbers go from seat to seat, and all of the seat j are the seat j''s
module _ {C R : Type 0} (callers w : ℕ) (f f' : ℕ → ℕ) (log : List (Entry C R)) (j j' : ℕ)
    (moved : (m : ℕ) → f m ≡ j → f' m ≡ j') where
  -- a number of the one seat is the other's
  pub has_moved : (m : ℕ) (seen mine : List (Entry C R)) → HasNoTurn callers w f log j m seen mine
      → HasNoTurn callers w f' log j' m seen mine
  has_moved m seen mine h = (moved m h.0, h.1, h.2, h.3)

  -- the passes that were handed in to the one seat are the other's
  pub passes_moved : (ks : List (Knowing C R)) → All (HasPass callers w f log j) ks
      → All (HasPass callers w f' log j') ks
  passes_moved ks all = All-weaker (HasPass callers w f log j) (HasPass callers w f' log j')
      (λ (x : Knowing C R) p. (p.0, has_moved x.number x.seen x.mine p.1)) ks all

  -- what the one seat knows, the other knows
  pub knows_moved : {O : Type 0} (o : O) (v : View O C R) (role : Role)
      → Knows callers w f log j o v role → Knows callers w f' log j' o v role
  knows_moved o v Dealer k = (k.0, λ n le. has_moved n [] [] (k.1 n le))
  knows_moved o v Idle k = (k.0, k.1, has_moved v.number v.seen v.mine k.2, k.3)
  knows_moved o v Turn k = let h = k.2 in (k.0, k.1, (moved v.number h.0, h.1, h.2, h.3))
  knows_moved o v Note k = k
  knows_moved o v Closer k = passes_moved v.handed k

-- the states of a lock's table
abbrev pub LockState : Type 0 → Type 0 → Type 0 → Type 0
LockState O C R = State (Held O C R) (View O C R)

-- the word of a table
abbrev pub word : {H V : Type 0} → State H V → ℕ
word s = get_or s.words 0 0

-- the seat that is known by its role
pub known : {O C R : Type 0} (next : O → ℕ → C → O × R) (o : O) (callers : ℕ) (s : LockState O C R)
    (r : Kept next o callers s) (id : ℕ) (v : View O C R) (role : Role) → get_elem? s.views id ≡ some v
    → v.role ≡ role → Knows callers (word s) r.seat_of r.log id o v role
known next o callers s r id v role at is =
    subst (Knows callers (word s) r.seat_of r.log id o v) is (r.each_seat id v at)

-- the same words and slots keep the rule, where what each seat knows is shown anew, with the numbers where f has them
pub shown : {O C R : Type 0} (next : O → ℕ → C → O × R) (o : O) (callers : ℕ) (s : LockState O C R)
    (r : Kept next o callers s) (f : ℕ → ℕ) (vs : List (View O C R))
    → ((j : ℕ) (v : View O C R) → get_elem? vs j ≡ some v → Knows callers (word s) f r.log j o v v.role)
    → Kept next o callers record { words = s.words; homes = s.homes; views = vs }
shown next o callers s r f vs each = record {
  log = r.log;
  seat_of = f;
  one_word = r.one_word;
  one_slot = r.one_slot;
  legal = r.legal;
  callers_only = r.callers_only;
  at_home = r.at_home;
  holder = r.holder;
  each_seat = each;
}
