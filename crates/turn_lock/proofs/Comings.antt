-- How seats of the lock's table come and go: the start, a number dealt, a note, a pass handed in.
use Rattle.std.proofs.Common.{◌≡◌, ◌≢◌, ℕ, zero, suc, ◌==◌, ◌<◌, Bool, List, [], ◌∷◌, ◌++◌, length, set, refl, sym, ap, ◌∙◌, subst, arith, eq-eqb, ne_eqb}
use Rattle.std.specs.Prelude.{All, cond}
use Rattle.std.proofs.lemmas.List.Elements.{All-nil, All-cons}
use mathlib.Core.Option.{some, some-injective, some-ne-none}
use lib.ListN.{get_elem?}
use Rattle.atomic_table.specs.Table.{opening, Splits, Joins}
use Rattle.atomic_table.proofs.Lists.{set_again, set_else}
use Rattle.turn_lock.specs.declared.object.Entry.{Entry}
use Rattle.turn_lock.specs.declared.object.Held.{Held}
use Rattle.turn_lock.specs.declared.plays.Role.{Role}
use Rattle.turn_lock.specs.declared.plays.Role.TheVariants.{Dealer, Idle, Turn, Note, Closer}
use Rattle.turn_lock.specs.declared.plays.Knowing.{Knowing}
use Rattle.turn_lock.specs.declared.plays.View.{View}
use Rattle.turn_lock.specs.Rule.{dealer, dealt, newcomer, note_of, told_of, closer, knowing, gathered, gathered_in, MayGather, handed_in, HasPass, Knows, Kept}
use Rattle.turn_lock.proofs.Histories.{prefix_none}
use Rattle.turn_lock.proofs.Frames.{LockState, known, shown, word, each_set, each_push, has_moved, passes_moved, knows_moved}

-- a list of one element has it at place 0 alone
at_only : {A : Type 0} (a b : A) (j : ℕ) → get_elem? (a ∷ []) j ≡ some b → (j ≡ 0) × (a ≡ b)
at_only a b zero e = (refl, some-injective a b e)
at_only a b (suc j) e = absurd (some-ne-none b (sym e))

-- the number n goes to the seat j
abbrev dealt_to : ℕ → ℕ → (ℕ → ℕ) → ℕ → ℕ
dealt_to n j f m = cond (m == n) j (f m)

-- that number is there
dealt_here : (n j : ℕ) (f : ℕ → ℕ) → dealt_to n j f n ≡ j
dealt_here n j f = ap (λ (b : Bool). cond b j (f n)) (eq-eqb n n refl)

-- each other number is where it was
dealt_else : (n j : ℕ) (f : ℕ → ℕ) (m : ℕ) → m ≢ n → dealt_to n j f m ≡ f m
dealt_else n j f m ne = ap (λ (b : Bool). cond b j (f m)) (ne_eqb m n ne)

-- all numbers of the other seat go to the seat id
abbrev merged : ℕ → ℕ → (ℕ → ℕ) → ℕ → ℕ
merged other id f m = cond (f m == other) id (f m)

-- they are there
merged_there : (other id : ℕ) (f : ℕ → ℕ) (m : ℕ) → f m ≡ other → merged other id f m ≡ id
merged_there other id f m e = ap (λ (b : Bool). cond b id (f m)) (eq-eqb (f m) other e)

-- the numbers of each third seat are where they were
merged_else : (other id : ℕ) (f : ℕ → ℕ) (m j : ℕ) → j ≢ other → f m ≡ j
    → merged other id f m ≡ j
merged_else other id f m j ne e =
    ap (λ (b : Bool). cond b id (f m)) (ne_eqb (f m) other (λ z. ne (sym e ∙ z))) ∙ e

module _ {O C R : Type 0} (next : O → ℕ → C → O × R) (o : O) (callers : ℕ) where
  -- the views of the table
  abbrev V : Type 0
  V = View O C R

  -- the rule of the table
  abbrev Rule : LockState O C R → Type 0
  Rule = Kept next o callers

  -- what each seat knows, with the numbers where f has them
  abbrev Each : (s : LockState O C R) → Rule s → (ℕ → ℕ) → ℕ → V → Type 0
  Each s r f j v = Knows callers (word s) f r.log j o v v.role

  -- the table at the start keeps the rule, with no call made
  pub starts : (words : List ℕ) (slots : List (Held O C R)) (h : Held O C R) → words ≡ 0 ∷ []
      → slots ≡ h ∷ [] → h.object ≡ o → Rule (opening words slots (dealer o 0))
  starts words slots h ws hs is =
      let first : Knows {C = C} {R = R} callers 0 (λ _. 0) [] 0 o (dealer o 0) Dealer
      = (refl, λ n le. (refl, (λ (z : 0 ≡ suc n). omega arith), prefix_none [], refl)) in
      subst (λ (x : List ℕ × List (Held O C R)). Rule (opening x.0 x.1 (dealer o 0)))
      (λ i. (sym ws i, sym hs i)) record {
        log = [];
        seat_of = λ _. 0;
        one_word = refl;
        one_slot = refl;
        legal = tt;
        callers_only = All-nil (λ (e : Entry C R). e.caller < callers);
        at_home = λ _. (h, refl, is);
        holder = omega arith;
        each_seat = λ j v e. let only = at_only (dealer o 0) v j e in
            subst (λ (x : ℕ × V). Knows callers 0 (λ _. 0) [] x.0 o x.1 x.1.role)
            (λ i. (sym only.0 i, only.1 i)) first;
      }

  -- the dealer deals its number to a new seat
  pub deals : (id n : ℕ) → n < callers
      → Splits Rule id (dealer o n) (dealt (dealer o n)) (newcomer (dealer o n))
  deals id n below s r at =
      let d : V = dealt (dealer o n) in
      let k = r.each_seat id (dealer o n) at in
      let mine = k.1 n (omega arith) in
      let place : ℕ = length (set s.views id d) in
      let f : ℕ → ℕ = dealt_to n place r.seat_of in
      let new : Each s r f place (newcomer (dealer o n))
      = (refl, below, (dealt_here n place r.seat_of, mine.1, mine.2, mine.3), prefix_none r.log) in
      let stay : (m : ℕ) → m ≢ n → f m ≡ r.seat_of m = dealt_else n place r.seat_of in
      let left : Each s r f id d = (
        refl,
        λ m le. let h = k.1 m (omega arith) in
            (stay m (λ (z : m ≡ n). omega arith) ∙ h.0, h.1, h.2, h.3),
      ) in
      shown next o callers s r f (set s.views id d ++ newcomer (dealer o n) ∷ [])
      (each_push (Each s r f) (set s.views id d) (newcomer (dealer o n)) new
      (each_set (Each s r f) s.views id d left (λ j v else e.
      knows_moved callers (word s) r.seat_of f r.log j j
      (λ m there. stay m (λ (z : m ≡ n). else (sym there ∙ (ap r.seat_of z ∙ mine.0))) ∙ there)
      o v v.role (r.each_seat j v e))))

  -- a pass writes down what it has seen, and stays as it is
  pub tells : (id : ℕ) (v : V) → v.role ≡ Idle → Splits Rule id v v (note_of v)
  tells id v idle s r at =
      let k = known next o callers s r id v Idle at idle in
      let has = k.2 in
      subst (λ (vs : List V). Rule record { words = s.words; homes = s.homes; views = vs })
      (ap (λ vs. vs ++ note_of v ∷ []) (sym (set_again s.views id v at)))
      (shown next o callers s r r.seat_of (s.views ++ note_of v ∷ [])
      (each_push (Each s r r.seat_of) s.views (note_of v) has.2 r.each_seat))

  -- a pass is told what the note says, and the note is spent
  pub hears : (id : ℕ) (v : V) (other : ℕ) (w : V) → v.role ≡ Idle → w.role ≡ Note
      → Joins Rule id v other w (told_of v w) (closer [])
  hears id v other w idle note s r at apart there =
      let both : V = told_of v w in
      let was : get_elem? s.views other ≡ some w
      = sym (set_else s.views id other both apart) ∙ there in
      let told = known next o callers s r other w Note was note in
      let k = known next o callers s r id v Idle at idle in
      let mine : Each s r r.seat_of id both
      = subst (Knows callers (word s) r.seat_of r.log id o both) (sym idle)
      (k.0, k.1, k.2, told) in
      let Spent : Knowing C R → Type 0 = HasPass callers (word s) r.seat_of r.log other in
      shown next o callers s r r.seat_of (set (set s.views id both) other (closer []))
      (each_set (Each s r r.seat_of) (set s.views id both) other (closer []) (All-nil Spent)
      (λ j d _ e. each_set (Each s r r.seat_of) s.views id both mine
      (λ j' d' _ e'. r.each_seat j' d' e') j d e))

  -- what a seat that may gather has gathered, it knows
  gathers : (s : LockState O C R) (r : Rule s) (id : ℕ) (v : V) (role : Role) → MayGather role
      → Knows callers (word s) r.seat_of r.log id o v role
      → All (HasPass callers (word s) r.seat_of r.log id) (gathered_in role v)
  gathers s r id v Dealer may k = absurd may
  gathers s r id v Idle may k =
      let P : Knowing C R → Type 0 = HasPass callers (word s) r.seat_of r.log id in
      All-cons P (knowing v) [] (k.1, k.2) (All-nil P)
  gathers s r id v Turn may k = absurd may
  gathers s r id v Note may k = absurd may
  gathers s r id v Closer may k = k

  -- all that a seat which may gather has gathered holds under the rule
  pub gathered_holds : (s : LockState O C R) (r : Rule s) (id : ℕ) (v : V) → get_elem? s.views id ≡ some v
      → MayGather v.role → All (HasPass callers (word s) r.seat_of r.log id) (gathered v)
  gathered_holds s r id v at may = gathers s r id v v.role may (r.each_seat id v at)

  -- a pass is handed in to a seat that may gather
  pub hands_in : (id : ℕ) (v : V) (other : ℕ) (w : V) → MayGather v.role → w.role ≡ Idle
      → Joins Rule id v other w (handed_in v w) (closer [])
  hands_in id v other w may idle s r at apart there =
      let both : V = handed_in v w in
      let f : ℕ → ℕ = merged other id r.seat_of in
      let was : get_elem? s.views other ≡ some w
      = sym (set_else s.views id other both apart) ∙ there in
      let theirs = known next o callers s r other w Idle was idle in
      let kept : (m j : ℕ) → j ≢ other → r.seat_of m ≡ j → f m ≡ j
      = merged_else other id r.seat_of in
      let P : Knowing C R → Type 0 = HasPass callers (word s) f r.log id in
      let all : All P both.handed = All-cons P (knowing w) (gathered v) (
        theirs.1,
        has_moved callers (word s) r.seat_of f r.log other id
            (merged_there other id r.seat_of) w.number w.seen w.mine theirs.2,
      )
      (passes_moved callers (word s) r.seat_of f r.log id id
      (λ m e. kept m id (λ z. apart (sym z)) e) (gathered v) (gathered_holds s r id v at may)) in
      let Spent : Knowing C R → Type 0 = HasPass callers (word s) f r.log other in
      shown next o callers s r f (set (set s.views id both) other (closer []))
      (each_set (Each s r f) (set s.views id both) other (closer []) (All-nil Spent)
      (λ j d else e. each_set (λ j' d'. j' ≢ other → Each s r f j' d') s.views id both (λ _. all)
      (λ j' d' _ e' else'. knows_moved callers (word s) r.seat_of f r.log j' j'
      (λ m m-there. kept m j' else' m-there) o d' d'.role (r.each_seat j' d' e')) j d e else))
