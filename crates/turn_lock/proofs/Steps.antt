-- The steps of a pass keep the rule: it takes the turn, gives it back with its call, and learns.
use Rattle.std.proofs.Common.{eq-eqb, ne_eqb, ◌≡◌, ◌≢◌, ℕ, suc, ◌==◌, ◌<◌, List, [], ◌∷◌, ◌++◌, get_or, set, refl, sym, ap, ◌∙◌, subst, arith, length-set, get_or-set_same, Some}
use mathlib.Core.Option.{none, some}
use mathlib.Core.List.{IsPrefix}
use lib.ListN.{get_elem?}
use lib.Seq.{set-get_or}
use mathlib.Core.Logic.{dite}
use native.Mathlib.Decide.{ℕ_discrete}
use prog.Atomic.{either}
use Rattle.std.proofs.lemmas.List.Elements.{All-push}
use Rattle.atomic_table.specs.Table.{Me, step, keeps, takes, gives, stepped, Allows}
use Rattle.atomic_table.proofs.Lists.{set_again, set_here}
use Rattle.turn_lock.specs.declared.object.Entry.{Entry}
use Rattle.turn_lock.specs.declared.object.Held.{Held}
use Rattle.turn_lock.specs.declared.object.Last.{Last}
use Rattle.turn_lock.specs.declared.plays.Role.TheVariants.{Idle, Turn}
use Rattle.turn_lock.specs.declared.plays.View.{View}
use Rattle.turn_lock.specs.History.{entry, state_after}
use Rattle.turn_lock.specs.Rule.{caller_view, HasNoTurn, HasTurn, Knows, Kept, took, learnt, gave, released}
use Rattle.turn_lock.proofs.Histories.{prefix_self, prefix_none, prefix_then, state_after-snoc, IsLegal-snoc, calls_by-own, calls_by-other}
use Rattle.turn_lock.proofs.Frames.{LockState, known, shown, word, each_set, knows_still}

module _ {O C R : Type 0} (next : O → ℕ → C → O × R) (o : O) (callers : ℕ) where
  -- the views of the table
  abbrev V : Type 0
  V = View O C R

  -- a seat with its view and slots
  abbrev M : Type 0
  M = Me (Held O C R) V

  -- the rule of the table
  abbrev Rule : LockState O C R → Type 0
  Rule = Kept next o callers

  -- what each seat knows under this word and history
  abbrev Each : (s : LockState O C R) → Rule s → ℕ → List (Entry C R) → ℕ → V → Type 0
  Each s r w log j v = Knows callers w r.seat_of log j o v v.role

  -- a step that changes nothing keeps the rule
  still : (s : LockState O C R) → Rule s → (id : ℕ) (cs : List (ℕ × Held O C R)) (v : V)
      → get_elem? s.views id ≡ some v → Rule (stepped s 0 (word s) id cs v keeps)
  still s r id cs v at =
      subst (λ (x : List ℕ × List V). Rule record { words = x.0; homes = s.homes; views = x.1 })
      (λ i. (sym (set-get_or s.words 0 0) i, sym (set_again s.views id v at) i)) r

  -- the seat of the number n gets the turn, and the object that was at home
  grants : (s : LockState O C R) (r : Rule s) (id n : ℕ) (h : Held O C R) (cs : List (ℕ × Held O C R))
      (mine : List (Entry C R)) → word s ≡ 0 → n < callers
      → HasNoTurn callers (word s) r.seat_of r.log id n r.log mine
      → Rule (stepped s 0 (suc n) id cs (caller_view Turn (Some o) n r.log mine) (takes 0 h))
  grants s r id n h cs mine free below has =
      let one = r.one_word in
      let turn : V = caller_view Turn (Some o) n r.log mine in
      let now : get_or (set s.words 0 (suc n)) 0 0 ≡ suc n
      = get_or-set_same s.words 0 (suc n) 0 (omega arith) in
      let has_turn : HasTurn callers (suc n) r.seat_of r.log id n r.log mine
      = (has.0, refl, refl, has.3) in
      let others : (j : ℕ) (d : V) → j ≢ id → get_elem? s.views j ≡ some d
      → Each s r (suc n) r.log j d
      = λ j d other e. knows_still callers (word s) (suc n) r.seat_of r.log r.log j (λ xs p. p)
      (λ m there. (
        (λ (z : word s ≡ suc m). omega arith),
        (λ (z : suc n ≡ suc m). let same : n ≡ m = omega arith in
            other (sym there ∙ (sym (ap r.seat_of same) ∙ has.0))),
        refl,
      ))
      o d d.role (r.each_seat j d e) in record {
        log = r.log;
        seat_of = r.seat_of;
        one_word = length-set s.words 0 (suc n) ∙ r.one_word;
        one_slot = length-set s.homes 0 none ∙ r.one_slot;
        legal = r.legal;
        callers_only = r.callers_only;
        at_home = λ z. absurd (omega arith);
        holder = omega arith;
        each_seat = subst (λ (z : ℕ). (j : ℕ) (d : V) → get_elem? (set s.views id turn) j ≡ some d
            → Each s r z r.log j d) (sym now)
            (each_set (Each s r (suc n) r.log) s.views id turn (refl, below, has_turn) others);
      }

  -- a try for the turn is allowed: it wins where the word is 0, and else changes nothing
  pub takes_turn : (slots id : ℕ) (me : M) (new : ℕ) → me.0.role ≡ Idle → new ≡ suc me.0.number
      → Allows Rule slots id me 0 (λ x. either (x == 0) new x)
      (took next (step slots 0 0 new none) me)
  takes_turn slots id me new role is s r wide at small = dite (ℕ_discrete (word s) 0)
      (λ free.
      let k = known next o callers s r id me.0 Idle at role in
      let has = k.2 in
      let home = r.at_home free in
      let n : ℕ = me.0.number in
      let turn : V = caller_view Turn (Some o) n r.log me.0.mine in
      let granted : Rule (stepped s 0 (suc n) id me.1 turn (takes 0 home.0))
      = grants s r id n home.0 me.1 me.0.mine free k.1 (has.0, has.1, prefix_self r.log, has.3) in (
        turn,
        takes 0 home.0,
        home.1,
        subst (λ b. Rule (stepped s 0 (either b new (word s)) id me.1 turn (takes 0 home.0)))
            (sym (eq-eqb (word s) 0 free))
            (subst (λ (z : ℕ). Rule (stepped s 0 z id me.1 turn (takes 0 home.0)))
            (sym is) granted),
        (
          (λ _. record {
            opening = o;
            held = home.0;
            log = r.log;
            opens = k.0;
            begins = has.2;
            after = refl;
            legal = r.legal;
            there = home.2;
            own = has.3;
          }),
          λ busy. absurd (busy free),
        ),
      ))
      (λ busy. (
        me.0,
        keeps,
        tt,
        subst (λ b. Rule (stepped s 0 (either b new (word s)) id me.1 me.0 keeps))
            (sym (ne_eqb (word s) 0 busy)) (still s r id me.1 me.0 at),
        ((λ free. absurd (busy free)), λ _. refl),
      ))

  -- the seat of the turn gives back the object, to which its call was applied
  pub gives_back : (s : LockState O C R) (r : Rule s) (id : ℕ) (v : V) (h : Held O C R) (l : Last C R)
      → get_elem? s.views id ≡ some v → v.role ≡ Turn
      → (h.object, l.reply.value) ≡ next (state_after next o r.log) v.number l.call.value
      → Rule (stepped s 0 0 id ((0, h) ∷ []) (gave o v l) gives)
  gives_back s r id v h l at role did =
      let k = known next o callers s r id v Turn at role in
      let has = k.2 in
      let one = r.one_word in
      let home = r.one_slot in
      let n : ℕ = v.number in
      let e : Entry C R = entry n l.call.value l.reply.value in
      let log : List (Entry C R) = r.log ++ e ∷ [] in
      let now : get_or (set s.words 0 0) 0 0 ≡ 0 = get_or-set_same s.words 0 0 0 (omega arith) in
      let mine : Each s r 0 log id (gave o v l) = (
        refl,
        k.1,
        (
          has.0,
          (λ (z : 0 ≡ suc n). omega arith),
          subst (λ (xs : List (Entry C R)). IsPrefix (xs ++ e ∷ []) log) (sym has.2)
              (prefix_self log),
          calls_by-own n l.call.value l.reply.value r.log ∙ ap (λ xs. xs ++ e ∷ []) has.3,
        ),
        prefix_none log,
      ) in
      let others : (j : ℕ) (d : V) → j ≢ id → get_elem? s.views j ≡ some d → Each s r 0 log j d
      = λ j d other there. knows_still callers (word s) 0 r.seat_of r.log log j
      (λ xs p. prefix_then xs r.log (e ∷ []) p)
      (λ m theirs. let ne : n ≢ m
      = (λ (z : n ≡ m). other (sym theirs ∙ (sym (ap r.seat_of z) ∙ has.0))) in (
        (λ (z : word s ≡ suc m). let held = has.1 in ne (omega arith)),
        (λ (z : 0 ≡ suc m). omega arith),
        calls_by-other m n l.call.value l.reply.value r.log ne,
      ))
      o d d.role (r.each_seat j d there) in record {
        log = log;
        seat_of = r.seat_of;
        one_word = length-set s.words 0 0 ∙ r.one_word;
        one_slot = length-set s.homes 0 (some h) ∙ r.one_slot;
        legal = IsLegal-snoc next o r.log e r.legal (ap (λ (p : O × R). p.1) did);
        callers_only = All-push (λ (x : Entry C R). x.caller < callers) r.log e r.callers_only k.1;
        at_home = λ _. (
          h,
          set_here s.homes 0 (some h) (omega arith),
          ap (λ (p : O × R). p.0) did ∙ sym (state_after-snoc next o r.log e),
        );
        holder = omega arith;
        each_seat = subst (λ (z : ℕ). (j : ℕ) (d : V)
            → get_elem? (set s.views id (gave o v l)) j ≡ some d → Each s r z log j d) (sym now)
            (each_set (Each s r 0 log) s.views id (gave o v l) mine others);
      }

  -- a release is allowed to the seat of the turn, and tells of its call
  pub releases : (slots id : ℕ) (v : V) (h : Held O C R) (l : Last C R) (o' : O) → v.role ≡ Turn
      → h.last ≡ Some l → v.opening ≡ Some o'
      → (h.object, l.reply.value) ≡ next (state_after next o' v.seen) v.number l.call.value
      → Allows Rule slots id (v, (0, h) ∷ []) 0 (λ _. 0)
      (λ _. released next (step slots 0 0 0 none) (v, (0, h) ∷ []) 0)
  releases slots id v h l o' role named opens did s r wide at small =
      let k = known next o callers s r id v Turn at role in
      let has = k.2 in
      let same : o' ≡ o = cc (opens, k.0) in
      let did_there : (h.object, l.reply.value)
      ≡ next (state_after next o r.log) v.number l.call.value
      = did ∙ (λ i. next (state_after next (same i) (has.2 i)) v.number l.call.value) in (
        gave o v l,
        gives,
        tt,
        gives_back s r id v h l at role did_there,
        λ other_o other_h other_l opens_too carried named_too.
            let eo : o ≡ other_o = cc (opens_too, k.0) in
            let eh : h ≡ other_h
            = ap (λ (x : List (ℕ × Held O C R)). (get_or x 0 (0, h)).1) carried in
            let el : l ≡ other_l = cc (named, named_too, eh) in
            (λ i. (gave (eo i) v (el i), [])),
      )

  -- the load of a pass is allowed, and it has then seen the history
  pub learns : (slots id : ℕ) (me : M) → me.0.role ≡ Idle
      → Allows Rule slots id me 0 (λ n. n) (learnt next (step slots 0 0 0 none) me)
  learns slots id me role s r wide at small =
      let k = known next o callers s r id me.0 Idle at role in
      let has = k.2 in
      let n : ℕ = me.0.number in
      let v : V = caller_view Idle (Some o) n r.log me.0.mine in
      let mine : Each s r (word s) r.log id v
      = (refl, k.1, (has.0, has.1, prefix_self r.log, has.3), prefix_none r.log) in
      let vs : List V = set s.views id v in
      let each : (j : ℕ) (d : V) → get_elem? vs j ≡ some d → Each s r (word s) r.log j d
      = each_set (Each s r (word s) r.log) s.views id v mine (λ j d _ e. r.each_seat j d e) in
      let kept : Rule record { words = s.words; homes = s.homes; views = vs }
      = shown next o callers s r r.seat_of vs each in (
        v,
        keeps,
        tt,
        subst (λ (ws : List ℕ). Rule record { words = ws; homes = s.homes; views = vs })
            (sym (set-get_or s.words 0 0)) kept,
        record {
          opening = o;
          log = r.log;
          opens = k.0;
          begins = has.2;
          told = k.3;
          after = refl;
          legal = r.legal;
          own = has.3;
        },
      )
