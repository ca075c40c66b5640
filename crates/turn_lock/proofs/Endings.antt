-- What is known when a call or the whole lock has ended.
use Rattle.std.proofs.Common.{◌≡◌, ◌≢◌, ℕ, suc, ◌-◌, ◌<◌, List, [], ◌∷◌, ◌++◌, map, get_or, refl, sym, ap, ◌∙◌, subst, arith, Some}
use Rattle.std.specs.Prelude.{All, Contains}
use Rattle.std.proofs.lemmas.List.Elements.{All-weaker, All-map, All-contains}
use mathlib.Core.Option.{none, some, some-injective}
use mathlib.Core.List.{IsPrefix}
use mathlib.Core.Logic.{dite}
use native.Mathlib.Decide.{ℕ_discrete}
use lib.ListN.{get_elem?}
use Rattle.atomic_table.specs.Table.{State, Me, step, Allows, Final, Seen}
use Rattle.turn_lock.specs.declared.object.Entry.{Entry}
use Rattle.turn_lock.specs.declared.object.Held.{Held}
use Rattle.turn_lock.specs.declared.object.Last.{Last}
use Rattle.turn_lock.specs.declared.plays.Role.TheVariants.{Idle, Turn}
use Rattle.turn_lock.specs.declared.plays.Knowing.{Knowing}
use Rattle.turn_lock.specs.declared.plays.View.{View}
use Rattle.turn_lock.specs.History.{entry, calls_by, state_after, IsLegal, EndsWith}
use Rattle.turn_lock.specs.Rule.{caller_view, gathered, MayGather, HasPass, Kept, Took, Applied, Called, Learnt, gave, released}
use Rattle.turn_lock.proofs.Histories.{IsLegal-snoc, calls_by-own}
use Rattle.turn_lock.proofs.Comings.{gathered_holds}
use Rattle.turn_lock.proofs.Steps.{releases}

-- a seat m that took the turn, once its call was applied: it is m' then
pub record Ready {O C R : Type 0} (next : O → ℕ → C → O × R)
    (m m' : Me (Held O C R) (View O C R)) (c : C) (r : R) : Type 0 where
  pub opening : O
  pub log : List (Entry C R)
  pub held : Held O C R
  pub last : Last C R
  pub opens : m.0.opening ≡ Some opening
  pub begins : IsPrefix m.0.seen log
  pub legal : IsLegal next opening log
  pub own : calls_by m.0.number log ≡ m.0.mine
  pub here : m' ≡ (caller_view Turn (Some opening) m.0.number log m.0.mine, (0, held) ∷ [])
  pub named : held.last ≡ Some last
  pub call_is : last.call.value ≡ c
  pub reply_is : last.reply.value ≡ r
  pub did : (held.object, last.reply.value)
      ≡ next (state_after next opening log) m.0.number last.call.value

module _ {O C R : Type 0} (next : O → ℕ → C → O × R) where
  -- seats with their views and slots
  abbrev M : Type 0
  M = Me (Held O C R) (View O C R)

  -- a seat that took the turn and applied its call is ready to release
  pub ready : (m m1 m2 : M) (c : C) (r : R) (n : ℕ) → Took next m m1 → m.1 ≡ [] → m.0.number ≡ n
      → m2.0 ≡ m1.0 → Applied next m1.1 m2.1 n c r → Ready next m m2 c r
  ready m m1 m2 c r n t none-out number same a =
      let first : List (ℕ × Held O C R) → Held O C R = λ x. (get_or x 0 (0, t.held)).1 in
      let eh : a.old ≡ t.held = ap first (sym a.held_old ∙ ap (λ (x : M). x.1) t.after) in
      let before : a.old.object ≡ state_after next t.opening t.log
      = ap (λ (x : Held O C R). x.object) eh ∙ t.there in record {
        opening = t.opening;
        log = t.log;
        held = a.new;
        last = a.last;
        opens = t.opens;
        begins = t.begins;
        legal = t.legal;
        own = t.own;
        here = λ i. ((same ∙ ap (λ (x : M). x.0) t.after) i, a.held_new i);
        named = a.named;
        call_is = a.call_is;
        reply_is = a.reply_is;
        did = (λ i. (a.new.object, a.reply_is i))
            ∙ (a.did ∙ (λ i. next (before i) (sym number i) (sym a.call_is i)));
      }

  module _ (m m2 : M) (c : C) (r : R) (d : Ready next m m2 c r) where
    -- its release is allowed
    pub ready_releases : (o : O) (callers slots id : ℕ) → Allows (Kept next o callers) slots id m2 0
        (λ _. 0) (λ _. released next (step slots 0 0 0 none) m2 0)
    ready_releases o callers slots id =
        let v : View O C R = caller_view Turn (Some d.opening) m.0.number d.log m.0.mine in
        subst (λ (x : M). Allows (Kept next o callers) slots id x 0
        (λ _. 0) (λ _. released next (step slots 0 0 0 none) x 0)) (sym d.here)
        (releases next o callers slots id v d.held d.last d.opening refl d.named refl d.did)

    -- after its release it has called
    pub ready_called : (slots : ℕ) (m3 : M) → released next (step slots 0 0 0 none) m2 0 m3
        → Called next m m3 (entry m.0.number c r)
    ready_called slots m3 told =
        let n : ℕ = m.0.number in
        let v : View O C R = caller_view Turn (Some d.opening) n d.log m.0.mine in
        let e : Entry C R = entry n c r in
        let as_named : m3 ≡ (gave d.opening v d.last, [])
        = subst (λ (x : M). released next (step slots 0 0 0 none) x 0 m3) d.here told
        d.opening d.held d.last refl refl d.named in
        let named_is : entry n d.last.call.value d.last.reply.value ≡ e
        = λ i. entry n (d.call_is i) (d.reply_is i) in
        let reply_there : r ≡ (next (state_after next d.opening d.log) n c).1
        = sym d.reply_is ∙ (ap (λ (p : O × R). p.1) d.did
        ∙ ap (λ (x : C). (next (state_after next d.opening d.log) n x).1) d.call_is) in record {
          opening = d.opening;
          log = d.log;
          opens = d.opens;
          begins = d.begins;
          after = as_named ∙ (λ i. (
            caller_view Idle (Some d.opening) n
                (d.log ++ named_is i ∷ []) (m.0.mine ++ named_is i ∷ []),
            [],
          ));
          legal = IsLegal-snoc next d.opening d.log e d.legal reply_there;
          own = calls_by-own n c r d.log ∙ ap (λ xs. xs ++ e ∷ []) d.own;
        }

  -- what is legal from the object with which the lock was opened, and is what was seen, is legal from any such object
  legal_from : (m m' : M) (opening o : O) (log : List (Entry C R)) → m.0.opening ≡ Some opening → m.0.opening ≡ Some o
      → m'.0.seen ≡ log → IsLegal next opening log → IsLegal next o m'.0.seen
  legal_from m m' opening o log opens is seen legal =
      let same : opening ≡ o = cc (is, opens) in
      subst (λ (x : O × List (Entry C R)). IsLegal next x.0 x.1) (λ i. (same i, sym seen i)) legal

  module _ (m m' : M) (e : Entry C R) (d : Called next m m' e) where
    -- what was seen after the call ends with it
    pub called_ends : EndsWith m.0.seen e m'.0.seen
    called_ends =
        let begins = d.begins in
        (begins.0, ap (λ (x : M). x.0.seen) d.after ∙ (λ i. sym begins.1 i ++ e ∷ []))

    -- what was seen has just the own calls
    pub called_own : calls_by m.0.number m'.0.seen ≡ m'.0.mine
    called_own =
        ap (λ (x : M). calls_by m.0.number x.0.seen) d.after
        ∙ (d.own ∙ sym (ap (λ (x : M). x.0.mine) d.after))

    -- what was seen is legal from the lock's opening object
    pub called_legal : (o : O) → m.0.opening ≡ Some o → IsLegal next o m'.0.seen
    called_legal o opens =
        legal_from m m' d.opening o _ d.opens opens (ap (λ (x : M). x.0.seen) d.after) d.legal

  module _ (m m' : M) (d : Learnt next m m') where
    -- all that was learnt is legal from the lock's opening object
    pub learnt_legal : (o : O) → m.0.opening ≡ Some o → IsLegal next o m'.0.seen
    learnt_legal o opens =
        legal_from m m' d.opening o _ d.opens opens (ap (λ (x : M). x.0.seen) d.after) d.legal

    -- what begins what was learnt begins what the pass has seen
    pub learnt_seen : (xs : List (Entry C R)) → IsPrefix xs d.log → IsPrefix xs m'.0.seen
    learnt_seen xs p = subst (IsPrefix xs) (sym (ap (λ (x : M). x.0.seen) d.after)) p

-- what the closed table says of the passes that were gathered
pub record Ended {O C R : Type 0} (next : O → ℕ → C → O × R) (o : O) (callers : ℕ)
    (ks : List (Knowing C R)) (h : Held O C R) : Type 0 where
  pub log : List (Entry C R)
  pub legal : IsLegal next o log
  pub leads : h.object ≡ state_after next o log
  pub callers_only : All (λ e. e.caller < callers) log
  pub agrees : All (λ k. IsPrefix k.seen log × (calls_by k.number log ≡ k.mine)) ks

module _ {O C R : Type 0} (next : O → ℕ → C → O × R) (o : O) (callers : ℕ) where
  -- the states of the table
  abbrev St : Type 0
  St = State (Held O C R) (View O C R)

  -- nobody has the turn where all numbers were gathered
  free_at_end : (s : St) (r : Kept next o callers s) (id : ℕ) (ks : List (Knowing C R))
      → All (HasPass callers (get_or s.words 0 0) r.seat_of r.log id) ks
      → ((n : ℕ) → n < callers → Contains (map (λ (k : Knowing C R). k.number) ks) n)
      → get_or s.words 0 0 ≡ 0
  free_at_end s r id ks knows all =
      let w : ℕ = get_or s.words 0 0 in
      let none-has : All (λ (n : ℕ). w ≢ suc n) (map (λ (k : Knowing C R). k.number) ks)
      = All-map (λ (n : ℕ). w ≢ suc n) (λ (k : Knowing C R). k.number) ks
      (All-weaker (HasPass callers w r.seat_of r.log id)
      (λ (k : Knowing C R). w ≢ suc k.number) (λ k p. p.1.1) ks knows) in
      dite (ℕ_discrete w 0) (λ z. z) (λ busy.
      let n : ℕ = w - 1 in
      let le = r.holder in
      let is : w ≡ suc n = omega arith in
      absurd (All-contains (λ (m : ℕ). w ≢ suc m) (map (λ (k : Knowing C R). k.number) ks) n
      none-has (all n (omega arith)) is))

  -- the closed table has the object where the history leaves it, and each gathered pass agrees
  pub ends : (id : ℕ) (v : View O C R) (words : List ℕ) (slots : List (Held O C R)) (h : Held O C R)
      → MayGather v.role → Final (Seen (Kept next o callers) id v) words slots
      → ((n : ℕ) → n < callers → Contains (map (λ (k : Knowing C R). k.number) (gathered v)) n)
      → get_elem? slots 0 ≡ some h → Ended next o callers (gathered v) h
  ends id v words slots h may final all here =
      let s : St = final.0 in
      let r : Kept next o callers s = final.1.0 in
      let ks : List (Knowing C R) = gathered v in
      let w : ℕ = get_or s.words 0 0 in
      let knows : All (HasPass callers w r.seat_of r.log id) ks
      = gathered_holds next o callers s r id v final.1.1 may in
      let home = r.at_home (free_at_end s r id ks knows all) in
      let same : h ≡ home.0
      = some-injective h home.0 (sym here ∙ final.4 0 home.0 home.1) in record {
        log = r.log;
        legal = r.legal;
        leads = ap (λ (x : Held O C R). x.object) same ∙ home.2;
        callers_only = r.callers_only;
        agrees = All-weaker (HasPass callers w r.seat_of r.log id)
            (λ (k : Knowing C R). IsPrefix k.seen r.log × (calls_by k.number r.log ≡ k.mine))
            (λ k p. (p.1.2, p.1.3)) ks knows;
      }
