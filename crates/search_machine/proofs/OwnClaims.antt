-- Claims, offers and reads in Aim keep a worker standing for its record.
use Rattle.std.proofs.Common.{List, None, Option, Some, [], ap, arith, inl, inr, length, refl, subst, sym, ℕ, ⊎_elim, ◌<◌, ◌∙◌, ◌∷◌, ◌≡◌, ◌≢◌, ◌≤◌, ◌⊎◌}
use Rattle.std.proofs.lemmas.Bool.{cases_eq, cases_lt}
use Rattle.std.proofs.lemmas.Option.{none-some, same_Some, slice_get_within}
use Rattle.std.specs.Prelude.{slice_get}
use Rattle.list_totals.specs.Totals.{one_if_same, times, total}
use Rattle.series_core.specs.declared.pair.Pair.{Pair}
use Rattle.search_machine.specs.declared.phase.Onward.{Onward}
use Rattle.search_machine.specs.declared.phase.Onward.TheVariants.{Aim as ToAim, Look as ToLook}
use Rattle.search_machine.specs.declared.phase.Phase.TheVariants.{Aim, Claim, Offer, Pop}
use Rattle.search_machine.specs.Ground.{Fits, Ground}
use Rattle.search_machine.specs.Workers.{Worker, after_claim, in_phase, onward, without}
use Rattle.list_totals.specs.Standing.{In}
use Rattle.search_machine.specs.OwnRecord.{Below, Different, OfferMade, OwnRecord, PutMade, claims_of, put_of, with_claim, with_offer, with_read}
use Rattle.search_machine.specs.Sound.{held, in_hand}
use Rattle.search_machine.specs.Stands.{OwnOnward, OwnPhase, Stands, in_late, stands_in}
use Rattle.search_machine.proofs.Counts.{counts_or_not, same_counts}
use Rattle.search_machine.proofs.HandsAndScans.{onward_hand}
use Rattle.search_machine.proofs.Opening.{remove, remove_other, remove_same}
use Rattle.search_machine.proofs.Owed.{only_told, owned, quiet}
use Rattle.search_machine.proofs.Places.{total_at, total_two}
use Rattle.search_machine.proofs.RecordsGrow.{grows_claim, grows_offer, grows_read, own_drains_still, own_onward_still, phase_of, under_still}

-- a read in Aim
pub own_aim : (g : Ground) (i : ℕ) (w : Worker) (r : OwnRecord) (j v : ℕ) → Stands g i w r
    → w.phase ≡ Aim j → Stands g i (in_phase (Pop j v) w) (with_read v r)
own_aim g i w r j v s e = quiet g i w (Pop j v) r (with_read v r) s
    (only_told g i w (Pop j v) r (v ∷ r.reads) r.offers (grows_read v r) (λ l. ap (in_hand l) e) (λ l. refl) (
      own_drains_still g r (with_read v r) (grows_read v r) i j w.rest
          (phase_of g i w r (Aim j) s e),
      inl refl,
    ))

-- going on after an offer or a scan
pub own_onward : (g : Ground) (t : OwnRecord) (i : ℕ) (ls : List ℕ) (ps : List Pair) (next : Onward)
    → OwnOnward g t i ls next → OwnPhase g t i ls ps (onward next)
own_onward g t i ls ps ToLook h = tt
own_onward g t i ls ps (ToAim j) h = h

-- an offer
pub own_offer : (g : Ground) (i : ℕ) (w : Worker) (r : OwnRecord) (next : Onward)
    (o : OfferMade) → Stands g i w r → w.phase ≡ Offer next
    → Stands g i (in_phase (onward next) w) (with_offer o r)
own_offer g i w r next o s e = quiet g i w (onward next) r (with_offer o r) s
    (only_told g i w (onward next) r r.reads (o ∷ r.offers) (grows_offer o r) (λ l. ap (in_hand l) e)
    (λ l. onward_hand l next)
    (own_onward g (with_offer o r) i w.rest w.list next
    (own_onward_still g r (with_offer o r) (grows_offer o r) i
    w.rest next (on (phase_of g i w r (Offer next) s e)))))
  where
    on : OwnPhase g r i w.rest w.list (Offer next) → OwnOnward g r i w.rest next
    on h = h.1

-- a claim that gave no number adds no leaf
claim_none : (g : Ground) (r : OwnRecord) (l : ℕ) → Below g (with_claim None r) l → Below g r l
claim_none g r l (c, ls, h, at, there) = (
  c,
  ls,
  ⊎_elim (λ (e : Some c ≡ None). absurd (none-some c (sym e)))
      (λ (i : In (Some c) r.claims). i) h,
  at,
  there,
)

-- a claim that was answered None
pub own_ended : (g : Ground) (i : ℕ) (w : Worker) (r : OwnRecord) → Stands g i w r → w.phase ≡ Claim
    → Stands g i (after_claim g w None) (with_claim None r)
own_ended g i w r s e = quiet g i w (Aim 0) r (with_claim None r) s (record {
  more = grows_claim None r;
  no_hand = λ l. ap (in_hand l) e;
  no_hand_then = λ l. refl;
  same_puts = refl;
  news = claim_none g r;
  pops = λ p h. inl h;
  claims = λ c h. ⊎_elim (λ (e : Some c ≡ None). absurd (none-some c (sym e)))
      (λ (t : In (Some c) r.claims). inl t) h;
  taken = λ l low h. inl h;
  different = λ d c. let a = d c in omega arith;
  phase = record {
    ended = inl refl;
    rest = phase_of g i w r Claim s e;
    closed =
        λ x h. absurd (omega arith);
  };
})

-- a leaf below the root child is the start leaf or in the rest
in_without : (o : Option ℕ) (l : ℕ) (ls : List ℕ) → 0 < times l ls
    → (o ≡ Some l) ⊎ (0 < times l (without o ls))
in_without None l ls h = inr h
in_without (Some m) l ls h = ⊎_elim
    (λ (e : l ≡ m). inl (ap (λ (n : ℕ). Some n) (sym e)))
    (λ (ne : l ≡ m → ⊥). let a = remove_other m l ls ne in inr (omega arith))
    (cases_eq l m)

-- a leaf in the rest is not the start leaf, and below the root child
without_in : (o : Option ℕ) (l : ℕ) (ls : List ℕ) → 0 < times l (without o ls)
    → (o ≢ Some l) × (times l (without o ls) ≡ times l ls)
without_in None l ls h = (λ e. none-some l e, refl)
without_in (Some m) l ls h = ⊎_elim
    (λ (e : l ≡ m). let a = remove_same m ls in
    let b : times l (remove m ls) ≡ times m (remove m ls) = ap
    (λ (n : ℕ). times n (remove m ls)) e in absurd (omega arith))
    (λ (ne : l ≡ m → ⊥). (λ e. ne (sym (same_Some m l e)), remove_other m l ls ne))
    (cases_eq l m)

-- a put of a leaf that stands among the puts
pub put_in : (l : ℕ) (ps : List PutMade) → 0 < total (put_of l) ps
    → (p : PutMade) × In p ps × (l ≡ p.entry.leaf)
put_in l [] h = absurd (omega arith)
put_in l (p ∷ ps) h = ⊎_elim
    (λ (c : (one_if_same l p.entry.leaf ≡ 1) × (l ≡ p.entry.leaf)). (p, inl refl, c.1))
    (λ (c : one_if_same l p.entry.leaf ≡ 0). let r = put_in l ps (omega arith) in
    (r.0, inr r.1, r.2))
    (counts_or_not l p.entry.leaf)

-- a number that a claim gave is counted
pub claim_in : (c : ℕ) (os : List (Option ℕ)) → In (Some c) os → 0 < total (claims_of c) os
claim_in c [] h = absurd h
claim_in c (o ∷ os) h = ⊎_elim
    (λ (e : Some c ≡ o). let a = same_counts c in
    let b : one_if_same c c ≡ claims_of c o = ap (claims_of c) e in omega arith)
    (λ (i : In (Some c) os). let a = claim_in c os i in omega arith)
    h

module _ (g : Ground) (fits : Fits g) (i : ℕ) (w : Worker) (r : OwnRecord) (c : ℕ) (ls : List ℕ)
    (s : Stands g i w r) (e : w.phase ≡ Claim) (at : slice_get g.roots c ≡ Some ls) where
  -- the worker holds no leaf
  empty : (l : ℕ) → held l w ≡ 0
  empty l = let a = ap (in_hand l) e in
      let b = ap (times l) (phase_of g i w r Claim s e) in omega arith

  -- a leaf of the new rest was not put before
  not_put : Different (with_claim (Some c) r) → (l : ℕ) → 0 < times l ls
      → 0 < total (put_of l) r.puts → ⊥
  not_put d l here h =
      let p = put_in l r.puts h in
      let b : Below g r l = subst (Below g r) (sym p.2) (s.puts p.0 p.1).below in
      ⊎_elim
      (λ (same : c ≡ b.0). let x = claim_in b.0 r.claims b.2 in
      let y = d b.0 in
      let z = same_counts b.0 in
      let u : one_if_same b.0 c ≡ one_if_same b.0 b.0 = ap
      (λ (n : ℕ). one_if_same b.0 n) same in absurd (omega arith))
      (λ (ne : c ≡ b.0 → ⊥). let x = total_two (times l) g.roots c b.0 ls b.1 at b.3 ne here b.4 in
      let y = fits.below_once l in absurd (omega arith))
      (cases_eq c b.0)

  -- a claim that gave the number c
  pub own_claimed : Stands g i (after_claim g w (Some ls)) (with_claim (Some c) r)
  own_claimed = owned g i w (after_claim g w (Some ls)) r (with_claim (Some c) r) s (record {
    more = grows_claim (Some c) r;
    news = λ l h. ⊎_elim
        (λ (same : Some h.0 ≡ Some c). inr
        (⊎_elim (λ (x : g.start ≡ Some l). inl x)
        (λ (x : 0 < times l (without g.start ls)). inr (omega arith))
        (in_without g.start l ls (the_same l h same))))
        (λ (old : In (Some h.0) r.claims). inl (h.0, h.1, old, h.3, h.4))
        h.2;
    keeps = λ l h. let a = empty l in absurd (omega arith);
    puts = λ p h. inl h;
    pops = λ p h. inl h;
    claims = λ n h. ⊎_elim
        (λ (same : Some n ≡ Some c). inr
        (subst (λ (m : ℕ). m < length g.roots) (sym (same_Some n c same))
        (slice_get_within g.roots c ls at))) (λ (t : In (Some n) r.claims). inl t) h;
    scanned = λ l h. inl h;
    kept_scans = λ l h. h;
    taken = λ l low h. inl h;
    single = s.single;
    refused = λ l h. inl h;
    hand = λ l h. let a = ap (in_late l) e in absurd (omega arith);
    list = under_still g r (with_claim (Some c) r) (grows_claim (Some c) r) w.scanned w.list s.list;
    once = once;
    held = λ l h. let a = without_in g.start l ls (omega arith) in
        inr (a.0, (c, ls, inl refl, at, there l a.1 (omega arith)));
    phase = tt;
  })
    where
      the_same : (l : ℕ) (h : Below g (with_claim (Some c) r) l) → Some h.0 ≡ Some c
          → 0 < times l ls
      the_same l h same =
          subst (λ (xs : List ℕ). 0 < times l xs)
          (same_Some h.1 ls (sym h.3 ∙ ap (slice_get g.roots) (same_Some h.0 c same) ∙ at)) h.4

      there : (l : ℕ) → times l (without g.start ls) ≡ times l ls → 0 < times l (without g.start ls)
          → 0 < times l ls
      there l e h = omega arith

      once : Different (with_claim (Some c) r) → (l : ℕ)
          → stands_in (with_claim (Some c) r) (after_claim g w (Some ls)) l ≤ 1
      once d l = ⊎_elim
          (λ (h : 0 < times l (without g.start ls)).
          let a = without_in g.start l ls h in
          let b = total_at (times l) g.roots c ls at in
          let f = fits.below_once l in
          ⊎_elim
          (λ (p : 0 < total (put_of l) r.puts). absurd (not_put d l (omega arith) p))
          (λ (p : total (put_of l) r.puts ≤ 0). omega arith)
          (cases_lt 0 (total (put_of l) r.puts)))
          (λ (h : times l (without g.start ls) ≤ 0). let a = s.once
          (λ x. let b = d x in omega arith) l in omega arith)
          (cases_lt 0 (times l (without g.start ls)))
