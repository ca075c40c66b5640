-- A worker stands for the empty record as it opens, and for the longer record after every reply.
use Rattle.std.proofs.Common.{List, None, Option, Some, arith, inl, refl, subst, sym, ℕ, ⊎_elim, ◌<◌, ◌≡◌, ◌≤◌}
use Rattle.list_totals.specs.Totals.{one_if_same, times}
use Rattle.search_machine.specs.declared.phase.Phase.{Phase}
use Rattle.search_machine.specs.declared.phase.Phase.TheVariants.{Aim, Claim, Give, Late, Look, Offer, Pop}
use Rattle.search_machine.specs.Ground.{Fits, Ground, worst}
use Rattle.search_machine.specs.Workers.{Worker, after_claim, idle, leader, start_list, after_reply, leaves_below}
use Rattle.search_machine.specs.OwnRecord.{Floored, RecordedWorker, OwnRecord, nothing_yet, with_claim}
use Rattle.search_machine.specs.Replies.{ReplyFits, after, own_after}
use Rattle.search_machine.specs.declared.calls.Reply.{Reply}
use Rattle.search_machine.specs.declared.calls.Reply.TheVariants.{Claimed, Offered, PopTold, PutTold, Seen}
use Rattle.search_machine.specs.Stands.{Stands}
use Rattle.search_machine.proofs.Counts.{counts_or_not, same_counts}
use Rattle.search_machine.proofs.Opening.{start_only}
use Rattle.search_machine.proofs.OwnClaims.{own_aim, own_claimed, own_ended, own_offer}
use Rattle.search_machine.proofs.OwnLate.{own_late}
use Rattle.search_machine.proofs.OwnPops.{own_pop}
use Rattle.search_machine.proofs.OwnPuts.{own_give, own_look}
use Rattle.search_machine.proofs.Places.{get_some}
use Rattle.search_machine.proofs.Scans.{list_none, list_opening}

-- the start leaf stands in its list
start_there : (g : Ground) (l : ℕ) → g.start ≡ Some l → 0 < times l (start_list g.start)
start_there g l e =
    subst (λ (o : Option ℕ). 0 < times l (start_list o)) (sym e) (let a = same_counts l in
    omega arith)

-- no leaf stands there twice
start_single : (o : Option ℕ) (l : ℕ) → times l (start_list o) ≤ 1
start_single None l = omega arith
start_single (Some m) l =
    ⊎_elim (λ (c : (one_if_same l m ≡ 1) × (l ≡ m)). let a = c.0 in omega arith)
    (λ (c : one_if_same l m ≡ 0). omega arith) (counts_or_not l m)

-- worker 0 as it opens
pub own_leader : (g : Ground) → Fits g → Stands g 0 (leader g) nothing_yet
own_leader g fits = record {
  covers = λ l h. absurd h.2;
  puts = λ p h. absurd h;
  pops = λ p h. absurd h;
  claims = λ c h. absurd h;
  scanned = λ l h. inl (refl, start_only g.start l h);
  taken = λ l low h. absurd h.2;
  opening = λ l z start. start_there g l start;
  single = λ l. start_single g.start l;
  refused = λ l h. absurd h.1;
  list = list_opening g fits (Floored g nothing_yet);
  once = λ d l. omega arith;
  held = λ l h. absurd (omega arith);
  phase = refl;
}

-- any other worker as it opens
pub own_idle : (g : Ground) (i : ℕ) → 0 < i → Stands g i idle nothing_yet
own_idle g i high = record {
  covers = λ l h. absurd h.2;
  puts = λ p h. absurd h;
  pops = λ p h. absurd h;
  claims = λ c h. absurd h;
  scanned = λ l h. absurd (omega arith);
  taken = λ l low h. absurd h.2;
  opening = λ l z start. absurd (omega arith);
  single = λ l. omega arith;
  refused = λ l h. absurd h.1;
  list = list_none g (Floored g nothing_yet);
  once = λ d l. omega arith;
  held = λ l h. absurd (omega arith);
  phase = refl;
}

-- a claim, whatever the reply
claimed : (g : Ground) → Fits g → (i : ℕ) (w : Worker) (r : OwnRecord) (o : Option ℕ)
    → ReplyFits g (Claimed o) → Stands g i w r → w.phase ≡ Claim
    → Stands g i (after_claim g w (leaves_below g o)) (with_claim o r)
claimed g fits i w r None low s e = own_ended g i w r s e
claimed g fits i w r (Some c) low s e =
    let x = get_some g.roots c low in
    subst (λ (o : Option (List ℕ)). Stands g i (after_claim g w o) (with_claim (Some c) r))
    (sym x.1) (own_claimed g fits i w r c x.0 s e x.1)

-- the reply to the call of its phase; a reply to another call changes nothing
replied : (g : Ground) → Fits g → (i : ℕ) (w : Worker) (r : OwnRecord) (phase : Phase)
    (reply : Reply) → ReplyFits g reply → Stands g i w r → w.phase ≡ phase
    → Stands g i (after_reply g w phase reply) (own_after g i w r phase reply)
replied g fits i w r Claim (Claimed o) low s e = claimed g fits i w r o low s e
replied g fits i w r Look (Seen v) low s e = own_look g i w r v s e
replied g fits i w r (Give l) (PutTold reply) low s e = own_give g i w r l s e reply
replied g fits i w r (Late l) (Seen v) low s e = own_late g fits i w r l v s e
replied g fits i w r (Aim j) (Seen v) low s e = own_aim g i w r j v s e
replied g fits i w r (Pop j v) (PopTold reply) low s e = own_pop g fits i w r j v s e reply
replied g fits i w r (Offer next) (Offered v) low s e =
    own_offer g i w r next (record { value = worst g w.list; reply = v }) s e
replied g fits i w r _ _ low s e = s

-- a member that stands for its record stands for the longer record after a reply
pub reply_stands : (g : Ground) → Fits g → (i : ℕ) (x : RecordedWorker) (reply : Reply)
    → ReplyFits g reply → Stands g i x.worker x.own
    → Stands g i (after g i x reply).worker (after g i x reply).own
reply_stands g fits i x reply low s =
    replied g fits i x.worker x.own x.worker.phase reply low s refl
