-- A turn in the drain part, over lawful queues: whatever the record was, there is a later one (`drain_on`); and turns one after another.
use Rattle.std.proofs.Common.{◌≡◌, ◌≢◌, ℕ, None, List, false, length, sym, refl, ap, ◌∙◌, subst}
use Rattle.series_core.specs.declared.queue_words.PutReply.TheVariants.{Filled}
use Rattle.series_core.specs.declared.queue_words.PopReply.{PopReply}
use Rattle.best_word.specs.Passes.{Pass}
use Rattle.best_word.specs.declared.rule.Event.{Event}
use Rattle.search_machine.specs.declared.calls.Call.{Call}
use Rattle.search_machine.specs.declared.calls.Call.TheVariants.{Claim, Read, Offer, Put, Pop}
use Rattle.search_machine.specs.declared.calls.Reply.{Reply}
use Rattle.search_machine.specs.declared.calls.Reply.TheVariants.{Claimed, Seen, Offered, PutTold, PopTold}
use Rattle.search_machine.specs.declared.phase.Phase.TheVariants.{Done}
use Rattle.search_machine.specs.Ground.{Fits, Ground}
use Rattle.search_machine.specs.Workers.{fills}
use Rattle.search_machine.specs.OwnRecord.{PopMade, RecordedWorker, nothing_yet}
use Rattle.search_machine.specs.Replies.{after}
use Rattle.search_machine.specs.Stands.{StandsFor}
use Rattle.search_machine.proofs.EveryReply.{reply_stands}
use Rattle.search_machine.proofs.Draining.{drains_on}
use Rattle.search_task.specs.Questions.{last_of}
use Rattle.query_core.specs.Turning.{ReplyNotLow, Turns, search_of}
use Rattle.query_core.specs.Working.{IsOf, Working}
use Rattle.live_query.specs.DrainHands.{DrainKept, DrainDid}
use Rattle.live_query.specs.Parts.{Drainer, MayDrain}
use Rattle.live_query.specs.Knowing.{DrainServes, DrainsBy, DrainsOn, IsLater}
use Rattle.live_query.proofs.DrainTies.{LawfulQueues, drain_ties}
use Rattle.live_query.proofs.FillKnowing.{same_search}
use Rattle.live_query.proofs.GoingOn.{place_on, same_place}

module _ {Q : Type 0} {count : Q → ℕ} {Pops : Q → ℕ → ℕ → PopReply → Q → Type 0} {Same : Q → Q → Type 0}
    {Agrees : Q → List PopMade → Type 0} (laws : LawfulQueues count Pops Same Agrees) where
  -- a call leaves the objects of the hand as they are, and of the queues what Same says
  record SameDrain (h k : DrainKept Q) : Type 0 where
    best : k.seen.best ≡ h.seen.best
    floor : k.seen.floor ≡ h.seen.floor
    roots : k.roots ≡ h.roots
    queues : Same h.queues k.queues

  same_of : (h k : DrainKept Q) → k ≡ h → SameDrain h k
  same_of h k e =
      subst (SameDrain h) (sym e) (record { best = refl; floor = refl; roots = refl; queues = laws.stays h.queues })

  same_seen : (h k : DrainKept Q) {trace : List Event} → k ≡ record h { seen = k.seen } → k.seen ≡ record h.seen { trace = trace }
      → SameDrain h k
  same_seen h k only seen = subst (SameDrain h) (sym only) (record {
    best = ap (λ (p : Pass). p.best) seen;
    floor = ap (λ (p : Pass). p.floor) seen;
    roots = refl;
    queues = laws.stays h.queues;
  })

  did_same : (h k : DrainKept Q) (call : Call) (reply : Reply) → DrainDid Pops h call reply k → SameDrain h k
  did_same h k Claim (Claimed None) d = same_of h k d
  did_same h k Read (Seen v) d = same_seen h k d.1 d.0.after
  did_same h k (Offer x) (Offered v) d = same_seen h k d.1 d.0.after
  did_same h k (Put m e) (PutTold (Filled c)) d = same_of h k d.1
  did_same h k (Pop m v) (PopTold reply) d =
      subst (SameDrain h) (sym d.1) (record {
        best = refl;
        floor = refl;
        roots = refl;
        queues = laws.same h.queues k.queues m v reply d.0;
      })
  did_same h k _ _ d = absurd d

  -- a turn: the worker and its hand before, and after it
  module _ (w v : Working) (h k : DrainKept Q) (serves : DrainServes count w h) (drains : fills w.phase ≡ false)
      (running : w.phase ≢ Done) (is : IsOf w.question w.index w.queues w.number v) (t : Turns (DrainDid Pops) h k w v) where
    abbrev g : Ground
    g = search_of w 1

    -- the machine's worker before and after, with no record
    abbrev x : RecordedWorker
    x = record { worker = serves.shown; own = nothing_yet }

    same : SameDrain h k
    same = did_same h k _ t.0 (t.2.called 1 x serves.shows)

    drain_serves : DrainServes count v k
    drain_serves = record {
      shown = (after g w.number x t.1).worker;
      shows = t.2.next 1 x serves.shows;
      fits = subst (λ (g : Ground). Fits g) (sym (same_search w v is)) serves.fits;
      roots = same.roots ∙ serves.roots ∙ sym (ap (λ ix. length ix.roots) is.index);
      floor = same.floor ∙ serves.floor ∙ sym (ap last_of is.question);
      queues = laws.counted h.queues k.queues same.queues ∙ serves.queues ∙ sym is.queues;
    }

    -- it fills no more
    still_drains : fills v.phase ≡ false
    still_drains =
        ap fills (sym (t.2.next 1 x serves.shows).phase)
        ∙ (drains_on g w.number x.worker x.own x.worker.phase t.1 refl (ap fills serves.shows.phase ∙ drains)).0

    later : (y : RecordedWorker) → DrainsBy Agrees w h y → IsLater Agrees y v k (after g w.number y t.1)
    later y known =
        let filled : fills y.worker.phase ≡ false = ap fills known.shows.phase ∙ drains in
        let kept = drains_on g w.number y.worker y.own y.worker.phase t.1 refl filled in
        record {
          known = record {
            shows = t.2.next 1 y known.shows;
            stands = subst (λ (i : ℕ). StandsFor (search_of v 1) i (after g w.number y t.1)) (sym is.number)
                (subst (λ (g : Ground). StandsFor g w.number (after (search_of w 1) w.number y t.1)) (sym (same_search w v is))
                (reply_stands g serves.fits w.number y t.1 (t.2.fits 1) known.stands));
            tied = drain_ties laws g w.number y.worker y.own h k y.worker.phase t.0 t.1 serves.queues serves.fits.some_queue filled
                (λ e. running (sym known.shows.phase ∙ e))
                known.tied t.2.lowers (subst (λ (n : ℕ). ReplyNotLow n t.1) (sym serves.floor) t.2.not_low) (t.2.called 1 y known.shows);
          };
          claims = kept.1;
          puts = kept.2;
        }

    -- whatever the record was, there is a later one
    drain_on : DrainsOn Same Agrees w h v k
    drain_on = record {
      place = is;
      best = same.best;
      floor = same.floor;
      queues = same.queues;
      on = λ y known. (after g w.number y t.1, later y known);
    }

  pub drain_stays : (w : Working) (h : DrainKept Q) → DrainsOn Same Agrees w h w h
  drain_stays w h = record {
    place = same_place w;
    best = refl;
    floor = refl;
    queues = laws.stays h.queues;
    on = λ x known. (x, record { known = known; claims = refl; puts = refl });
  }

  drain_then : (w v u : Working) (h k m : DrainKept Q) → DrainsOn Same Agrees w h v k → DrainsOn Same Agrees v k u m
      → DrainsOn Same Agrees w h u m
  drain_then w v u h k m first second = record {
    place = place_on w v u first.place second.place;
    best = second.best ∙ first.best;
    floor = second.floor ∙ first.floor;
    queues = laws.onward h.queues k.queues m.queues first.queues second.queues;
    on = λ x known.
        let y = first.on x known in
        let z = second.on y.0 y.1.known in
        (z.0, record { known = z.1.known; claims = z.1.claims ∙ y.1.claims; puts = z.1.puts ∙ y.1.puts });
  }

  -- a searcher after some turns, and after one more: it may drain on where it is not done
  module _ (before later : Drainer Q) (ready : MayDrain count before)
      (is : IsOf before.worker.question before.worker.index before.worker.queues before.worker.number later.worker)
      (t : Turns (DrainDid Pops) before.hand later.hand before.worker later.worker) where
    pub ready_on : later.worker.phase ≢ Done → MayDrain count later
    ready_on running = record {
      serves = drain_serves before.worker later.worker before.hand later.hand ready.serves ready.filled ready.running is t;
      filled = still_drains before.worker later.worker before.hand later.hand ready.serves ready.filled ready.running is t;
      running = running;
    }

    pub goes_on : (w : Working) (h : DrainKept Q) → DrainsOn Same Agrees w h before.worker before.hand
        → DrainsOn Same Agrees w h later.worker later.hand
    goes_on w h so_far = drain_then w before.worker later.worker h before.hand later.hand so_far
        (drain_on before.worker later.worker before.hand later.hand ready.serves ready.filled ready.running is t)
