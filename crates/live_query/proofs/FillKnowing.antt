-- A turn in the fill part keeps what a worker and its hand know.
use Rattle.std.proofs.Common.{◌≡◌, ◌≢◌, ℕ, ◌<◌, List, true, length, sym, refl, ap, ◌∙◌, subst}
use Rattle.series_core.specs.declared.queue_words.PutReply.TheVariants.{Placed, Filled}
use Rattle.series_core.specs.declared.queue_words.PopReply.TheVariants.{Closed}
use Rattle.best_word.specs.Passes.{Pass}
use Rattle.best_word.specs.declared.rule.Event.{Event}
use Rattle.search_machine.specs.declared.calls.Call.{Call}
use Rattle.search_machine.specs.declared.calls.Call.TheVariants.{Claim, Read, Offer, Put, Pop}
use Rattle.search_machine.specs.declared.calls.Reply.{Reply}
use Rattle.search_machine.specs.declared.calls.Reply.TheVariants.{Claimed, Seen, Offered, PutTold, PopTold}
use Rattle.search_machine.specs.Ground.{Fits, Ground}
use Rattle.search_machine.specs.declared.phase.Phase.TheVariants.{Done}
use Rattle.search_machine.specs.OwnRecord.{RecordedWorker}
use Rattle.search_machine.specs.Replies.{after}
use Rattle.search_machine.specs.Stands.{StandsFor}
use Rattle.search_machine.specs.Workers.{fills}
use Rattle.search_task.specs.Questions.{last_of, search_over}
use Rattle.query_core.specs.Turning.{ReplyNotLow, Turns, search_of}
use Rattle.query_core.specs.Working.{IsOf, Working}
use Rattle.search_machine.proofs.EveryReply.{reply_stands}
use Rattle.live_query.specs.RootClaims.{IsOwn, Roots}
use Rattle.live_query.specs.FillHands.{FillKept, FillDid}
use Rattle.live_query.specs.Knowing.{FillServes, FillKnows, FillsOn}
use Rattle.live_query.proofs.FillRunning.{fills_runs, is_end, not_end}
use Rattle.live_query.proofs.RootTies.{still_own}
use Rattle.live_query.proofs.FillTies.{IsReal, ties, gives_real, set_length}

-- a call leaves the objects of the hand as they are
pub record SameFill (h k : FillKept) : Type 0 where
  pub roots : k.roots ≡ h.roots
  pub own : IsOwn h.roots h.drawn → IsOwn k.roots k.drawn
  pub best : k.seen.best ≡ h.seen.best
  pub floor : k.seen.floor ≡ h.seen.floor
  pub queues : k.queues ≡ h.queues
  pub marks : length k.marks ≡ length h.marks

same_of : (h k : FillKept) → k ≡ h → SameFill h k
same_of h k e = subst (SameFill h) (sym e) (record {
  roots = refl;
  own = λ own. own;
  best = refl;
  floor = refl;
  queues = refl;
  marks = refl;
})

same_seen : (h k : FillKept) {trace : List Event} → k ≡ record h { seen = k.seen } → k.seen ≡ record h.seen { trace = trace } → SameFill h k
same_seen h k only seen = subst (SameFill h) (sym only) (record {
  roots = refl;
  own = λ own. own;
  best = ap (λ (p : Pass). p.best) seen;
  floor = ap (λ (p : Pass). p.floor) seen;
  queues = refl;
  marks = refl;
})

pub did_same : (h k : FillKept) (call : Call) (reply : Reply) → FillDid h call reply k → SameFill h k
did_same h k Claim (Claimed o) d = subst (SameFill h) (sym d.2) (record {
  roots = refl;
  own = still_own h.roots h.drawn d.0 o d.1;
  best = refl;
  floor = refl;
  queues = refl;
  marks = refl;
})
did_same h k Read (Seen v) d = same_seen h k d.1 d.0.after
did_same h k (Offer x) (Offered v) d = same_seen h k d.1 d.0.after
did_same h k (Put m e) (PutTold Placed) d =
    subst (SameFill h) (sym d.2) (record {
      roots = refl;
      own = λ own. own;
      best = refl;
      floor = refl;
      queues = refl;
      marks = set_length h.marks e.leaf true;
    })
did_same h k (Put m e) (PutTold (Filled c)) d = same_of h k d.2
did_same h k (Pop m v) (PopTold (Closed x)) d = same_of h k d.1
did_same h k _ _ d = absurd d

-- the search is the same
pub same_search : (w v : Working) → IsOf w.question w.index w.queues w.number v → search_of v 1 ≡ search_of w 1
same_search w v is =
    ap (λ a. search_over a v.index 1 v.queues) is.question
    ∙ ap (λ ix. search_over w.question ix 1 v.queues) is.index
    ∙ ap (λ q. search_over w.question w.index 1 q) is.queues

module _ (w v : Working) (h k : FillKept) (serves : FillServes w h) (knows : FillKnows w h)
    (is : IsOf w.question w.index w.queues w.number v) (fill : fills w.phase ≡ true) (t : Turns FillDid h k w v) where
  abbrev g : Ground
  g = search_of w 1

  abbrev x : RecordedWorker
  x = knows.member

  same : SameFill h k
  same = did_same h k _ t.0 (t.2.called 1 x knows.shows)

  pub fill_serves : FillServes v k
  fill_serves = record {
    fits = subst (λ (g : Ground). Fits g) (sym (same_search w v is)) serves.fits;
    roots = ap (λ (r : Roots). r.count) same.roots ∙ serves.roots ∙ sym (ap (λ ix. length ix.roots) is.index);
    size = subst (λ (r : Roots). 0 < r.size) (sym same.roots) serves.size;
    one_each = subst (λ ix. length ix.nodes ≡ length ix.roots) (sym is.index) serves.one_each;
    floor = same.floor ∙ serves.floor ∙ sym (ap last_of is.question);
    queues = same.queues ∙ serves.queues ∙ sym is.queues;
    marks = same.marks ∙ serves.marks ∙ sym (ap (λ ix. length ix.leaves) is.index);
  }

  abbrev after_it : RecordedWorker
  after_it = after g w.number x t.1

  stands_on : StandsFor g w.number after_it
  stands_on = reply_stands g serves.fits w.number x t.1 (t.2.fits 1) knows.stands

  -- the worker is not done
  fills_running : v.phase ≢ Done
  fills_running =
      let runs = fills_runs g x.worker x.worker.phase t.1 refl (ap fills knows.shows.phase ∙ fill) in
      not_end v.phase (ap is_end (sym (t.2.next 1 x knows.shows).phase) ∙ runs)

  pub fill_knows : FillKnows v k
  fill_knows = record {
    running = fills_running;
    member = after_it;
    shows = t.2.next 1 x knows.shows;
    stands = subst (λ (i : ℕ). StandsFor (search_of v 1) i after_it) (sym is.number)
        (subst (λ (g : Ground). StandsFor g w.number after_it) (sym (same_search w v is)) stands_on);
    tied = ties g w.number x.worker x.own h k x.worker.phase t.0 t.1
        (ap fills knows.shows.phase ∙ fill)
        (subst (λ (n : ℕ). IsReal n x.worker.phase) (sym serves.marks)
        (gives_real g serves.fits w.number x.worker x.own knows.stands x.worker.phase refl))
        serves.fits.some_queue serves.queues serves.size knows.tied t.2.lowers
        (subst (λ (n : ℕ). ReplyNotLow n t.1) (sym serves.floor) t.2.not_low) (t.2.called 1 x knows.shows);
  }

  -- the worker keeps its place, and the hand its objects
  pub fills_on : FillsOn w h v k
  fills_on = record { place = is; roots = same.roots; own = same.own; best = same.best; floor = same.floor }
