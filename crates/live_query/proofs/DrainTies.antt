-- What is known of the queues of the drain part (`LawfulQueues`), and by it that a hand stays tied to the record of its calls (`drain_ties`).
use Rattle.std.proofs.Common.{◌≡◌, ◌≢◌, ℕ, ◌+◌, ◌<◌, ◌≤◌, List, ◌∷◌, false, refl, sym, ap, subst, arith}
use Rattle.std.proofs.Math.Nat.{mod-lt}
use Rattle.std.proofs.lemmas.Bool.{true≢false}
use Rattle.best_word.specs.Passes.{Pass}
use Rattle.best_word.specs.declared.rule.Event.{Event}
use Rattle.series_core.specs.declared.queue_words.PopReply.{PopReply}
use Rattle.search_machine.specs.declared.calls.Call.TheVariants.{Pop as ToPop}
use Rattle.search_machine.specs.declared.calls.Reply.{Reply}
use Rattle.search_machine.specs.declared.calls.Reply.TheVariants.{Seen, Offered, PopTold}
use Rattle.search_machine.specs.declared.phase.Phase.{Phase}
use Rattle.search_machine.specs.declared.phase.Phase.TheVariants.{Claim, Look, Give, Late, Aim, Pop, Offer, Done}
use Rattle.search_machine.specs.declared.phase.Onward.TheVariants.{Look as ToLook, Aim as ToAim}
use Rattle.search_machine.specs.Ground.{Ground, worst}
use Rattle.search_machine.specs.Calls.{call_in}
use Rattle.search_machine.specs.OwnRecord.{OfferMade, OwnRecord, PopMade, with_offer, with_pop, with_read}
use Rattle.search_machine.specs.Replies.{own_after}
use Rattle.search_machine.specs.Workers.{Worker, fills, round_queue}
use Rattle.best_word.specs.declared.rule.Event.TheVariants.{Read as Reading}
use Rattle.query_core.specs.Turning.{Lowers, ReplyNotLow}
use Rattle.live_query.specs.DrainHands.{DrainDid, DrainKept, DrainTied}
use Rattle.live_query.specs.WordPasses.{Grew}
use Rattle.live_query.proofs.WordTies.{offer_tied, other_tied, read_tied, went_by}

-- Same says what stays of the queues, by a pop too; and where they agree with pops, after one more they agree with that one too
pub record LawfulQueues {Q : Type 0} (count : Q → ℕ) (Pops : Q → ℕ → ℕ → PopReply → Q → Type 0) (Same : Q → Q → Type 0)
    (Agrees : Q → List PopMade → Type 0) : Type 0 where
  pub stays : (q : Q) → Same q q
  pub onward : (q k n : Q) → Same q k → Same k n → Same q n
  pub counted : (q k : Q) → Same q k → count k ≡ count q
  pub same : (q k : Q) (m v : ℕ) (reply : PopReply) → Pops q m v reply k → Same q k
  pub agrees : (q k : Q) (ps : List PopMade) (m v : ℕ) (reply : PopReply) → m < count q → Pops q m v reply k → Agrees q ps
      → Agrees k (record { queue = m; limit = v; reply = reply } ∷ ps)

-- a hand that is seen as another one, whose pass made one more call
pub drain_grew : {Q : Type 0} (h k : DrainKept Q) (e : Event) (p : Pass) → h ≡ k → Grew h.seen e p
    → Grew k.seen e p × (record h { seen = p } ≡ record k { seen = p })
drain_grew {Q} h k e p same grew =
    (subst (λ (d : DrainKept Q). Grew d.seen e p) same grew, ap (λ (d : DrainKept Q). record d { seen = p }) same)

module _ {Q : Type 0} {count : Q → ℕ} {Pops : Q → ℕ → ℕ → PopReply → Q → Type 0} {Same : Q → Q → Type 0}
    {Agrees : Q → List PopMade → Type 0} (laws : LawfulQueues count Pops Same Agrees) where
  tied_read : (h : DrainKept Q) (r : OwnRecord) (v u : ℕ) (q : Pass) → Grew h.seen (Reading v) q → h.seen.floor ≤ u → u ≤ v
      → DrainTied Agrees h r → DrainTied Agrees (record h { seen = q }) (with_read u r)
  tied_read h r v u q did low lower t = record { word = read_tied h.seen q r v u did low lower t.word; pops = t.pops }

  tied_pop : (h k : DrainKept Q) (r : OwnRecord) (m v : ℕ) (reply : PopReply) → m < count h.queues
      → DrainDid Pops h (ToPop m v) (PopTold reply) k → DrainTied Agrees h r
      → DrainTied Agrees k (with_pop (record { queue = m; limit = v; reply = reply }) r)
  tied_pop h k r m v reply low d t =
      let p : PopMade = record { queue = m; limit = v; reply = reply } in
      subst (λ (k : DrainKept Q). DrainTied Agrees k (with_pop p r)) (sym d.1) (record {
        word = other_tied h.seen r (with_pop p r) refl refl t.word;
        pops = laws.agrees h.queues k.queues r.pops m v reply low d.0 t.pops;
      })

  -- the hand after a call in the drain part, of which the worker went by the reply or by a lower limit, is tied to the record after it
  pub drain_ties : (g : Ground) (i : ℕ) (w : Worker) (r : OwnRecord) (h k : DrainKept Q) (phase : Phase) (reply by : Reply)
      → count h.queues ≡ g.queues → 0 < g.queues → fills phase ≡ false → phase ≢ Done → DrainTied Agrees h r
      → Lowers reply by → ReplyNotLow h.seen.floor by
      → DrainDid Pops h (call_in g i w phase) reply k → DrainTied Agrees k (own_after g i w r phase by)
  drain_ties g i w r h k (Aim j) (Seen v) by q some f running t lower low d =
      let went = went_by v by lower in
      subst (λ (by : Reply). DrainTied Agrees k (own_after g i w r (Aim j) by)) (sym went.1)
      (subst (λ (k : DrainKept Q). DrainTied Agrees k (with_read went.0 r)) (sym d.1)
      (tied_read h r v went.0 k.seen d.0 (subst (ReplyNotLow h.seen.floor) went.1 low) went.2 t))
  drain_ties g i w r h k (Pop j v) (PopTold reply) by q some f running t lower low d =
      let low = mod-lt (i + j) some in
      subst (λ (by : Reply). DrainTied Agrees k (own_after g i w r (Pop j v) by)) (sym lower)
      (tied_pop h k r (round_queue g i j) v reply (omega arith) d t)
  drain_ties g i w r h k (Offer (ToAim j)) (Offered v) by q some f running t lower low d =
      let made : OfferMade = record { value = worst g w.list; reply = v } in
      subst (λ (by : Reply). DrainTied Agrees k (own_after g i w r (Offer (ToAim j)) by)) (sym lower)
      (subst (λ (k : DrainKept Q). DrainTied Agrees k (with_offer made r)) (sym d.1)
      (record { word = offer_tied h.seen k.seen r (worst g w.list) v d.0 t.word; pops = t.pops }))
  drain_ties g i w r h k Done reply by q some f running t lower low d = absurd (running refl)
  drain_ties g i w r h k Claim reply by q some f running t lower low d = absurd (true≢false f)
  drain_ties g i w r h k Look reply by q some f running t lower low d = absurd (true≢false f)
  drain_ties g i w r h k (Give l) reply by q some f running t lower low d = absurd (true≢false f)
  drain_ties g i w r h k (Late l) reply by q some f running t lower low d = absurd (true≢false f)
  drain_ties g i w r h k (Offer ToLook) reply by q some f running t lower low d = absurd (true≢false f)
  drain_ties g i w r h k _ _ by q some f running t lower low d = absurd d
