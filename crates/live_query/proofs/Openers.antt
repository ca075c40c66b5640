-- What a searcher is as it opens, and where it is after some turns.
use Rattle.std.proofs.Common.{◌≡◌, ◌≢◌, ℕ, zero, suc, ◌<◌, List, [], None, Some, false, All, map, refl, replicate, sym, ap, ◌∙◌, subst, arith}
use Rattle.std.specs.Prelude.{slice_get}
use Rattle.std.proofs.lemmas.Bool.{true≢false}
use Rattle.list_totals.specs.Standing.{In}
use Rattle.best_word.specs.Passes.{Best}
use Rattle.claim_word.specs.Passes.{fresh_pass}
use Rattle.subtree_build.specs.Index.{IndexParts}
use Rattle.search_machine.specs.declared.phase.Phase.{Phase}
use Rattle.search_machine.specs.declared.phase.Phase.TheVariants.{Claim, Look, Give, Late, Aim, Pop, Offer, Done}
use Rattle.search_machine.specs.declared.phase.Onward.TheVariants.{Look as ToLook, Aim as ToAim}
use Rattle.search_machine.specs.Ground.{Fits, Ground}
use Rattle.search_machine.specs.OwnRecord.{RecordedWorker, nothing_yet}
use Rattle.search_machine.specs.Stands.{OwnPhase, StandsFor}
use Rattle.search_machine.specs.Workers.{fills}
use Rattle.search_machine.proofs.EveryReply.{own_idle, own_leader}
use Rattle.search_machine.proofs.Places.{get_replicate}
use Rattle.search_task.specs.Questions.{Question, last_of, search_over}
use Rattle.query_core.specs.Teams.{AreHired}
use Rattle.query_core.specs.Turning.{search_of}
use Rattle.query_core.specs.Working.{IsOf, Working, opens_as}
use Rattle.search_task.proofs.OfIndex.{search_fits}
use Rattle.live_query.specs.Holding.{Held, fresh_held}
use Rattle.live_query.specs.RootClaims.{DrawTied, IsOwn, Roots}
use Rattle.live_query.specs.WordPasses.{PassTied}
use Rattle.live_query.specs.Parts.{Between, IsOpen, Opens}
use Rattle.live_query.proofs.FillRunning.{is_end, not_end}
use Rattle.live_query.proofs.Places.{all_at, all_from, map_at}
use Rattle.live_query.proofs.RootTies.{fresh_drawn_tied}
use Rattle.live_query.proofs.WordTies.{fresh_tied}

-- the search of a worker at its place is that over its question and index
pub search_at : (a : Question) (ix : IndexParts) (m i : ℕ) (w : Working) → IsOf a ix m i w → search_of w 1 ≡ search_over a ix 1 m
search_at a ix m i w is =
    ap (λ b. search_over b w.index 1 w.queues) is.question
    ∙ ap (λ jx. search_over a jx 1 w.queues) is.index
    ∙ ap (λ q. search_over a ix 1 q) is.queues

-- a worker that keeps its place is where it was
pub moved : (a : Question) (ix : IndexParts) (m i : ℕ) (w v : Working) → IsOf a ix m i w
    → IsOf w.question w.index w.queues w.number v → IsOf a ix m i v
moved a ix m i w v first second = record {
  question = second.question ∙ first.question;
  index = second.index ∙ first.index;
  number = second.number ∙ first.number;
  queues = second.queues ∙ first.queues;
}

-- one of the claims of a worker that has filled was answered None
pub filled_ended : (g : Ground) (i : ℕ) (x : RecordedWorker) → StandsFor g i x → fills x.worker.phase ≡ false → In None x.own.claims
filled_ended g i x s f = by x.worker.phase f s.phase
  where
    by : (p : Phase) → fills p ≡ false → OwnPhase g x.own i x.worker.rest x.worker.list p → In None x.own.claims
    by (Aim j) f o = o.ended
    by (Pop j v) f o = o.0.ended
    by (Offer (ToAim j)) f o = o.1.ended
    by Done f o = o.ended
    by Claim f o = absurd (true≢false f)
    by Look f o = absurd (true≢false f)
    by (Give l) f o = absurd (true≢false f)
    by (Late l) f o = absurd (true≢false f)
    by (Offer ToLook) f o = absurd (true≢false f)

module _ (a : Question) (ix : IndexParts) (m : ℕ) (roots : Roots) (best : Best) (some : 0 < m) (team : List Between)
    (opens : Opens a ix m roots best team) where
  abbrev pub one : Ground
  one = search_over a ix 1 m

  pub fits_one : Fits one
  fits_one = search_fits a ix 1 m opens.searches (omega arith) some

  -- the machine's worker with which a searcher opens, with no record
  abbrev pub opener : ℕ → RecordedWorker
  opener i = record { worker = opens_as one i; own = nothing_yet }

  stands : (i : ℕ) → StandsFor one i (opener i)
  stands zero = own_leader one fits_one
  stands (suc i) = own_idle one (suc i) (omega arith)

  claims : (i : ℕ) → is_end (opens_as one i).phase ≡ false
  claims zero = refl
  claims (suc i) = refl

  module _ (i : ℕ) (c : Between) (o : IsOpen a ix m roots best i c) where
    pub opener_runs : c.worker.phase ≢ Done
    opener_runs = not_end c.worker.phase (ap is_end (sym o.shows.phase) ∙ claims i)

    pub opener_stands : StandsFor (search_of c.worker 1) c.worker.number (opener i)
    opener_stands =
        subst (λ (j : ℕ). StandsFor (search_of c.worker 1) j (opener i)) (sym o.place.number)
        (subst (λ (h : Ground). StandsFor h i (opener i)) (sym (search_at a ix m i c.worker o.place)) (stands i))

    pub opener_own : IsOwn roots c.hand.drawn
    opener_own = subst (λ (h : Held). IsOwn roots h.drawn) (sym o.hand) (record { claims = refl; met = omega arith; end = omega arith })

    pub opener_drawn : DrawTied roots c.hand.drawn []
    opener_drawn =
        subst (λ (h : Held). DrawTied roots h.drawn []) (sym o.hand) (fresh_drawn_tied roots (fresh_pass roots.counter) refl)

    pub opener_word : c.hand.seen.best ≡ best
    opener_word = ap (λ (h : Held). h.seen.best) o.hand

    pub opener_floor : c.hand.seen.floor ≡ last_of a
    opener_floor = ap (λ (h : Held). h.seen.floor) o.hand

    pub opener_tied : PassTied c.hand.seen nothing_yet
    opener_tied = subst (λ (h : Held). PassTied h.seen nothing_yet) (sym o.hand) (fresh_tied best (last_of a))

  pub all_own : All (λ (c : Between). IsOwn roots c.hand.drawn) team
  all_own = all_from (λ (c : Between). IsOwn roots c.hand.drawn) team (λ i c at. opener_own i c (opens.each i c at))

  pub all_word : All (λ (c : Between). c.hand.seen.best ≡ best) team
  all_word = all_from (λ (c : Between). c.hand.seen.best ≡ best) team (λ i c at. opener_word i c (opens.each i c at))

-- all of a list of one item are that item
pub all_replicate : {X : Type 0} (n : ℕ) (x : X) (xs : List X) → xs ≡ replicate n x → All (λ y. y ≡ x) xs
all_replicate n x xs is =
    subst (All (λ y. y ≡ x)) (sym is) (all_from (λ y. y ≡ x) (replicate n x) (λ i y at. sym (get_replicate n x i y at)))

-- searchers with hired workers that have drawn nothing are open
pub team_opens : (a : Question) (ix : IndexParts) (m : ℕ) (roots : Roots) (best : Best) (team : List Between) (ws : List Working)
    → map (λ (c : Between). c.worker) team ≡ ws → AreHired a ix m ws
    → All (λ (c : Between). c.hand ≡ fresh_held roots best (last_of a)) team
    → (i : ℕ) (c : Between) → slice_get team i ≡ Some c → IsOpen a ix m roots best i c
team_opens a ix m roots best team ws are hired hands i c at =
    let there = ap (λ l. slice_get l i) (sym are) ∙ map_at (λ (c : Between). c.worker) team i c at in
    record {
      place = hired.places i c.worker there;
      shows = hired.opens i c.worker there;
      hand = all_at (λ (c : Between). c.hand ≡ fresh_held roots best (last_of a)) team i c hands at;
    }
