-- From searchers that have filled, with hands over new queues, to what the drain part made of them (`came_at`).
use Rattle.std.proofs.Common.{◌≡◌, ◌≢◌, ℕ, ◌++◌, List, [], ◌∷◌, Some, All, length, map, refl, sym, ap, ◌∙◌, subst, length-append, arith}
use Rattle.std.specs.Prelude.{slice_get}
use Rattle.std.proofs.lemmas.List.{length-map}
use Rattle.std.proofs.lemmas.Option.{slice_get_within}
use Rattle.best_word.specs.Passes.{Best, Pass}
use Rattle.subtree_build.specs.Index.{IndexParts}
use Rattle.search_machine.specs.declared.phase.Phase.TheVariants.{Done}
use Rattle.search_machine.specs.Ground.{Fits, Ground}
use Rattle.search_machine.specs.OwnRecord.{PopMade}
use Rattle.search_machine.specs.Stands.{StandsFor}
use Rattle.search_machine.specs.Workers.{fills}
use Rattle.search_machine.proofs.Places.{get_map, get_some}
use Rattle.search_task.specs.Questions.{Question, last_of}
use Rattle.query_core.specs.Teams.{AreOver}
use Rattle.query_core.specs.Turning.{search_of}
use Rattle.query_core.specs.Working.{Working}
use Rattle.query_core.proofs.Pushes.{push_both}
use Rattle.search_task.proofs.OfIndex.{search_fits}
use Rattle.live_query.specs.declared.searcher.Searcher.{Searcher}
use Rattle.live_query.specs.Searchers.{with_hand}
use Rattle.live_query.specs.DrainHands.{DrainKept, drain_over}
use Rattle.live_query.specs.Knowing.{DrainServes, DrainsBy, DrainsOn}
use Rattle.live_query.specs.Parts.{AllFilled, AreEquipped, Drainer, EachOn, IsEquipped, MayDrain, Resting}
use Rattle.live_query.specs.Resting.{Kept}
use Rattle.live_query.specs.WordPasses.{PassTied}
use Rattle.live_query.proofs.GoingOn.{hand_taken}
use Rattle.live_query.proofs.Openers.{search_at}
use Rattle.live_query.proofs.Places.{all_from, by_place}
use Rattle.live_query.proofs.PutsKept.{HasRecord, has_at}

-- one more searcher: it let its hand go, and took one over new queues with its pass of the bound word
pub equipped_more : {Q : Type 0} (IsNew : ℕ → Q → Type 0) (roots : ℕ) (team : List Resting) (cells : List (Drainer Q)) (c : Resting)
    (d : Drainer Q) (q : Q) {more : List (Drainer Q)} {rest : Searcher Working (Unit {0})} {hand : DrainKept Q} {seen : Pass}
    → AreEquipped IsNew roots team cells → more ≡ cells ++ d ∷ [] → rest ≡ with_hand c tt → d ≡ with_hand rest hand
    → hand ≡ drain_over seen roots q → seen ≡ c.hand.seen → IsNew (length team) q
    → AreEquipped IsNew roots (team ++ c ∷ []) more
equipped_more {Q} IsNew roots team cells c d q {more} {rest} {hand} {seen} e pushed go took is same new =
    subst (AreEquipped IsNew roots (team ++ c ∷ [])) (sym pushed) (record {
      count = let a = length-append cells (d ∷ []) in let b = length-append team (c ∷ []) in let s = e.count in omega arith;
      each = push_both (IsEquipped IsNew roots) team cells c d (sym e.count) e.each (record {
        worker = ap (λ (d : Drainer Q). d.worker) taken;
        queues = q;
        hand = ap (λ (d : Drainer Q). d.hand) taken ∙ is ∙ ap (λ (p : Pass). drain_over p roots q) same;
        new = new;
      });
    })
  where
    taken : d ≡ with_hand c hand
    taken = hand_taken c go took refl

-- the outset of the drain part: searchers that have filled, each with its hand over m queues from which nothing was popped
pub record Outset {Q : Type 0} (count : Q → ℕ) (Agrees : Q → List PopMade → Type 0) (IsNew : ℕ → Q → Type 0) (a : Question)
    (ix : IndexParts) (m : ℕ) (best : Best) (team : List Resting) (roots : ℕ) (cells : List (Drainer Q)) : Type 0 where
  pub filled : AllFilled a ix m best team
  pub all_roots : roots ≡ length ix.roots
  pub equipped : AreEquipped IsNew roots team cells
  pub counts : (i : ℕ) (q : Q) → IsNew i q → count q ≡ m
  pub agrees : (i : ℕ) (q : Q) → IsNew i q → Agrees q []

-- searchers before and after their turns
pub record Worked {Q : Type 0} (Same : Q → Q → Type 0) (Agrees : Q → List PopMade → Type 0) (cells later : List (Drainer Q))
    : Type 0 where
  pub count : length later ≡ length cells
  pub on : EachOn (DrainsOn Same Agrees) cells later

module _ {Q : Type 0} {count : Q → ℕ} {Agrees : Q → List PopMade → Type 0} {IsNew : ℕ → Q → Type 0} {a : Question} {ix : IndexParts}
    {m : ℕ} {best : Best} {team : List Resting} {roots : ℕ} {cells : List (Drainer Q)}
    (outset : Outset count Agrees IsNew a ix m best team roots cells) where
  -- a searcher with its hand, and what it was after it had filled
  pub record Began (i : ℕ) (d : Drainer Q) : Type 0 where
    pub was : HasRecord outset.filled i
    pub is : IsEquipped IsNew roots i was.from d

  began_at : (i : ℕ) (d : Drainer Q) → slice_get cells i ≡ Some d → Began i d
  began_at i d at =
      let c = get_some team i (let low = slice_get_within cells i d at in let a = outset.equipped.count in omega arith) in
      let x = has_at outset.filled i c.0 c.1 in
      record {
        was = record { from = c.0; record_of = x.0; at = c.1; at_record = x.1; has = x.2 };
        is = outset.equipped.each i c.0 d c.1 at;
      }

  serves_at : (i : ℕ) (d : Drainer Q) → Began i d → DrainServes count d.worker d.hand
  serves_at i d b =
      subst (λ (w : Working). DrainServes count w d.hand) (sym b.is.worker)
      (subst (DrainServes count b.was.from.worker) (sym b.is.hand) (record {
        shown = b.was.record_of.worker;
        shows = b.was.has.shows;
        fits = subst (λ (h : Ground). Fits h) (sym (search_at a ix m i b.was.from.worker b.was.has.place))
            (search_fits a ix 1 m outset.filled.searches (omega arith) outset.filled.some);
        roots = outset.all_roots ∙ sym (ap (λ ix. length ix.roots) b.was.has.place.index);
        floor = b.was.has.floor ∙ sym (ap last_of b.was.has.place.question);
        queues = outset.counts i b.is.queues b.is.new ∙ sym b.was.has.place.queues;
      }))

  pub all_ready : All (MayDrain count) cells
  all_ready = all_from (MayDrain count) cells (λ i d at.
      let b = began_at i d at in
      record {
        serves = serves_at i d b;
        filled = ap (λ (w : Working). fills w.phase) b.is.worker ∙ b.was.has.filled;
        running = subst (λ (w : Working). w.phase ≢ Done) (sym b.is.worker) b.was.has.running;
      })

  -- its record has no pops yet
  knows_at : (i : ℕ) (d : Drainer Q) (b : Began i d) → DrainsBy Agrees d.worker d.hand b.was.record_of
  knows_at i d b =
      subst (λ (w : Working). DrainsBy Agrees w d.hand b.was.record_of) (sym b.is.worker)
      (subst (λ (h : DrainKept Q). DrainsBy Agrees b.was.from.worker h b.was.record_of) (sym b.is.hand) (record {
        shows = b.was.has.shows;
        stands = subst (λ (j : ℕ). StandsFor (search_of b.was.from.worker 1) j b.was.record_of) (sym b.was.has.place.number)
            (subst (λ (h : Ground). StandsFor h i b.was.record_of) (sym (search_at a ix m i b.was.from.worker b.was.has.place)) b.was.has.stands);
        tied = record {
          word = subst (λ (k : Kept). PassTied k.seen b.was.record_of.own) (sym b.was.has.rests) b.was.has.tied.word;
          pops = subst (Agrees b.is.queues) (sym b.was.has.tied.pops) (outset.agrees i b.is.queues b.is.new);
        };
      }))

  module _ {Same : Q → Q → Type 0} {later : List (Drainer Q)} (worked : Worked Same Agrees cells later) where
    abbrev On : Drainer Q → Drainer Q → Type 0
    On x y = DrainsOn Same Agrees x.worker x.hand y.worker y.hand

    -- a searcher after the part, with what it was before
    pub record Came (i : ℕ) (e : Drainer Q) : Type 0 where
      pub first : Drainer Q
      pub began : Began i first
      pub goes : On first e
      pub known : DrainsBy Agrees first.worker first.hand began.was.record_of

    pub came_at : (i : ℕ) (e : Drainer Q) → slice_get later i ≡ Some e → Came i e
    came_at i e at =
        let r = by_place On cells later worked.count worked.on i e at in
        let b = began_at i r.from r.at in
        record { first = r.from; began = b; goes = r.on; known = knows_at i r.from b }

    -- what holds of new queues, and stays, holds of each hand's
    pub all_still : (P : Q → Type 0) → ((i : ℕ) (q k : Q) → IsNew i q → Same q k → P k)
        → All (λ (e : Drainer Q). P e.hand.queues) later
    all_still P still = all_from (λ (e : Drainer Q). P e.hand.queues) later (λ i e at.
        let r = came_at i e at in
        still i r.began.is.queues e.hand.queues r.began.is.new
        (subst (λ (h : DrainKept Q). Same h.queues e.hand.queues) r.began.is.hand r.goes.queues))

    pub all_over : (ws : List Working) → ws ≡ map (λ (e : Drainer Q). e.worker) later → AreOver a ix ws
    all_over ws are i w at =
        let e = get_map (λ (e : Drainer Q). e.worker) later i w (ap (λ l. slice_get l i) (sym are) ∙ at) in
        let r = came_at i e.0 e.1 in
        let place = ap (λ (w : Working). w.question) r.began.is.worker in
        let index = ap (λ (w : Working). w.index) r.began.is.worker in
        subst (λ (v : Working). (v.question ≡ a) × (v.index ≡ ix)) e.2
        (r.goes.place.question ∙ place ∙ r.began.was.has.place.question, r.goes.place.index ∙ index ∙ r.began.was.has.place.index)

    pub team_count : length later ≡ length team
    team_count = worked.count ∙ outset.equipped.count

    pub as_many : (ws : List Working) → ws ≡ map (λ (e : Drainer Q). e.worker) later → length team ≡ length ws
    as_many ws are =
        sym (ap (λ (ws : List Working). length ws) are ∙ length-map later (λ (e : Drainer Q). e.worker) ∙ team_count)
