-- A turn of a team's worker: its call on what is shared and its reply make the machine's turn.
use Rattle.std.proofs.Common.{List, Some, ap, arith, get_or, length, refl, set, subst, sym, ℕ, ⊎_elim, ◌∙◌, ◌<◌, ◌≡◌, ◌≢◌}
use Rattle.std.proofs.lemmas.Bool.{cases_eq}
use Rattle.std.proofs.lemmas.List.{length-map}
use Rattle.std.proofs.lemmas.Option.{slice_get_read, slice_get_within}
use Rattle.std.proofs.Math.ListN.{length-set}
use Rattle.std.specs.Prelude.{slice_get}
use Rattle.leaf_queues.specs.PlainQueue.{PlainQueue}
use Rattle.subtree_build.specs.Index.{IndexParts}
use Rattle.subtree_build.specs.Outline.{leaf_numbers}
use Rattle.search_machine.specs.declared.phase.Phase.TheVariants.{Done}
use Rattle.search_machine.specs.declared.calls.Reply.{Reply}
use Rattle.search_machine.specs.Calls.{call_of}
use Rattle.search_machine.specs.Ground.{Ground, last}
use Rattle.search_machine.specs.Machine.{State, answered, shared, state_of, turn, turn_by_phase, turn_of}
use Rattle.search_machine.specs.Workers.{Worker}
use Rattle.search_machine.specs.Shared.{Did, Held, held_after}
use Rattle.search_machine.specs.OwnRecord.{RecordedWorker, nothing_yet}
use Rattle.search_machine.specs.Basics.{start_of}
use Rattle.search_task.specs.Questions.{Question, last_of, search_over}
use Rattle.search_machine.specs.Replies.{after}
use Rattle.query_core.specs.Teams.{IsTeam, StandsAt, TeamParts, searched}
use Rattle.query_core.specs.Turning.{Turns}
use Rattle.query_core.specs.Working.{IsOf, Shows, Working}
use Rattle.search_machine.proofs.Rows.{running_turn}
use Rattle.search_task.proofs.OfIndex.{last_is}
use Rattle.search_machine.proofs.Places.{get_set, get_set_other, get_set_same, get_some}

-- what is held is the same where its parts are
same_held : (h k : Held) → h.floor ≡ k.floor → h.roots ≡ k.roots → h.claimed ≡ k.claimed → h.word ≡ k.word
    → h.queues ≡ k.queues → h ≡ k
same_held h k floor roots claimed word lines =
    let parts : ℕ → ℕ → ℕ → ℕ → List PlainQueue → Held =
    λ a b c d e. record { floor = a; roots = b; claimed = c; word = d; queues = e } in
    let e : parts h.floor h.roots h.claimed h.word h.queues
    ≡ parts k.floor k.roots k.claimed k.word k.queues = cc in
    e

-- what is said of a worker's own question, index, queues and number is said of its place
placed : (P : Question → IndexParts → ℕ → ℕ → Type 0) (a : Question) (ix : IndexParts) (m i : ℕ) (w : Working)
    → IsOf a ix m i w → P w.question w.index w.queues w.number → P a ix m i
placed P a ix m i w of p =
    subst (λ (x : Question). P x ix m i) of.question
    (subst (λ (x : IndexParts). P w.question x m i) of.index
    (subst (λ (x : ℕ). P w.question w.index x i) of.queues
    (subst (λ (x : ℕ). P w.question w.index w.queues x) of.number p)))

-- the worker that a team, seen as another one, lends at a place
pub lent : (t old : TeamParts) (i : ℕ) (w : Working) → t ≡ old → i < length old.workers → w ≡ get_or t.workers i w
    → slice_get t.workers i ≡ Some w
lent t old i w same inside is =
    slice_get_read t.workers _ i w refl (subst (λ (o : TeamParts). i < length o.workers) (sym same) inside) is

-- where there is a worker of the team, there is one of the state
module _ (t : TeamParts) (team : IsTeam t) (i : ℕ) (w : Working)
    (at : slice_get t.workers i ≡ Some w) where
  -- what is shared has the floor of the worker's question, and as many root children as its index
  pub floor_there : t.hand.floor ≡ last_of w.question
  floor_there = team.floor ∙ ap last_of (sym (team.places i w at).question)

  pub roots_there : t.hand.roots ≡ length w.index.roots
  roots_there = team.roots ∙ ap (λ (ix : IndexParts). length ix.roots) (sym (team.places i w at).index)

  -- the state's worker at the place
  shown : (s : State) → StandsAt t s → (m : Worker) × (slice_get s.workers i ≡ Some m)
  shown s stands =
      let low = slice_get_within t.workers i w at in
      let count = stands.count in
      get_some s.workers i (omega arith)

  -- a turn of a worker that is done changes nothing
  pub done_stands : w.phase ≡ Done → (s : State) → StandsAt t s → StandsAt t (turn (searched t) i s)
  done_stands done s stands =
      let m = shown s stands in
      let phase : m.0.phase ≡ Done = (stands.shows i w m.0 at m.1).phase ∙ done in
      let same : turn (searched t) i s ≡ s = ap (turn_of (searched t) i s) m.1
      ∙ ap (turn_by_phase (searched t) i s m.0) phase in
      subst (StandsAt t) (sym same) stands

  -- the team after a turn of worker i
  abbrev turned : Held → Working → TeamParts
  turned hand v = record t { hand = hand; workers = set t.workers i v }

  -- it stands for the state after the machine's turn
  pub turn_stands : (hand : Held) (v : Working) → w.phase ≢ Done → Turns Did t.hand hand w v
      → (s : State) → StandsAt t s → StandsAt (turned hand v) (turn (searched t) i s)
  turn_stands hand v running turns s stands =
      subst (StandsAt (turned hand v)) (sym whole) after_turn
    where
      g : Ground
      g = searched t

      m : (m : Worker) × (slice_get s.workers i ≡ Some m)
      m = shown s stands

      x : RecordedWorker
      x = record { worker = m.0; own = nothing_yet }

      of : IsOf t.question t.index t.queues i w
      of = team.places i w at

      shows : Shows w x.worker
      shows = stands.shows i w m.0 at m.1

      -- the worker went by the reply itself
      exact : turns.1 ≡ turns.0
      exact = turns.2.exact (team.alone i w at)

      did : held_after t.hand (call_of g i x.worker) ≡ (hand, turns.0)
      did = placed (λ a ix q n. held_after t.hand
          (call_of (search_over a ix (length t.workers) q) n x.worker) ≡ (hand, turns.0))
          t.question t.index t.queues i w of (turns.2.called (length t.workers) x shows)

      becomes : Shows v (after g i x turns.0).worker
      becomes = placed (λ a ix q n. Shows v
          (after (search_over a ix (length t.workers) q) n x turns.0).worker)
          t.question t.index t.queues i w of
          (subst (λ (reply : Reply). Shows v (after (search_over w.question w.index (length t.workers) w.queues) w.number x reply).worker)
          exact (turns.2.next (length t.workers) x shows))

      runs : x.worker.phase ≢ Done
      runs e = running (sym shows.phase ∙ e)

      roots : t.hand.roots ≡ length g.roots
      roots = team.roots ∙ sym team.searches.index.one_node_each ∙ sym (length-map t.index.nodes leaf_numbers)

      floor : t.hand.floor ≡ last g
      floor = team.floor ∙ sym (last_is t.question t.index (length t.workers) t.queues team.searches.question)

      holds : shared g s ≡ t.hand
      holds = same_held (shared g s) t.hand (sym floor) (sym roots) (sym stands.claimed) (sym stands.word)
          (sym stands.lines)

      next : State
      next = state_of hand (set s.workers i (after g i x turns.0).worker)

      whole : turn g i s ≡ next
      whole = ap (turn_of g i s) m.1 ∙ running_turn g i s x.worker x.worker.phase runs
          ∙ ap (λ (h : Held). answered g i s x.worker x.worker.phase
          (held_after h (call_of g i x.worker))) holds
          ∙ ap (answered g i s x.worker x.worker.phase) did

      after_turn : StandsAt (turned hand v) next
      after_turn = record {
        word = refl;
        claimed = refl;
        lines = refl;
        count = simp length-set stands.count;
        shows = λ j a b e d. ⊎_elim
            (λ (same : j ≡ i).
            let va : v ≡ a = get_set_same t.workers i a v
            (subst (λ (n : ℕ). slice_get (set t.workers i v) n ≡ Some a) same e) in
            let yb : (after g i x turns.0).worker ≡ b =
            get_set_same s.workers i b (after g i x turns.0).worker
            (subst (λ (n : ℕ). slice_get (set s.workers i (after g i x turns.0).worker) n ≡ Some b) same d) in
            subst (λ (z : Working). Shows z b) va
            (subst (λ (z : Worker). Shows v z) yb becomes))
            (λ (other : j ≡ i → ⊥).
            stands.shows j a b (sym (get_set_other t.workers i j v other) ∙ e)
            (sym (get_set_other s.workers i j (after g i x turns.0).worker other) ∙ d))
            (cases_eq j i);
      }

  -- it is still a team
  pub turn_keeps : (hand : Held) (v : Working) → IsOf w.question w.index w.queues w.number v → v.shares ≡ w.shares
      → (hand.floor ≡ t.hand.floor) × (hand.roots ≡ t.hand.roots) → IsTeam (turned hand v)
  turn_keeps hand v own still same = record {
    searches = team.searches;
    some_worker = let n = length-set t.workers i v in let b = team.some_worker in omega arith;
    few_workers = let n = length-set t.workers i v in let b = team.few_workers in omega arith;
    some_queue = team.some_queue;
    begins = subst (λ (n : ℕ). t.start ≡ start_of (search_over t.question t.index n t.queues))
        (sym (length-set t.workers i v)) team.begins;
    floor = same.0 ∙ team.floor;
    roots = same.1 ∙ team.roots;
    places = λ j a e. ⊎_elim
        (λ (h : (j ≡ i) × (v ≡ a)).
        subst (IsOf t.question t.index t.queues j) h.1
        (subst (λ (n : ℕ). IsOf t.question t.index t.queues n v) (sym h.0) of))
        (λ (h : slice_get t.workers j ≡ Some a). team.places j a h)
        (get_set t.workers i j a v e);
    alone = λ j a e. ⊎_elim
        (λ (h : (j ≡ i) × (v ≡ a)). ap (λ (z : Working). z.shares) (sym h.1) ∙ still ∙ team.alone i w at)
        (λ (h : slice_get t.workers j ≡ Some a). team.alone j a h)
        (get_set t.workers i j a v e);
  }
    where
      of : IsOf t.question t.index t.queues i v
      of = placed (λ a ix q n. IsOf a ix q n v) t.question t.index t.queues i w (team.places i w at) own
