-- Workers and lines that end as a straight closed search does: the search has a legal and straight outcome (`ends_as`).
use Rattle.std.proofs.Common.{◌≡◌, ℕ, List, Some, length, map, sym, ap, ◌∙◌, subst}
use Rattle.std.specs.Prelude.{slice_get}
use Rattle.std.proofs.lemmas.List.{length-map}
use Rattle.std.proofs.lemmas.Option.{same_Some}
use Rattle.leaf_queues.specs.PlainQueue.{PlainQueue}
use Rattle.search_machine.specs.declared.outcome.QueueLine.{QueueLine}
use Rattle.search_machine.specs.Closes.{ClosesStraight, final}
use Rattle.search_machine.specs.Ground.{Fits, Ground}
use Rattle.search_machine.specs.Outcome.{line_of}
use Rattle.search_machine.specs.OwnRecord.{RecordedWorker}
use Rattle.search_machine.proofs.Closing.{closed_legal}
use Rattle.search_machine.proofs.ClosedStraight.{closed_straight}
use Rattle.search_machine.proofs.Places.{get_map}
use Rattle.query_core.specs.Working.{Shows, Working}
use Rattle.live_query.specs.Parts.{EndsRight}
use Rattle.live_query.proofs.Places.{map_at}

-- the workers are those of the searchers, each of which shows the worker of its record
pub ends_as : {X : Type 0} (g : Ground) (fits : Fits g) (ys : List RecordedWorker) (qs : List PlainQueue) → ClosesStraight g ys qs
    → (worker_of : X → Working) (cells : List X) → length ys ≡ length cells
    → ((i : ℕ) (y : RecordedWorker) → slice_get ys i ≡ Some y
    → (c : X) × (slice_get cells i ≡ Some c) × Shows (worker_of c) y.worker)
    → (ws : List Working) (ls : List QueueLine) → ws ≡ map worker_of cells → ls ≡ map line_of qs → EndsRight g ws ls
ends_as g fits ys qs c worker_of cells count each ws ls ws_are ls_are = record {
  state = final g ys qs;
  ends = record {
    workers = record {
      count = ap (λ (l : List Working). length l) ws_are ∙ length-map cells worker_of ∙ sym count
          ∙ sym (length-map ys (λ (x : RecordedWorker). x.worker));
      shows = λ i w v at_w at_v.
          let y = get_map (λ (x : RecordedWorker). x.worker) ys i v at_v in
          let e = each i y.0 y.1 in
          let there = sym (map_at worker_of cells i e.0 e.1) ∙ ap (λ (l : List Working). slice_get l i) (sym ws_are) ∙ at_w in
          subst (Shows w) y.2 (subst (λ (w : Working). Shows w y.0.worker) (same_Some (worker_of e.0) w there) e.2);
    };
    lines = ls_are;
  };
  legal = closed_legal g fits ys qs c.closes;
  straight = closed_straight g fits ys qs c.closes c.placed c.order;
}
