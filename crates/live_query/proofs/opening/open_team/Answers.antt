-- The next searcher has the next worker, and the next draws and pass.
use Rattle.std.proofs.Common.{◌≡◌, ℕ, List, [], ◌∷◌, ◌++◌, All, map, sym, ap, ◌∙◌, subst, length-append, arith}
use Rattle.std.proofs.lemmas.List.{map-append}
use Rattle.std.proofs.lemmas.List.Elements.{All-push}
use Rattle.best_word.specs.Passes.{Best, Pass, fresh_pass}
use Rattle.query_core.specs.Working.{Working}
use Rattle.live_query.specs.Holding.{Held}
use Rattle.live_query.specs.Parts.{Between}
use Rattle.live_query.specs.RootClaims.{Drawn}
use Rattle.live_query.proofs.Places.{all_ends}
use Rattle.live_query.proofs.opening.open_team.Goals as goal

pub loop-worker-preserved : goal.loop-worker-preserved
loop-worker-preserved g c =
    let was = c.loop-worker.invariant in
    let long = length-append c.loop-worker.yielded (c.in-Some.worker ∷ []) in
    let word_pass = c.in-Some-pop.word_pass in
    let drawing = c.in-Some-pop-2.drawing in
    let P : Best → ℕ → Pass → Type 0 = λ best floor p. p ≡ fresh_pass best floor in
    let Q : Drawn → Drawn → Type 0 = λ d p. p ≡ d in
    let held : Drawn → Pass → Held = λ d p. record { drawn = d; seen = p } in
    let H : Drawn → Best → ℕ → Between → Type 0 = λ d best floor s. s.hand ≡ held d (fresh_pass best floor) in
    let seen : (best : Best) (floor : ℕ) → All (P best floor) c.args.seen.items → All (P best floor) c.pop.new.self.items × P best floor word_pass
    = λ best floor all. all_ends (P best floor) c.pop.new.self.items word_pass
    (subst (All (P best floor)) c.in-Some-pop.ensures.items (was.fresh best floor all)) in
    let drawn : (d : Drawn) → All (Q d) c.args.drawings.items → All (Q d) c.pop-in-loop-worker.new.self.items × Q d drawing
    = λ d all. all_ends (Q d) c.pop-in-loop-worker.new.self.items drawing
    (subst (All (Q d)) c.in-Some-pop-2.ensures.items (was.undrawn d all)) in
    record {
      can_next = tt;
      is_finite = tt;
      len = omega (arith, c.push_reserved.ensures.len, was.len, long);
      left = omega (arith, was.left, long, c.in-Some-pop.ensures.len);
      behind = omega (arith, was.behind, long, c.in-Some-pop-2.ensures.len);
      room = omega (arith, c.push_reserved.ensures.capacity, was.room);
      workers = ap (map (λ (s : Between). s.worker)) c.push_reserved.ensures.items
          ∙ map-append (λ (s : Between). s.worker) c.loop-worker.team.items _
          ∙ ap (λ (ws : List Working). ws ++ c.in-Some.worker ∷ []) was.workers;
      undrawn = λ d all. (drawn d all).0;
      fresh = λ best floor all. (seen best floor all).0;
      hands = λ d best floor undrawn fresh.
          subst (All (H d best floor)) (sym c.push_reserved.ensures.items)
          (All-push (H d best floor) c.loop-worker.team.items _ (was.hands d best floor undrawn fresh)
          (ap (λ (d : Drawn). held d word_pass) (drawn d undrawn).1 ∙ ap (held d) (seen best floor fresh).1));
    }
