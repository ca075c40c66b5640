-- One more portion has its word, and the row of its passes.
use Rattle.std.proofs.Common.{◌≡◌, ◌∷◌, ◌++◌, [], List, length, sym, ap, ◌∙◌, subst, arith}
use Rattle.std.specs.Prelude.{replicate}
use Rattle.best_word.specs.Passes.{Best, fresh_pass}
use Rattle.query_core.specs.Portions.{portion_last}
use Rattle.search_task.specs.Questions.{search_over}
use Rattle.search_task.proofs.OfIndex.{search_fits}
use Rattle.query_core.proofs.Portions.{portion_none}
use Rattle.live_query.specs.PortionRows.{AreRows, PassRow}
use Rattle.live_query.proofs.PortionsDealt.{rows_more}
use Rattle.live_query.proofs.portions.begin_limits.Goals as goal

pub begin-requires-clause-floor : goal.begin-requires-clause-floor
begin-requires-clause-floor g c =
    let a = c.args.plan.now in
    portion_none (search_over a.search.question a.search.index 1 a.queues)
    (search_fits a.search.question a.search.index 1 a.queues c.k-k.ensures.searched (omega arith) c.requires.queues.0)
    c.loop-number.number

pub loop-number-preserved : goal.loop-number-preserved
loop-number-preserved g c =
    let was = c.loop-number.invariant in
    let a = c.args.plan.now in
    let search = search_over a.search.question a.search.index 1 a.queues in
    let word : Best = c.in_ok-word.word in
    let row : PassRow = c.in_ok-word.passes in
    let place : length c.loop-number.words.items ≡ c.loop-number.number = omega (arith, was.len, c.loop-number.words.ok.0) in
    let fresh : row.items ≡ replicate c.args.workers (fresh_pass word (portion_last search (length c.loop-number.words.items)))
    = c.in_ok-word.ensures.passes
    ∙ ap (λ n. replicate c.args.workers (fresh_pass word (portion_last search n))) (sym place) in
    record {
      len = omega (arith, c.push_reserved.ensures.len, was.len);
      long = omega (arith, c.push_reserved-in-loop-number.ensures.len, was.long);
      room = omega (arith, c.push_reserved.ensures.capacity, was.room);
      space = omega (arith, c.push_reserved-in-loop-number.ensures.capacity, was.space);
      rows = subst (λ (ws : List Best). AreRows search ws c.args.workers c.push_reserved-in-loop-number.new.self.items)
          (sym c.push_reserved.ensures.items)
          (subst (AreRows search (c.loop-number.words.items ++ word ∷ []) c.args.workers)
          (sym c.push_reserved-in-loop-number.ensures.items)
          (rows_more search c.loop-number.words.items c.args.workers c.loop-number.rows.items word row was.rows fresh));
    }
