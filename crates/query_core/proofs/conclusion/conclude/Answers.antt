use Rattle.std.proofs.Common.{ℕ, List, Option, ap, length, ◌∙◌, ◌≡◌}
use Rattle.std.specs.Prelude.{map}
use Rattle.series_core.specs.Pairs.{smallest}
use Rattle.series_core.specs.declared.pair.Pair.{Pair}
use Rattle.search_machine.specs.declared.outcome.Fate.{Fate}
use Rattle.search_machine.specs.declared.outcome.Outcome.{Outcome}
use Rattle.search_machine.specs.declared.outcome.QueueLine.{QueueLine}
use Rattle.search_machine.specs.declared.outcome.Start.{Start}
use Rattle.search_machine.specs.Outcome.{all_pairs, fates_from, line_of}
use Rattle.search_machine.specs.Basics.{start_of}
use Rattle.query_core.specs.Fates.{leaf_of}
use Rattle.search_task.specs.Questions.{search_over}
use Rattle.query_core.specs.Teams.{all_lists}
use Rattle.query_core.proofs.ListsMerged.{lists_shown}
use Rattle.query_core.proofs.TeamEnds.{leaf_of_start}
use Rattle.search_task.proofs.Openings.{start_same}
use Rattle.query_core.proofs.conclusion.conclude.Goals as goal

pub fates-requires-clause-ended : goal.fates-requires-clause-ended
fates-requires-clause-ended g c = record {
  searches = c.k-k.ensures.searched;
  start_is = ap leaf_of c.requires.start ∙ leaf_of_start (search_over c.args.search.now.question c.args.search.now.index 1 1);
  over = c.requires.over;
  few = c.requires.workers;
}

pub returns : goal.returns
returns g c =
    λ n m s ends.
    let parts : List Pair → Option Start → List QueueLine → List Fate → Outcome =
    λ a b d e. record { pairs = a; start = b; lines = d; fates = e } in
    let pairs : c.in_ok-pairs.pairs ≡ smallest c.args.search.now.question.k (all_pairs s.workers) =
    c.in_ok-pairs.ensures ∙ ap (λ (n : ℕ). smallest n (all_lists c.args.workers.now)) c.k-k.ensures.k
    ∙ ap (smallest c.args.search.now.question.k)
    (lists_shown c.args.workers.now s.workers ends.workers.count
    (λ i w x a b. (ends.workers.shows i w x a b).list)) in
    let begins : c.args.start ≡ start_of (search_over c.args.search.now.question c.args.search.now.index n m) =
    c.requires.start ∙ start_same c.args.search.now.question c.args.search.now.index 1 1 n m in
    let fates = c.in_ok-fates.ensures n m s (record {
      workers = ends.workers;
      lines = c.deref.ensures.value ∙ c.lines.view_is ∙ ends.lines;
    }) in
    let e : parts c.in_ok-pairs.pairs c.args.start c.args.lines c.in_ok-fates.fates
    ≡ parts (smallest c.args.search.now.question.k (all_pairs s.workers)) (start_of (search_over c.args.search.now.question c.args.search.now.index n m))
    (map line_of s.queues)
    (fates_from (search_over c.args.search.now.question c.args.search.now.index n m) s 0 (length c.args.search.now.index.leaves)) = cc in
    e
