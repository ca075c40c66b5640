use Rattle.std.proofs.Common.{◌≡◌, ◌≤◌, ◌*◌, ◌∙◌, ap, subst, sym, IfOk, arith, length}
use Rattle.std.specs.Borrow.{Bor}
use Rattle.std.proofs.lemmas.List.FromFn.{length-map-range_with_len}
use Rattle.command_words.specs.declared.limits.TheConstants.{MOST_QUERIES}
use Rattle.series_core.specs.Collection.{Collection}
use Rattle.random_walks.specs.Walks.{state_at, walk_number, walks_from}
use Rattle.search_run.specs.Trials.{answers_of, summary_lines, summed, trial_queries, trial_series}
use Rattle.search_run.proofs.Asks.{asked_so}
use Rattle.search_run.proofs.commands.trial.text_of.Goals as goal

pub summary_of-requires-clause-few : goal.summary_of-requires-clause-few
summary_of-requires-clause-few g c κs within =
    let trial = c.args.trial.now in
    let size = length-map-range_with_len (walk_number trial.length c.walks.new.rng) 0 trial.queries in
    let few : length c.in_ok-asked.asked.series ≤ MOST_QUERIES
    = omega (arith, ap (λ (d : Collection). length d.series) c.in_ok-asked.ensures.walks, size, c.requires.trial.queries_limit) in
    subst (λ (q : Bor Collection). length q.now.series ≤ MOST_QUERIES) (sym c.new-batch.ensures.asks.queries_are) few

pub returns : goal.returns
returns g c =
    let trial = c.args.trial.now in
    let k = trial.options.now.k in
    let series : c.in_ok-series.series ≡ trial_series trial.seed trial.count trial.length =
    c.in_ok-series.ensures.walks ∙ ap (λ x. walks_from trial.length x trial.count) c.generator-rng.ensures in
    let asked : c.in_ok-asked.asked ≡ trial_queries trial.seed trial.count trial.length trial.queries =
    c.in_ok-asked.ensures.walks
    ∙ ap (λ x. walks_from trial.length x trial.queries) c.in_ok-series.ensures.moved
    ∙ ap (λ x. walks_from trial.length (state_at x (trial.count * trial.length)) trial.queries) c.generator-rng.ensures in
    let over = asked_so (λ (all : Collection). all) _ _ _ _ (λ rows n queries. c.in_ok-summary.summary ≡ summed (answers_of rows n queries))
    c.new-batch.ensures.asks c.in_ok-summary.ensures in
    let summary = over
    ∙ ap (λ (d : Collection). summed (answers_of d k c.in_ok-asked.asked.series)) series
    ∙ ap (λ (d : Collection). summed (answers_of (trial_series trial.seed trial.count trial.length) k d.series)) asked in
    subst
    (λ s. IfOk c.summary_text.result (λ text. text.items ≡ summary_lines trial.count trial.length trial.queries k s))
    summary c.summary_text.ensures
