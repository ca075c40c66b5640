use Rattle.std.proofs.Common.{ℕ, List, ◌++◌, ap, subst, ◌∙◌}
use Rattle.series_core.specs.Answer.{answer}
use Rattle.series_core.specs.declared.pair.Pair.{Pair}
use Rattle.search_machine.specs.Legal.{Legal}
use Rattle.search_task.specs.Questions.{IsQuestion, search_over}
use Rattle.search_run.specs.Finding.{asked_of}
use Rattle.search_run.specs.Texts.{query_text}
use Rattle.search_run.specs.declared.finding.Asking.{Asking}
use Rattle.search_run.proofs.Nearests.{asked_by, by_options}
use Rattle.search_run.proofs.commands.nearest.certified_piece.Goals as goal

pub returns : goal.returns
returns g c =
    let base = c.args.base.now in
    let o = c.args.options.now in
    let q = c.args.query.now in
    let found = c.requires.team.right _ _ _ _ _ c.in_ok-outcome.ensures in
    let asked = c.asking_of.ensures.asking in
    let question = subst (λ (a : Asking). IsQuestion (asked_of base.series.rows q a.k base.tree)) asked found.question in
    let legal = subst
    (λ (a : Asking). Legal (search_over (asked_of base.series.rows q a.k base.tree) base.tree.index a.workers a.queues)
    c.in_ok-outcome.outcome) asked found.legal in
    let pairs = found.answers ∙ ap (λ (a : Asking). answer base.series.rows q a.k) asked in
    let lines : List ℕ = c.in_ok-lines.lines.items in (
      lines,
      by_options o base c.requires.base q lines
          (c.in_ok-lines.ensures.certificate (asked_by base o base.tree.settings q) base.tree.settings.leaf_size o.workers
          o.queues question c.requires.base.built legal found.straight),
      c.in_ok-extend_from_slice.ensures.items
          ∙ ap (λ (t : List ℕ). c.in_ok-text.text.items ++ t) c.deref.ensures.value
          ∙ ap (λ (t : List ℕ). t ++ lines)
          (c.in_ok-text.ensures ∙ ap (λ (ps : List Pair). query_text base.series.labels c.args.i ps) pairs),
    )
