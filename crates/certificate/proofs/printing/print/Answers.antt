use Rattle.std.proofs.Common.{List, ◌++◌, ap, ◌∙◌}
use Rattle.std.specs.List.{concat}
use Rattle.search_machine.specs.declared.outcome.Fate.{Fate}
use Rattle.search_machine.specs.declared.outcome.Outcome.{Outcome}
use Rattle.search_machine.specs.declared.outcome.QueueLine.{QueueLine}
use Rattle.certificate.specs.Printed.{entries_taken, leaves_said, outcome_said}
use Rattle.certificate.specs.Spelling.{start_line, queue_lines, leaf_lines}
use Rattle.certificate.proofs.Certified.{outcome_certifies}
use Rattle.certificate.proofs.PrintedText.{whole_text}
use Rattle.certificate.proofs.printing.print.Goals as goal

pub returns-clause-text : goal.returns-clause-text
returns-clause-text c =
    whole_text (start_line c.args.outcome.now.start) (queue_lines 0 (entries_taken c.args.outcome.now.lines))
    (leaf_lines 0 (leaves_said c.args.index.now.leaves c.args.outcome.now.fates))
    c.new-text.result.items c.push_start.new.text.items c.push_queues.new.text.items c.push_leaves.new.text.items
    c.new-text.ensures.items
    (c.in_ok-push_start.ensures
    ∙ ap (λ (o : Outcome). c.new-text.result.items ++ start_line o.start) c.outcome.view_is)
    (c.in_ok-push_queues.ensures
    ∙ ap (λ (ls : List QueueLine). c.push_start.new.text.items ++ concat (queue_lines 0 (entries_taken ls)))
    (c.deref.ensures.value ∙ ap (λ (o : Outcome). o.lines) c.outcome.view_is))
    (c.in_ok-push_leaves.ensures
    ∙ ap (λ (fs : List Fate). c.push_queues.new.text.items
    ++ concat (leaf_lines 0 (leaves_said c.args.index.now.leaves fs)))
    (c.deref-2.ensures.value ∙ ap (λ (o : Outcome). o.fates) c.outcome.view_is))

pub returns-clause-certificate : goal.returns-clause-certificate
returns-clause-certificate c a leaf_size workers queues question tree legal straight = (
  outcome_said c.args.index.now c.args.outcome.now,
  outcome_certifies a leaf_size workers queues c.args.index.now c.args.outcome.now question c.leaf_count-leaves.ensures.is_index
      tree legal straight,
  returns-clause-text c,
)
