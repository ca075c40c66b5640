use Rattle.std.proofs.Common.{List, ◌++◌, ap, ◌∙◌}
use Rattle.search_machine.specs.declared.outcome.QueueLine.{QueueLine}
use Rattle.certificate.specs.Spelling.{queue_line}
use Rattle.certificate.proofs.PrintedText.{queues_step}
use Rattle.certificate.proofs.printing.push_queues.Goals as goal

pub loop-m-preserved : goal.loop-m-preserved
loop-m-preserved c =
    let lines : List QueueLine = c.args.lines.now in
    let line : QueueLine = c.index-lines-m.result in
    queues_step c.args.text.now.items c.loop-m.text.items c.push_queue.new.text.items lines c.loop-m.m line
    c.loop-m-test.true c.loop-m.invariant
    (c.in_ok-push_queue.ensures
    ∙ ap (λ (x : QueueLine). c.loop-m.text.items ++ queue_line c.loop-m.m x.taken)
    c.index-lines-m.is)
