use Rattle.std.proofs.Common.{◌∙◌}
use Rattle.leaf_queues.proofs.Lines.{cut_at_bucket}
use Rattle.leaf_queues.proofs.line.first_end.Goals as goal

pub returns-else-bucket-clause-cut : goal.returns-else-bucket-clause-cut
returns-else-bucket-clause-cut c =
    cut_at_bucket c.args.buckets.now c.loop-end.end c.bucket-bucket.result c.args.entries.now
    _ c.requires.dealt c.loop-end.invariant.same c.loop-end-test.true
    (λ e. c.if-bucket.false (c.bucket.ensures ∙ e))
