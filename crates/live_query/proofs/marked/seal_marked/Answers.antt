-- The runs of the entries that were put are those of the marked leaves.
use Rattle.std.proofs.lemmas.Result.{IfOk-weaker}
use Rattle.live_query.proofs.Marks.{marked_differ, run_of_marked}
use Rattle.live_query.proofs.marked.seal_marked.Goals as goal

pub seal-requires-clause-leaves : goal.seal-requires-clause-leaves
seal-requires-clause-leaves g c = marked_differ _ _ _ _ _ c.in_ok-entries.ensures

pub returns-clause-runs : goal.returns-clause-runs
returns-clause-runs g c =
    IfOk-weaker c.seal.result _ _ (λ r are m low.
    run_of_marked _ _ _ c.args.plan.now.queues m _ _ c.in_ok-entries.ensures (are m low)) c.seal.ensures.runs
