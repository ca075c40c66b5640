-- Each is empty.
use Rattle.std.proofs.Common.{rules, []}
use Rattle.sealed_runs.proofs.Alike.{made_alike}
use Rattle.sealed_runs.proofs.sealing.empty_rows.Goals as goal

pub returns : goal.returns
returns c =
    let made = made_alike _ [] c.args.queues _ c.collect.ensures.ran c.map.ensures.source c.map.ensures.closure
    (λ x r q k. search rules) in
    rw c.in_ok-collect.was at made
