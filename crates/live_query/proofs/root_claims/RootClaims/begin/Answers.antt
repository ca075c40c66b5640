-- There is a fresh drawing for each worker.
use Rattle.std.proofs.Common.{ap, map, ◌∙◌}
use Rattle.sealed_runs.proofs.Columns.{map_replicate}
use Rattle.claim_word.specs.Passes.{fresh_pass}
use Rattle.live_query.specs.RootClaims.{fresh_drawn}
use Rattle.live_query.proofs.root_claims.RootClaims.begin.Goals as goal

pub returns-clause-drawings : goal.returns-clause-drawings
returns-clause-drawings c =
    c.in_ok-drawings.ensures ∙ ap (map fresh_drawn) c.in_ok-groups.ensures.passes
    ∙ map_replicate fresh_drawn c.args.workers (fresh_pass c.in_ok-groups.groups)
