use Rattle.std.proofs.Common.{◌≡◌, drop}
use Rattle.std.specs.Option.{option_copied}
use Rattle.certificate.specs.Refusals.{first_refusal}
use Rattle.certificate.specs.Verdict.{query_refusal, verdict}
use Rattle.certificate.proofs.checking.check.Given as goal

abbrev pub invariant-loop-b : goal.invariant-loop-b
invariant-loop-b g l =
    verdict (g.R.Rows.collection l.rows) (option_copied l.labels) (g.Q.Rows.collection l.queries) l.k l.layout l.blocks
    ≡ first_refusal
    (query_refusal (g.R.Rows.collection l.rows) (option_copied l.labels) (g.Q.Rows.collection l.queries) l.k l.layout)
    l.b (drop l.b l.blocks)
