use Rattle.std.proofs.Common.{◌≡◌, ◌≤◌, drop}
use Rattle.std.specs.Option.{option_copied}
use Rattle.certificate.specs.Refusals.{first_refusal}
use Rattle.certificate.specs.Verdict.{answer_refusal, wanted}
use Rattle.certificate.proofs.answers.check_answers.Given as goal

abbrev pub invariant-loop-i : goal.invariant-loop-i
invariant-loop-i g l = record {
  rest : first_refusal (answer_refusal (g.R.Rows.collection l.rows) (option_copied l.labels) l.k l.b l.query l.block) 0 l.block.answers
      ≡ first_refusal (answer_refusal (g.R.Rows.collection l.rows) (option_copied l.labels) l.k l.b l.query l.block) l.i
      (drop l.i l.block.answers);
  within : l.i ≤ wanted (g.R.Rows.collection l.rows) l.k;
}
