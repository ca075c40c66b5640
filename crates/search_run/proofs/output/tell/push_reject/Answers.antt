use Rattle.std.proofs.Common.{◌∙◌, ◌++◌, ap, sym}
use Rattle.std.specs.Prelude.{codes, decimal}
use Rattle.certificate.specs.declared.error.Reject.{Reject}
use Rattle.search_run.specs.Status.{reject_cause}
use Rattle.search_run.proofs.StatusLines.{number_counted_text}
use Rattle.search_run.proofs.output.tell.push_reject.Goals as goal

pub returns-in-Blocks-clause-text : goal.returns-in-Blocks-clause-text
returns-in-Blocks-clause-text c =
    let want = codes " blocks for " ++ decimal c.in-Blocks.want in
    c.push_str.ensures.bytes
    ∙ ap (λ line. line ++ codes " queries") c.push_counted.ensures.text
    ∙ ap (λ line. (line ++ want) ++ codes " queries") c.push_number.ensures.text
    ∙ number_counted_text c.args.line.now.bytes (decimal c.in-Blocks.have) (codes " blocks for ")
    (decimal c.in-Blocks.want) (codes " queries")
    ∙ ap (λ (r : Reject). c.args.line.now.bytes ++ reject_cause r) (sym c.in-Blocks.is)
