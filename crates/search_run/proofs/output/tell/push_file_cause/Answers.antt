use Rattle.std.proofs.Common.{◌∙◌, ◌++◌, ap, sym}
use Rattle.std.specs.Prelude.{codes, decimal}
use Rattle.series_file.specs.declared.error.FileError.{FileError}
use Rattle.search_run.specs.Status.{file_cause}
use Rattle.search_run.proofs.StatusLines.{two_counted}
use Rattle.search_run.proofs.output.tell.push_file_cause.Goals as goal

pub returns-in-Truncated-clause-text : goal.returns-in-Truncated-clause-text
returns-in-Truncated-clause-text c =
    c.push_counted-in-Truncated-2.ensures.text
    ∙ ap (λ line. line ++ (codes " of " ++ decimal c.in-Truncated.want)) c.push_counted-in-Truncated.ensures.text
    ∙ two_counted c.args.line.now.bytes (codes "ends at byte ") (decimal c.in-Truncated.at) (codes " of ") (decimal c.in-Truncated.want)
    ∙ ap (λ (e : FileError). c.args.line.now.bytes ++ file_cause e) (sym c.in-Truncated.is)

pub returns-in-Trailing-clause-text : goal.returns-in-Trailing-clause-text
returns-in-Trailing-clause-text c =
    c.push_counted-in-Trailing.ensures.text ∙ ap (λ (e : FileError). c.args.line.now.bytes ++ file_cause e) (sym c.in-Trailing.is)
