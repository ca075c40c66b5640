use Rattle.series_file.proofs.Outcomes.{labels_explain, values_explain, headed_found, headed_fits, only_ok, only_err}
use Rattle.series_file.proofs.Reaching.{labels_left, values_left}
use Rattle.series_file.proofs.read.read_headed.Goals as goal

pub returns-in-Err-read_labels-clause-refused : goal.returns-in-Err-read_labels-clause-refused
returns-in-Err-read_labels-clause-refused g c =
    labels_explain _ _ _ c.in-Err-read_labels.e c.in-Ok.ensures.came c.in-Err-read_labels.ensures.refused

pub returns-clause-found : goal.returns-clause-found
returns-clause-found g c =
    only_ok c.read_values.result c.read_values.ensures.came (λ loaded valued.
    headed_found _ _ _ _ c.in-Ok.header _ loaded c.in-Ok.ensures.came c.in-Ok-read_labels.ensures.came valued)

pub returns-clause-refused : goal.returns-clause-refused
returns-clause-refused g c =
    only_err c.read_values.result c.read_values.ensures.refused (λ e explained.
    values_explain _ _ _ c.in-Ok.header _ e c.in-Ok.ensures.came c.in-Ok-read_labels.ensures.came explained)

pub returns-clause-fits : goal.returns-clause-fits
returns-clause-fits g c =
    only_ok c.read_values.result c.read_values.ensures.came (λ loaded valued.
    headed_fits _ _ _ _ c.in-Ok.header _ loaded c.in-Ok.ensures.came c.in-Ok-read_labels.ensures.came valued)

pub returns-in-Err-read_labels-clause-left : goal.returns-in-Err-read_labels-clause-left
returns-in-Err-read_labels-clause-left g c =
    labels_left _ _ _ _ c.in-Err-read_labels.e c.in-Ok.ensures.came c.in-Err-read_labels.ensures.left

pub returns-clause-left : goal.returns-clause-left
returns-clause-left g c =
    only_err c.read_values.result c.read_values.ensures.left (λ e left.
    values_left _ _ _ _ c.in-Ok.header _ e c.in-Ok.ensures.came c.in-Ok-read_labels.ensures.came left)
