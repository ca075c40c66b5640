use Rattle.std.proofs.Common.{◌∙◌, ◌++◌, ap, sym, append_assoc}
use Rattle.std.specs.Prelude.{codes, decimal}
use Rattle.saved_index.specs.declared.error.IndexFault.{IndexFault}
use Rattle.search_run.specs.Status.{index_cause}
use Rattle.search_run.proofs.output.tell.push_index_cause.Goals as goal

pub returns-in-Unfit-clause-text : goal.returns-in-Unfit-clause-text
returns-in-Unfit-clause-text c =
    c.push_str-in-Unfit.ensures.bytes
    ∙ ap (λ line. line ++ codes " does not fit") c.push_counted.ensures.text
    ∙ append_assoc c.args.line.now.bytes (codes "series " ++ decimal c.from.result) (codes " does not fit")
    ∙ ap (λ n. c.args.line.now.bytes ++ ((codes "series " ++ decimal n) ++ codes " does not fit")) c.from.ensures
    ∙ ap (λ (f : IndexFault). c.args.line.now.bytes ++ index_cause f) (sym c.in-Unfit.is)
