-- No more values of a query are seen than it has.
use Rattle.std.proofs.Common.{◌∙◌, take, ap}
use Rattle.search_task.proofs.task.code_view_of.Goals as goal

pub returns : goal.returns
returns g c = c.new.ensures ∙ ap (λ n. take n c.args.query.now) c.coded_length.ensures.value
