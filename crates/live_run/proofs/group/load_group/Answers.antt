use Rattle.std.proofs.Common.{inl, ap, subst}
use Rattle.std.proofs.lemmas.Result.{err_from_is_err_and}
use Rattle.live_script.specs.declared.script.Group.{Group}
use Rattle.live_script.specs.declared.script.NamedFile.{NamedFile}
use Rattle.live_run.specs.Loads.{RefusesFitting}
use Rattle.live_run.proofs.group.load_group.Goals as goal

pub returns-in_err-batch-clause-refused : goal.returns-in_err-batch-clause-refused
returns-in_err-batch-clause-refused g c whole ends =
    let told = err_from_is_err_and c.from_residual.result c.from_residual.ensures.1 in
    rw (told.1, told.2) (inl (subst (λ (f : NamedFile). RefusesFitting whole c.args.want f c.in_err-batch.field-0.0)
    (ap (λ (x : Group). x.batch) c.group.view_is) (c.in_err-batch.ensures.refused whole ends)))
