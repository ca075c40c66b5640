use Rattle.std.proofs.Common.{rules, ◌≡◌, inl, inr, refl, subst}
use Rattle.std.proofs.lemmas.Result.{err_from_is_err_and}
use Rattle.series_file.specs.declared.error.Form.TheVariants.{Raw}
use Rattle.search_run.specs.Loads.{HoldsFile, form_of}
use Rattle.search_run.specs.Traffic.{read_from}
use Rattle.search_run.specs.declared.status.Which.TheVariants.{Queries}
use Rattle.search_run.proofs.Loading.{lent_file_wider}
use Rattle.search_run.proofs.Windowed.{few_alone}
use Rattle.search_run.proofs.commands.windows.read_long.Goals as goal

pub returns-in_err-queries-clause-refused : goal.returns-in_err-queries-clause-refused
returns-in_err-queries-clause-refused g c =
    let whole = read_from g.F.Files c.args.files.now
    c.load-2.new.files in
    let asked = c.args.search.now in
    let first : c.as_str.result.now ≡ asked.series.now = search rules in
    let before = c.in_ok-series.ensures in
    let holds = subst (λ name. HoldsFile whole.held name (Raw 1) c.in_ok-series.series) first before.found in
    let refused = lent_file_wider Queries whole _ c.as_str-2.result.now asked.queries.now c.form_of-form.result
    (form_of asked.options.now.raw) c.in_err-queries.field-0.0 c.in_err-queries.ensures.refused (search rules)
    (search rules) before.kept before.counts.0 before.counts.1 refl refl refl in
    let told = err_from_is_err_and c.from_residual-in_err-queries.result c.from_residual-in_err-queries.ensures.1 in
    rw (told.1, told.2) (inr (c.in_ok-series.series, holds, inl refused))

pub returns-clause-few : goal.returns-clause-few
returns-clause-few g c = few_alone c.in_ok-series.series c.in_ok-series.ensures.found.formed
