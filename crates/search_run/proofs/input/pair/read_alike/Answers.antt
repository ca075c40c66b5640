use Rattle.std.proofs.Common.{rules, ◌≡◌, inl, inr, refl, subst}
use Rattle.std.proofs.lemmas.Result.{err_from_is_err_and}
use Rattle.search_run.specs.Loads.{HoldsFile, form_of}
use Rattle.search_run.specs.Traffic.{read_from}
use Rattle.search_run.specs.declared.status.Which.TheVariants.{Queries}
use Rattle.search_run.proofs.Loading.{lent_file_wider}
use Rattle.search_run.proofs.input.pair.read_alike.Goals as goal

pub returns-in_err-queries-clause-refused : goal.returns-in_err-queries-clause-refused
returns-in_err-queries-clause-refused g c =
    let whole = read_from g.F.Files c.args.files.now
    c.load-2.new.files in
    let asked = c.args.search.now in
    let form = form_of asked.options.now.raw in
    let formed : c.form_of-form.result ≡ form = search rules in
    let first : c.as_str.result.now ≡ asked.series.now = search rules in
    let before = c.in_ok-series.ensures in
    let holds = subst (λ f. HoldsFile whole.held asked.series.now f c.in_ok-series.series) formed
    (subst (λ name. HoldsFile whole.held name c.form_of-form.result c.in_ok-series.series) first before.found) in
    let refused = lent_file_wider Queries whole _ c.as_str-2.result.now asked.queries.now c.form_of-form.result form
    c.in_err-queries.field-0.0 c.in_err-queries.ensures.refused (search rules) formed before.kept before.counts.0
    before.counts.1 refl refl refl in
    let told = err_from_is_err_and c.from_residual-in_err-queries.result c.from_residual-in_err-queries.ensures.1 in
    rw (told.1, told.2) (inr (c.in_ok-series.series, holds, inl refused))

pub returns-in_err-check_lengths-clause-refused : goal.returns-in_err-check_lengths-clause-refused
returns-in_err-check_lengths-clause-refused g c =
    let held = g.F.Files.held c.args.files.now in
    let asked = c.args.search.now in
    let form = form_of asked.options.now.raw in
    let formed : c.form_of-form.result ≡ form = search rules in
    let first : c.as_str.result.now ≡ asked.series.now = search rules in
    let second : c.as_str-2.result.now ≡ asked.queries.now = search rules in
    let x = c.in_ok-series.series in
    let y = c.in_ok-queries.queries in
    let series = subst (λ f. HoldsFile held asked.series.now f x) formed
    (subst (λ name. HoldsFile held name c.form_of-form.result x) first c.in_ok-series.ensures.found) in
    let queries = subst (λ f. HoldsFile held asked.queries.now f y) formed
    (subst (λ name. HoldsFile held name c.form_of-form.result y) second
    (subst (λ h. HoldsFile h c.as_str-2.result.now c.form_of-form.result y) c.in_ok-series.ensures.kept
    c.in_ok-queries.ensures.found)) in
    let told = err_from_is_err_and c.from_residual-in_err-check_lengths.result
    c.from_residual-in_err-check_lengths.ensures.1 in
    rw (told.1, told.2) (inr (x, series, inr (y, queries, inl (search rules))))
