use Rattle.std.proofs.Common.{refl}
use Rattle.std.proofs.lemmas.Result.{err_from_is_err_and}
use Rattle.search_run.specs.declared.commands.search.SearchBase.{SearchBase}
use Rattle.search_run.proofs.Searching.{is_search_base, search_done, search_refused, search_stopped}
use Rattle.search_run.proofs.Stopped.{stop_reads_nothing}
use Rattle.search_run.proofs.commands.search.answer_search.Goals as goal

pub returns-in_err-both-clause-answers : goal.returns-in_err-both-clause-answers
returns-in_err-both-clause-answers g c =
    let told = err_from_is_err_and c.from_residual.result c.from_residual.ensures.1 in
    rw (told.1, told.2) (search_refused _ _ _ _ _ _ c.in_err-both.field-0.0 c.in_err-both.ensures.refused refl)

pub returns-in_err-write_pieces-clause-answers : goal.returns-in_err-write_pieces-clause-answers
returns-in_err-write_pieces-clause-answers g c =
    let base : SearchBase = record { series = c.in_ok-both.both.series; tree = c.in_ok-tree.tree } in
    let made = c.in_ok-tree.ensures in
    let over = is_search_base c.args.search.now.options.now base made.fits made.built made.settings made.index made.cuts in
    let told = err_from_is_err_and c.from_residual-in_err-write_pieces.result
    c.from_residual-in_err-write_pieces.ensures.1 in
    rw (told.1, told.2)
    (search_stopped _ _ _ _ _ _ base over c.in_ok-both.both.queries c.in_ok-both.ensures.found
    c.in_err-write_pieces.field-0.0 c.in_err-write_pieces.ensures.stops)

pub returns-clause-answers : goal.returns-clause-answers
returns-clause-answers g c =
    let base : SearchBase = record { series = c.in_ok-both.both.series; tree = c.in_ok-tree.tree } in
    let made = c.in_ok-tree.ensures in
    let over = is_search_base c.args.search.now.options.now base made.fits made.built made.settings made.index made.cuts in
    let wrote = c.in_ok-write_pieces.ensures.ok in
    search_done _ _ _ _ _ _ base over c.in_ok-both.both.queries c.in_ok-both.ensures.found wrote.0 wrote.1 wrote.2

pub returns-in_err-write_pieces-clause-reliable : goal.returns-in_err-write_pieces-clause-reliable
returns-in_err-write_pieces-clause-reliable g c reliable w =
    stop_reads_nothing _ _ _ c.from_residual-in_err-write_pieces.result c.in_err-write_pieces.field-0.0 w
    c.in_err-write_pieces.ensures.stops c.from_residual-in_err-write_pieces.ensures.1
