use Rattle.std.proofs.Common.{rules, ℕ, ◌≡◌, ◌<◌, ◌≤◌, length, subst, sym, inl, inr, ⊎_elim}
use Rattle.std.proofs.lemmas.Bool.{cases_lt}
use Rattle.std.proofs.lemmas.Result.{err_from_is_err_and}
use Rattle.std.specs.Global.{Vec}
use Rattle.search_run.specs.Commands.{file_plan, file_rest}
use Rattle.search_run.specs.Loads.{HoldsFile, form_of}
use Rattle.search_run.specs.Plans.{Refuses, Writes}
use Rattle.search_run.specs.Traffic.{read_from}
use Rattle.search_run.specs.declared.status.Status.{Status}
use Rattle.search_run.specs.declared.status.Status.TheVariants.{Memory}
use Rattle.search_run.proofs.Served.{refused_serves}
use Rattle.search_run.proofs.Writing.{false_is_not_true}
use Rattle.search_run.proofs.commands.one_file.FileText.answer.Goals as goal

pub returns-in_err-text : goal.returns-in_err-text
returns-in_err-text g c =
    let reading = read_from g.F.Files c.args.files.now
    c.load.new.files in
    let x = c.in_ok-loaded.loaded in
    let o = c.args.options.now in
    let plan = file_plan c.args.self c.args.series.now o in
    let holds : HoldsFile reading.held c.args.series.now (form_of o.raw) x = search rules in
    let status : Status = c.in_err-text.field-0.0 in
    refused_serves (Vec ℕ) g.F.Files g.S.Sink plan _ _ _ status c.from_residual-in_err-text.result
    c.from_residual-in_err-text.ensures.1
    (⊎_elim (λ (memory : status ≡ Memory). subst (Refuses reading plan) (sym memory) (inl tt))
    (λ (rest : Refuses reading (file_rest c.args.self o x) status). inr (x, holds, rest))
    (c.in_err-text.ensures.refused reading)) c.in_ok-loaded.ensures.kept (λ sound. c.in_err-text.ensures.reads_nothing)

pub returns-in_err-write_whole : goal.returns-in_err-write_whole
returns-in_err-write_whole g c =
    let x = c.in_ok-loaded.loaded in
    let o = c.args.options.now in
    let files = g.F.Files.held c.args.files.now in
    let bytes = c.deref.result.now in
    let wrote = c.in_err-write_whole.ensures in
    let holds : HoldsFile files c.args.series.now (form_of o.raw) x = search rules in
    let same : bytes ≡ c.in_ok-text.text.items = search rules in
    let is = subst (Writes files (file_rest c.args.self o x)) (sym same) (c.in_ok-text.ensures.right files) in
    let short = ⊎_elim (λ (less : g.S.Sink.sure c.args.out.now < length bytes). less)
    (λ (enough : length bytes ≤ g.S.Sink.sure c.args.out.now). absurd (false_is_not_true (wrote.sure enough).0))
    (cases_lt (g.S.Sink.sure c.args.out.now) (length bytes)) in
    let told = err_from_is_err_and c.from_residual-in_err-write_whole.result
    c.from_residual-in_err-write_whole.ensures.1 in
    record {
      answers = rw (told.1, told.2) (bytes, (x, holds, is), wrote.prefix, wrote.failed, short);
      kept = c.in_ok-loaded.ensures.kept;
      reliable = λ sound w reads. search rules;
    }
