use Rattle.std.proofs.Common.{rules, ◌∙◌, inl, inr, refl}
use Rattle.search_run.specs.Certificates.{IsFault, subject_of}
use Rattle.search_run.specs.Commands.{verify_plan, verify_rest}
use Rattle.search_run.proofs.Both.{files_refused}
use Rattle.search_run.proofs.Loading.{lent_certificate_wider}
use Rattle.search_run.proofs.Served.{refused_serves}
use Rattle.search_run.specs.declared.input.pair.Both.{Both}
use Rattle.search_run.proofs.commands.verify.answer_verify.Goals as goal

pub returns-in_err-both : goal.returns-in_err-both
returns-in_err-both g c =
    let certificate = c.args.certificate.now in
    let asked = c.args.search.now in
    let o = asked.options.now in
    let refused = c.in_err-both.ensures in
    refused_serves Both g.F.Files g.S.Sink (verify_plan asked.series.now asked.queries.now certificate o) _ _ _
    c.in_err-both.field-0.0 c.from_residual.result c.from_residual.ensures.1
    (files_refused _ asked.series.now asked.queries.now o (verify_rest certificate o) c.in_err-both.field-0.0
    refused.refused) refused.kept (λ sound. (refused.reliable sound).0)

pub returns-in_err-check_certificate : goal.returns-in_err-check_certificate
returns-in_err-check_certificate g c =
    let certificate = c.args.certificate.now in
    let asked = c.args.search.now in
    let both = c.in_ok-both.both in
    let before = c.in_ok-both.ensures in
    let found = before.found in
    let faulty = IsFault (subject_of both.series both.queries asked.options.now) in
    let refused = lent_certificate_wider _ _ faulty c.as_str-name.result.now certificate c.in_err-check_certificate.field-0.0
    c.in_err-check_certificate.ensures.refused (search rules) before.kept before.counts.0 before.counts.1 refl refl refl in
    refused_serves (Unit {0}) g.F.Files g.S.Sink (verify_plan asked.series.now asked.queries.now certificate asked.options.now)
    _ _ _ c.in_err-check_certificate.field-0.0 c.from_residual-in_err-check_certificate.result
    c.from_residual-in_err-check_certificate.ensures.1
    (inr (
      both.series,
      found.hold.first,
      inr (both.queries, found.hold.second, inr (found.lengths, inr (found.segments, inl refused))),
    )) (c.in_err-check_certificate.ensures.kept ∙ before.kept)
    (λ sound. c.in_err-check_certificate.ensures.reliable (before.reliable sound).1)
