use Rattle.std.proofs.Common.{◌≡◌, ◌<◌, ◌≤◌, ◌⊎◌, ℕ, ◌+◌, List, length, Some, false, get_or, sym, subst, ap, ◌∙◌, inl, inr, arith}
use Rattle.std.specs.Prelude.{slice_get, nat_le}
use Rattle.std.specs.Option.{option_copied}
use Rattle.std.proofs.lemmas.Option.{slice_get-get_or}
use Rattle.series_core.specs.declared.pair.Pair.{Pair}
use Rattle.certificate.specs.declared.error.Reject.TheVariants.{Answers}
use Rattle.certificate.specs.Refusals.{first_of, unless}
use Rattle.certificate.specs.Verdict.{wanted, is_right, answer_refusal}
use Rattle.certificate.proofs.Stepping.{refused, passed}
use Rattle.certificate.proofs.Wanted.{answer_refused, answer_passed}
use Rattle.certificate.proofs.answers.check_answers.Goals as goal
use Rattle.certificate.proofs.answers.check_answers.Goals.{then-i-wanted-via-then-i-wanted, then-i-wanted-via-else-i-wanted+then-not-is_right}

-- the pair at a place of a list stands there in a list that is the same
there : (ps qs : List Pair) (i : ℕ) → ps ≡ qs → i < length ps
    → slice_get qs i ≡ Some (get_or ps i (record { distance = 0; number = 0 }))
there ps qs i same below =
    subst (λ (rs : List Pair). slice_get rs i ≡ Some (get_or ps i (record { distance = 0; number = 0 }))) same
    (slice_get-get_or ps i (record { distance = 0; number = 0 }) below)

pub loop-i-preserved : goal.loop-i-preserved
loop-i-preserved g c =
    let rows = g.R.Rows.collection c.args.rows.now in
    let labels = option_copied c.args.labels in
    let p = get_or c.pairs-answers.result.now c.loop-i.i (record { distance = 0; number = 0 }) in
    let size : c.min-wanted.result ≡ wanted rows c.args.k = omega (arith, c.min-wanted.ensures, c.count.ensures.count) in
    record {
      rest = passed (answer_refusal rows labels c.args.k c.args.b c.args.query.now c.args.block.now) _ c.loop-i.i
          c.args.block.now.answers p c.loop-i.invariant.rest
          (there c.pairs-answers.result.now c.args.block.now.answers c.loop-i.i c.pairs-answers.ensures c.loop-i-test.true)
          (answer_passed rows labels c.args.k c.args.b c.args.query.now c.args.block.now c.loop-i.i c.min-wanted.result p
          size c.if-i-wanted.false (sym c.is_right.ensures ∙ c.if-not-is_right.false));
      within = omega arith;
    }

pub returns-then-i-wanted : goal.returns-then-i-wanted
returns-then-i-wanted g c =
    let rows = g.R.Rows.collection c.args.rows.now in
    let labels = option_copied c.args.labels in
    let p = get_or c.pairs-answers.result.now c.loop-i.i (record { distance = 0; number = 0 }) in
    let size : c.min-wanted.result ≡ wanted rows c.args.k = omega (arith, c.min-wanted.ensures, c.count.ensures.count) in
    let fails : (c.min-wanted.result ≤ c.loop-i.i) ⊎ (is_right rows labels c.args.query.now c.args.block.now c.loop-i.i p ≡ false) =
    elim c.then-i-wanted.branch [
      | then-i-wanted-via-then-i-wanted w ↦ inl w.if-i-wanted.true
      | then-i-wanted-via-else-i-wanted+then-not-is_right w ↦ inr (sym w.is_right.ensures ∙ w.if-not-is_right.true)
    ] in
    let answers = c.args.block.now.answers in
    ap (λ o. first_of o (unless (nat_le (wanted rows c.args.k) (length answers)) (Answers c.args.b (length answers + 1))))
    (refused (answer_refusal rows labels c.args.k c.args.b c.args.query.now c.args.block.now) _ c.loop-i.i
    c.args.block.now.answers p (Answers c.args.b (c.loop-i.i + 1)) c.loop-i.invariant.rest
    (there c.pairs-answers.result.now c.args.block.now.answers c.loop-i.i c.pairs-answers.ensures c.loop-i-test.true)
    (answer_refused rows labels c.args.k c.args.b c.args.query.now c.args.block.now c.loop-i.i c.min-wanted.result p
    size fails))
