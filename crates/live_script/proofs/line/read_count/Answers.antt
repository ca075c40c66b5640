use Rattle.std.proofs.Common.{◌≡◌, Ok, arith, sym, ◌∙◌}
use Rattle.live_script.proofs.Numbers.{count_is_text, count_is_parsed, count_is_printed}
use Rattle.live_script.proofs.line.read_count.Goals as goal
use Rattle.live_script.proofs.line.read_count.Goals.{else-k-ge1-via-then-k-ge1+then-k-le-MAX_BEST+else-is_printed, else-k-ge1-via-then-k-ge1+else-k-le-MAX_BEST, else-k-ge1-via-else-k-ge1}

pub returns-in_default-clause-only : goal.returns-in_default-clause-only
returns-in_default-clause-only c = λ k is. absurd (c.in_default.ensures.cases.0 (count_is_text c.args.bytes.now k is))

pub returns-in_default-parse-clause-only : goal.returns-in_default-parse-clause-only
returns-in_default-parse-clause-only c = λ k is.
    absurd (c.in_default-parse.not-Ok k
    (count_is_parsed c.args.bytes.now c.in-Ok.text.now k c.parse.result c.in-Ok.ensures.cases.0 is c.parse.ensures.value.0))

pub returns-then-is_printed-clause-only : goal.returns-then-is_printed-clause-only
returns-then-is_printed-clause-only c = λ k is.
    let parsed = count_is_parsed c.args.bytes.now c.in-Ok.text.now k c.parse.result c.in-Ok.ensures.cases.0 is
    c.parse.ensures.value.0 in
    let same : Ok c.in-Ok-parse.k ≡ Ok k = sym c.in-Ok-parse.is ∙ parsed in
    cc

pub returns-else-k-ge1-clause-only : goal.returns-else-k-ge1-clause-only
returns-else-k-ge1-clause-only c = λ k is.
    let parsed = count_is_parsed c.args.bytes.now c.in-Ok.text.now k c.parse.result c.in-Ok.ensures.cases.0 is
    c.parse.ensures.value.0 in
    let both : Ok c.in-Ok-parse.k ≡ Ok k = sym c.in-Ok-parse.is ∙ parsed in
    let same : c.in-Ok-parse.k ≡ k = cc in
    let printed = count_is_printed c.args.bytes.now c.as_bytes.result.now k c.in-Ok-parse.k c.eq-is_printed.result is same
    (c.as_bytes.ensures.value ∙ c.format.ensures.text) c.eq-is_printed.ensures in
    elim c.else-k-ge1.branch [
      | else-k-ge1-via-then-k-ge1+then-k-le-MAX_BEST+else-is_printed w ↦ absurd cc
      | else-k-ge1-via-then-k-ge1+else-k-le-MAX_BEST w ↦ absurd (omega (arith, is.most))
      | else-k-ge1-via-else-k-ge1 w ↦ absurd (omega (arith, is.least))
    ]
