use Rattle.std.proofs.Common.{◌≡◌, ◌+◌, ◌-◌, ℕ, suc, zero, List, length, sym, ap, ◌∙◌, arith}
use Rattle.series_core.specs.declared.queue_words.Entry.{Entry}
use Rattle.certificate.specs.Fields.{entries_at, with_front}
use Rattle.certificate.proofs.Many.{with_none, entries_more, entries_bad, entries_end, entries_none}
use Rattle.certificate.proofs.words.entries.Goals as goal
use Rattle.certificate.proofs.words.entries.Goals.{else-loop-test, then-loop-test+in_default}

-- where n is m, n further entries are m further entries
left : (front : List Entry) (rest : List ℕ) (n m : ℕ) → n ≡ m
    → with_front front (entries_at n rest) ≡ with_front front (entries_at m rest)
left front rest n m same = ap (λ k. with_front front (entries_at k rest)) same

pub loop-init : goal.loop-init
loop-init c =
    sym (with_none (entries_at (length c.args.text.now) c.args.text.now))
    ∙ ap (λ (es : List Entry). with_front es (entries_at (length c.args.text.now) c.args.text.now)) (sym c.new-items.ensures.items)
    ∙ left c.new-items.result.items c.args.text.now (length c.args.text.now) (length c.args.text.now - 0) (omega arith)

pub returns-in_default-entry : goal.returns-in_default-entry
returns-in_default-entry c =
    let n : ℕ = length c.args.text.now - (c.loop.counter + 1) in
    c.loop.invariant
    ∙ left c.loop.items.items c.loop.rest.now (length c.args.text.now - c.loop.counter) (suc n) (omega arith)
    ∙ entries_bad n c.loop.items.items c.loop.rest.now c.in-Some.next.now c.in-Some.ensures c.in_default-entry.ensures

pub loop-preserved : goal.loop-preserved
loop-preserved c =
    let n : ℕ = length c.args.text.now - (c.loop.counter + 1) in
    c.loop.invariant
    ∙ left c.loop.items.items c.loop.rest.now (length c.args.text.now - c.loop.counter) (suc n) (omega arith)
    ∙ entries_more n c.loop.items.items c.loop.rest.now c.in-Some.next.now c.in-Some-entry.next.now c.in-Some-entry.entry
    c.in-Some.ensures c.in-Some-entry.ensures
    ∙ ap (λ (es : List Entry). with_front es (entries_at n c.in-Some-entry.next.now)) (sym c.in_ok-push.ensures.items)

pub returns : goal.returns
returns c =
    elim c.loop-test.branch [
      | else-loop-test w ↦
          c.loop.invariant
          ∙ left c.loop.items.items c.loop.rest.now (length c.args.text.now - c.loop.counter) zero (omega (arith, w.loop-test.false))
          ∙ entries_none c.loop.items.items c.loop.rest.now
      | then-loop-test+in_default w ↦
          c.loop.invariant
          ∙ entries_end (length c.args.text.now - c.loop.counter) c.loop.items.items c.loop.rest.now w.in_default.ensures
    ]
