use Rattle.std.proofs.Common.{◌≡◌, ◌+◌, ◌-◌, ◌<◌, ◌++◌, [], ◌∷◌, ℕ, suc, zero, List, Option, length, length-append, sym, ap, ◌∙◌, arith}
use Rattle.isax_word.specs.declared.word.Part.{Part}
use Rattle.certificate.specs.Fields.{◌>>=◌, parts_at, all_parts_at, with_front}
use Rattle.certificate.proofs.Seen.{none_seen}
use Rattle.certificate.proofs.Many.{parts_more, parts_stop, parts_bad, parts_none}
use Rattle.certificate.proofs.words.parts.Goals as goal

-- where n is m, n further parts are m further parts
left : (front : List Part) (rest : List ℕ) (n m : ℕ) → n ≡ m
    → with_front front (parts_at n rest) ≡ with_front front (parts_at m rest)
left front rest n m same = ap (λ k. with_front front (parts_at k rest)) same

-- a turn reads one of the parts that are left
one_left : (segments counter : ℕ) (front : List Part) (rest : List ℕ) (whole : Option (List Part × List ℕ))
    → whole ≡ with_front front (parts_at (segments - counter) rest) → counter < segments
    → whole ≡ with_front front (parts_at (suc (segments - (counter + 1))) rest)
one_left segments counter front rest whole read some =
    read ∙ left front rest (segments - counter) (suc (segments - (counter + 1))) (omega arith)

pub loop-init : goal.loop-init
unfolding all_parts_at
loop-init c = record {
  rest = ap (λ o. o >>= λ part. with_front (part.0 ∷ []) (parts_at (c.args.segments - 1) part.1)) c.in_ok-first.ensures
      ∙ ap (λ (ps : List Part). with_front ps (parts_at (c.args.segments - 1) c.in_ok-first.rest.now))
      (sym (c.push.ensures ∙ ap (λ (ps : List Part). ps ++ c.in_ok-first.first ∷ []) c.new-parts.ensures));
  size = ap length (c.push.ensures ∙ ap (λ (ps : List Part). ps ++ c.in_ok-first.first ∷ []) c.new-parts.ensures);
}

pub returns-in_err-next-clause-read : goal.returns-in_err-next-clause-read
returns-in_err-next-clause-read c =
    let n : ℕ = c.args.segments - (c.loop.counter + 1) in
    none_seen (λ x. (x.0, x.1.now)) c.from_residual-in_err-next.result _ c.from_residual-in_err-next.ensures
    (one_left c.args.segments c.loop.counter _ _ _ c.loop.invariant.rest c.loop-test.true
    ∙ parts_stop n c.loop.parts c.loop.rest.now c.in_err-next.ensures)

pub returns-in_err-part-clause-read : goal.returns-in_err-part-clause-read
returns-in_err-part-clause-read c =
    let n : ℕ = c.args.segments - (c.loop.counter + 1) in
    none_seen (λ x. (x.0, x.1.now)) c.from_residual-in_err-part.result _ c.from_residual-in_err-part.ensures
    (one_left c.args.segments c.loop.counter _ _ _ c.loop.invariant.rest c.loop-test.true
    ∙ parts_bad n c.loop.parts c.loop.rest.now c.in_ok-next.next.now c.in_ok-next.ensures c.in_err-part.ensures)

pub push-requires-in-loop : goal.push-requires-in-loop
push-requires-in-loop c = omega (arith, c.loop.invariant.size, c.loop-test.true, c.requires.few)

pub loop-preserved : goal.loop-preserved
loop-preserved c =
    let n : ℕ = c.args.segments - (c.loop.counter + 1) in
    record {
      rest = one_left c.args.segments c.loop.counter _ _ _ c.loop.invariant.rest c.loop-test.true
          ∙ parts_more n c.loop.parts c.loop.rest.now c.in_ok-next.next.now c.in_ok-part.next.now c.in_ok-part.part
          c.in_ok-next.ensures c.in_ok-part.ensures
          ∙ ap (λ (ps : List Part). with_front ps (parts_at n c.in_ok-part.next.now)) (sym c.push-in-loop.ensures);
      size = ap length c.push-in-loop.ensures ∙ length-append c.loop.parts (c.in_ok-part.part ∷ [])
          ∙ omega (arith, c.loop.invariant.size);
    }

pub returns-clause-read : goal.returns-clause-read
returns-clause-read c =
    c.loop.invariant.rest
    ∙ left c.loop.parts c.loop.rest.now (c.args.segments - c.loop.counter) zero (omega (arith, c.loop-test.false))
    ∙ parts_none c.loop.parts c.loop.rest.now
