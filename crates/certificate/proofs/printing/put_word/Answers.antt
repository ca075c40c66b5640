use Rattle.std.proofs.Common.{◌≡◌, ◌+◌, ◌-◌, List, drop, ◌++◌, sym, ap, ◌∙◌, arith}
use Rattle.std.proofs.lemmas.List.{drop_all}
use Rattle.isax_word.specs.declared.word.Part.{Part}
use Rattle.isax_word.specs.Word.{no_part}
use Rattle.certificate.specs.Spelling.{parts_text}
use Rattle.certificate.proofs.PrintedText.{parts_step, parts_word}
use Rattle.certificate.proofs.printing.put_word.Goals as goal

pub loop-put-init : goal.loop-put-init
loop-put-init c = record {
  text = ap (λ (ps : List Part). parts_text ps ++ c.args.tail.now)
      (sym (drop_all (c.segments-segments.result - 0) c.args.word.now (omega (arith, c.segments-segments.ensures.value))));
  room = omega arith;
}

pub loop-put-preserved : goal.loop-put-preserved
loop-put-preserved c =
    let segments = c.segments-segments.result in
    let place : segments - 1 - c.loop-put.put ≡ segments - (c.loop-put.put + 1) = omega arith in
    record {
      text = parts_step c.args.tail.now c.loop-put.tail c.put_part.new.tail c.args.word.now
          (segments - 1 - c.loop-put.put) (segments - c.loop-put.put) no_part
          (omega (arith, c.segments-segments.ensures.value)) (omega arith) c.loop-put.invariant.text c.put_part.ensures.text
          ∙ ap (λ n. parts_text (drop n c.args.word.now) ++ c.args.tail.now) place;
      room = omega arith;
    }

-- all parts are put, so the text is that of the word behind a comma
pub drop_first-requires : goal.drop_first-requires
drop_first-requires c =
    (parts_word c.args.tail.now c.loop-put.tail c.args.word.now (c.segments-segments.result - c.loop-put.put)
    (omega (arith, c.loop-put-test.false)) (omega (arith, c.segments-segments.ensures.is_word.some_parts))
    c.loop-put.invariant.text).0

pub returns-clause-text : goal.returns-clause-text
returns-clause-text c =
    c.drop_first.ensures
    ∙ (parts_word c.args.tail.now c.loop-put.tail c.args.word.now (c.segments-segments.result - c.loop-put.put)
    (omega (arith, c.loop-put-test.false)) (omega (arith, c.segments-segments.ensures.is_word.some_parts))
    c.loop-put.invariant.text).1
