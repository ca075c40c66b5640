-- Each refusal has its cause, and what is accepted is a word.
use Rattle.std.proofs.Common.{◌≡◌, ◌+◌, ◌<◌, ◌≤◌, [], ◌∷◌, ◌++◌, arith, refl, ap, sym, ◌∙◌, subst, take, drop, get_or, length, append_assoc}
use Rattle.std.specs.List.{All}
use Rattle.std.proofs.lemmas.Bool.{false≢true, eqb-true, eqb-false}
use Rattle.std.proofs.lemmas.List.{append-nil, drop_all}
use Rattle.std.proofs.lemmas.List.Elements.{All-push}
use Rattle.isax_word.specs.declared.word.Part.{Part}
use Rattle.isax_word.specs.Word.{IsPart, no_part, parts_of}
use Rattle.isax_word.proofs.PaddedLists.{padded_next}
use Rattle.isax_word.proofs.Words.{length-parts_of, parts_of-drop, part_at-parts_of}
use Rattle.isax_word.proofs.word.Word.of_parts.Goals as goal
use Rattle.isax_word.proofs.word.Word.of_parts.Goals.{then-prefixes-bits-via-then-prefixes-bits, then-prefixes-bits-via-else-prefixes-bits+then-is_empty, then-prefixes-bits-via-else-prefixes-bits+else-is_empty+then-prefixes-gt16}

pub returns-then-prefixes-bits-clause-accepted : goal.returns-then-prefixes-bits-clause-accepted
returns-then-prefixes-bits-clause-accepted c = (
  λ h. absurd (false≢true h),
  λ make.
      let long = length-parts_of c.args.prefixes.now c.args.bits.now make.same_length in
      elim c.then-prefixes-bits.branch [
        | then-prefixes-bits-via-then-prefixes-bits w ↦ absurd
            (w.if-prefixes-bits.true make.same_length)
        | then-prefixes-bits-via-else-prefixes-bits+then-is_empty w ↦
            let none : length c.args.prefixes.now ≡ 0
            = eqb-true (length c.args.prefixes.now) 0 (sym w.is_empty.ensures ∙ w.if-is_empty.true) in
            absurd (omega (arith, long, none, make.is_word.some_parts))
        | then-prefixes-bits-via-else-prefixes-bits+else-is_empty+then-prefixes-gt16 w ↦
            absurd (omega (arith, long, w.if-prefixes-gt16.true, make.is_word.few_parts))
      ],
)

pub returns-then-not-is_part-clause-accepted : goal.returns-then-not-is_part-clause-accepted
returns-then-not-is_part-clause-accepted c = (
  λ h. absurd (false≢true h),
  λ make.
      let prefixes = c.args.prefixes.now in
      let bits = c.args.bits.now in
      let j = c.loop-j.j in
      let in_prefixes : j < length prefixes = c.loop-j-test.true in
      let in_bits : j < length bits = omega (arith, make.same_length) in
      let long : length (parts_of prefixes bits) ≡ length prefixes
      = length-parts_of prefixes bits make.same_length in
      let is : IsPart (record { prefix = get_or prefixes j 0; bits = get_or bits j 0 })
      = subst IsPart (part_at-parts_of prefixes bits j in_prefixes in_bits)
      (make.is_word.parts j no_part (omega (arith, long))) in
      sym c.if-not-is_part.true ∙ c.is_part.ensures.1 is,
)

pub loop-j-preserved : goal.loop-j-preserved
loop-j-preserved c =
    let prefixes = c.args.prefixes.now in
    let bits = c.args.bits.now in
    let j = c.loop-j.j in
    let parts = c.loop-j.parts in
    let part : Part = record { prefix = get_or prefixes j 0; bits = get_or bits j 0 } in
    let in_prefixes : j < length prefixes = c.loop-j-test.true in
    let in_bits : j < length bits = omega (arith, c.if-prefixes-bits.false) in
    let inside : j < 16 = omega (arith, c.if-prefixes-gt16.false) in
    let next = padded_next no_part parts j part inside c.loop-j.invariant.kept in
    let rest = parts_of (drop (j + 1) prefixes) (drop (j + 1) bits) in
    record {
      kept = next.0;
      whole = ap (λ l. l ++ rest) next.1
          ∙ append_assoc (take j parts) (part ∷ []) rest
          ∙ ap (λ l. take j parts ++ l) (sym (parts_of-drop prefixes bits j in_prefixes in_bits))
          ∙ c.loop-j.invariant.whole;
      parts = subst (All IsPart) (sym next.1)
          (All-push IsPart (take j parts) part c.loop-j.invariant.parts
          (c.is_part.ensures.0 c.if-not-is_part.false));
    }

pub returns-clause-accepted : goal.returns-clause-accepted
returns-clause-accepted c = (
  λ _.
      let prefixes = c.args.prefixes.now in
      let bits = c.args.bits.now in
      let j = c.loop-j.j in
      let same : length prefixes ≡ length bits = c.if-prefixes-bits.false in
      let long : length (parts_of prefixes bits) ≡ length prefixes
      = length-parts_of prefixes bits same in
      let end : j ≡ length prefixes = omega (arith, c.loop-j-test.false, c.loop-j.auto.j-end) in
      let not_none = eqb-false (length prefixes) 0 (sym c.is_empty.ensures ∙ c.if-is_empty.false) in
      let some : 1 ≤ length prefixes = omega (arith, not_none) in
      let none : parts_of (drop j prefixes) (drop j bits) ≡ []
      = ap (λ ps. parts_of ps (drop j bits)) (drop_all j prefixes (omega arith)) in
      let whole : take j c.loop-j.parts ≡ parts_of prefixes bits
      = sym (append-nil _) ∙ ap (λ l. take j c.loop-j.parts ++ l) (sym none)
      ∙ c.loop-j.invariant.whole in
      record {
        same_length = same;
        is_word = record {
          some_parts = omega (arith, long);
          few_parts = omega (arith, long, c.if-prefixes-gt16.false);
          parts = subst (All IsPart) whole c.loop-j.invariant.parts;
        };
      },
  λ _. refl,
)
