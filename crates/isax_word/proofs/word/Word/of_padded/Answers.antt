-- The symbols of one part more are kept.
use Rattle.std.proofs.Common.{◌≡◌, ◌<◌, arith, refl, subst, take, length}
use Rattle.std.proofs.lemmas.List.{get_or-take}
use Rattle.std.proofs.lemmas.List.Elements.{All-get_or}
use Rattle.isax_word.specs.Word.{IsPart, no_part, first_symbol, last_symbol}
use Rattle.isax_word.proofs.PaddedLists.{HoldsImages, images_next, images_padded, length-kept, padded_none}
use Rattle.isax_word.proofs.word.Word.of_padded.Goals as goal

pub loop-j-init : goal.loop-j-init
loop-j-init c =
    record { firsts = record { kept = padded_none 0; are = refl }; lasts = record { kept = padded_none 0; are = refl } }

pub loop-j-preserved : goal.loop-j-preserved
loop-j-preserved c =
    let parts = c.args.parts in
    let j = c.loop-j.j in
    let inside : j < 16 = omega (arith, c.loop-j-test.true, c.requires.word.few_parts, c.requires.kept.long) in
    let used : j < length parts
    = omega (arith, inside, length-kept no_part parts c.args.count (omega (arith, c.requires.word.few_parts, c.requires.kept.long)) c.requires.kept) in
    record {
      firsts = images_next first_symbol parts c.loop-j.firsts j c.first_symbol.result no_part inside used
          c.first_symbol.ensures c.loop-j.invariant.firsts;
      lasts = images_next last_symbol parts c.loop-j.lasts j c.last_symbol.result no_part inside used
          c.last_symbol.ensures c.loop-j.invariant.lasts;
    }

pub first_symbol-requires : goal.first_symbol-requires
first_symbol-requires c =
    let parts = c.args.parts in
    let count = c.args.count in
    let j = c.loop-j.j in
    let kept : j < length (take count parts) = omega (arith, c.loop-j-test.true, c.requires.kept.long) in
    subst IsPart (get_or-take count parts j no_part c.loop-j-test.true)
    (All-get_or IsPart (take count parts) j no_part kept c.requires.word.parts)

pub invariant_of-result : goal.invariant_of-result
invariant_of-result c =
    let end : c.loop-j.j ≡ c.args.count = omega (arith, c.loop-j-test.false, c.loop-j.auto.j-end) in
    let firsts = subst (HoldsImages first_symbol c.args.parts c.loop-j.firsts) end c.loop-j.invariant.firsts in
    let lasts = subst (HoldsImages last_symbol c.args.parts c.loop-j.lasts) end c.loop-j.invariant.lasts in (
      c.requires.word,
      c.requires.kept.long,
      c.requires.kept.kept,
      images_padded first_symbol c.args.parts c.loop-j.firsts c.args.count firsts,
      images_padded last_symbol c.args.parts c.loop-j.lasts c.args.count lasts,
    )
