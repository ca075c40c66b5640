-- When parts make a word: the test of each part against what a word is.
use Rattle.std.proofs.Common.{◌≡◌, ◌^◌, ◌≤◌, List, [], ◌∷◌, length, true, refl}
use Rattle.std.specs.Prelude.{nat_le, nat_lt, ◌&&◌}
use Rattle.std.specs.List.{AllByRecursion, list_all}
use Rattle.std.proofs.lemmas.Bool.{and_parts, and_from, leb-true, ltb-true, le-leb, lt-ltb}
use Rattle.std.proofs.lemmas.List.Elements.{recursion_from_All, All-from_recursion}
use Rattle.isax_word.specs.declared.word.Part.{Part}
use Rattle.isax_word.specs.Word.{IsPart, IsWord}
use Rattle.certificate.specs.Fields.{is_part}

-- a part that passes is a part
pub part_passes : (p : Part) → is_part p ≡ true → IsPart p
part_passes p passes =
    let one = and_parts (nat_le 1 p.bits) (nat_le p.bits 8 && nat_lt p.prefix (2 ^ p.bits)) passes in
    let two = and_parts (nat_le p.bits 8) (nat_lt p.prefix (2 ^ p.bits)) one.1 in
    record {
      some_bits = leb-true 1 p.bits one.0;
      eight_bits = leb-true p.bits 8 two.0;
      prefix_fits = ltb-true p.prefix (2 ^ p.bits) two.1;
    }

-- and what is a part passes
pub passes_part : (p : Part) → IsPart p → is_part p ≡ true
passes_part p part =
    and_from (nat_le 1 p.bits) (nat_le p.bits 8 && nat_lt p.prefix (2 ^ p.bits))
    (le-leb 1 p.bits part.some_bits)
    (and_from (nat_le p.bits 8) (nat_lt p.prefix (2 ^ p.bits)) (le-leb p.bits 8 part.eight_bits)
    (lt-ltb p.prefix (2 ^ p.bits) part.prefix_fits))

parts_pass : (ps : List Part) → list_all is_part ps ≡ true → AllByRecursion IsPart ps
parts_pass [] passes = tt
parts_pass (p ∷ ps) passes =
    let parts = and_parts (is_part p) (list_all is_part ps) passes in
    (part_passes p parts.0, parts_pass ps parts.1)

pass_parts : (ps : List Part) → AllByRecursion IsPart ps → list_all is_part ps ≡ true
pass_parts [] all = refl
pass_parts (p ∷ ps) all = and_from (is_part p) (list_all is_part ps) (passes_part p all.0) (pass_parts ps all.1)

-- as many parts as segments that all pass make a word
pub word_passes : (ps : List Part) → 1 ≤ length ps → length ps ≤ 16 → list_all is_part ps ≡ true → IsWord ps
word_passes ps some few passes = record {
  some_parts = some;
  few_parts = few;
  parts = All-from_recursion IsPart ps (parts_pass ps passes);
}

-- and the parts of a word pass
pub passes_word : (ps : List Part) → IsWord ps → list_all is_part ps ≡ true
passes_word ps word = pass_parts ps (recursion_from_All IsPart ps word.parts)
