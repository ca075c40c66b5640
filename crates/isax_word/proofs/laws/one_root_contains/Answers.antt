-- The word of the root number contains the full word, and what contains it has the root number.
use Rattle.std.proofs.Common.{ap, ◌∙◌, length}
use Rattle.isax_word.specs.Word.{word_contains, one_bit_word}
use Rattle.isax_word.proofs.Roots.{root_number-lt, root_contains_own, root_contains_one}
use Rattle.isax_word.proofs.laws.one_root_contains.Goals as goal

pub returns-clause-root_is_below : goal.returns-clause-root_is_below
returns-clause-root_is_below c =
    root_number-lt c.args.full.now c.segments-segments.ensures.is_full_word.eight_bits

pub returns-clause-that_one_alone : goal.returns-clause-that_one_alone
returns-clause-that_one_alone c =
    let full = c.args.full.now in (
      λ contained. root_contains_one c.args.root full c.requires contained,
      λ is. ap (λ r. word_contains (one_bit_word r (length full)) full) is
          ∙ root_contains_own full c.segments-segments.ensures.is_full_word.eight_bits,
    )
