-- The child's part stands in the place of its part, and is a part again.
use Rattle.std.proofs.Common.{◌≡◌, ◌<◌, ℕ, Bool, List, arith, ap, sym, ◌∙◌, subst, get_or, set, take, length}
use Rattle.std.proofs.lemmas.List.{get_or-take}
use Rattle.std.proofs.lemmas.List.Elements.{All-get_or}
use Rattle.isax_word.specs.declared.word.Part.{Part}
use Rattle.isax_word.specs.Word.{IsPart, IsWord, no_part, part_at, child_part, child_word}
use Rattle.isax_word.specs.Padded.{IsKept}
use Rattle.isax_word.proofs.PaddedLists.{padded_set}
use Rattle.isax_word.proofs.Words.{IsWord-child_word, prefix-lt}
use Rattle.isax_word.proofs.word.child.Goals as goal

-- the part read is that of the word
part_is : (parts word : List Part) (count j : ℕ) → take count parts ≡ word
    → length (take count parts) ≡ count
    → j < length word → get_or parts j no_part ≡ part_at word j
part_is parts word count j view long used =
    let inside : j < count = omega (arith, ap (λ (l : List Part). length l) view, long) in
    sym (get_or-take count parts j no_part inside) ∙ ap (λ w. part_at w j) view

pub child-requires-clause-fits : goal.child-requires-clause-fits
child-requires-clause-fits c =
    let word = c.args.word.now in
    let j = c.args.segment in
    let there =
    part_is c.word.inside.parts word c.word.inside.count j c.word.view_is c.word.invariant.1
    c.requires.used in
    let is : IsWord word = subst IsWord c.word.view_is c.word.invariant.0 in
    subst (λ p. p.prefix < 128) (sym there)
    (prefix-lt (part_at word j)
    (All-get_or IsPart word j no_part c.requires.used is.parts) c.requires.divisible)

-- the parts with the child's part in its place
child_is : (parts word : List Part) (count j : ℕ) (high : Bool) (child : Part)
    → take count parts ≡ word → IsKept no_part parts count → IsWord word → j < length word
    → child ≡ child_part (get_or parts j no_part) high
    → IsKept no_part (set parts j child) count
    × (take count (set parts j child) ≡ child_word word j high)
child_is parts word count j high child view kept is used value =
    let long : count ≡ length word = sym kept.long ∙ ap (λ (l : List Part). length l) view in
    let written =
    padded_set no_part parts count j child (omega (arith, long, is.few_parts))
    (omega (arith, long)) kept in (
      written.0,
      written.1 ∙ ap (λ (w : List Part). set w j child) view
          ∙ ap (λ p. set word j p)
          (value
          ∙ ap (λ p. child_part p high) (part_is parts word count j view kept.long used)),
    )

-- the parts of the word are kept
kept_is : (c : goal.After-child) → IsKept no_part c.word.inside.parts c.word.inside.count
kept_is c = record { long = c.word.invariant.1; kept = c.word.invariant.2 }

-- what is written makes the child
written_is : (c : goal.After-child)
    → IsKept no_part (set c.word.inside.parts c.args.segment c.child.result) c.word.inside.count
    × (take c.word.inside.count (set c.word.inside.parts c.args.segment c.child.result)
    ≡ child_word c.args.word.now c.args.segment c.args.high)
written_is c =
    child_is c.word.inside.parts c.args.word.now c.word.inside.count c.args.segment c.args.high c.child.result
    c.word.view_is (kept_is c) (subst IsWord c.word.view_is c.word.invariant.0) c.requires.used c.child.ensures

pub of_padded-requires-clause-word : goal.of_padded-requires-clause-word
of_padded-requires-clause-word c =
    let word = c.args.word.now in
    let is : IsWord word = subst IsWord c.word.view_is c.word.invariant.0 in
    subst IsWord (sym (written_is c).1)
    (IsWord-child_word word c.args.segment c.args.high is c.requires.used c.requires.divisible)

pub of_padded-requires-clause-kept : goal.of_padded-requires-clause-kept
of_padded-requires-clause-kept c = (written_is c).0

pub returns : goal.returns
returns c =
    c.of_padded.ensures
    ∙ (child_is c.word.inside.parts c.args.word.now c.word.inside.count c.args.segment c.args.high c.child.result
    c.word.view_is (record { long = c.word.invariant.1; kept = c.word.invariant.2 })
    (subst IsWord c.word.view_is c.word.invariant.0) c.requires.used c.child.ensures).1
