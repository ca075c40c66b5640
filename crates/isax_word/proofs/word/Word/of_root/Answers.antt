-- The highest bit of the rest becomes the next part, and the word of the other bits is left.
use Rattle.std.proofs.Common.{◌≡◌, ℕ, List, suc, ◌+◌, ◌-◌, ◌*◌, ◌/◌, ◌%◌, ◌^◌, ◌<◌, [], ◌∷◌, ◌++◌, arith, ap, sym, ◌∙◌, subst, take, append_assoc}
use Rattle.std.proofs.lemmas.List.{append-nil}
use Rattle.std.proofs.lemmas.Nat.{one_shl, pow_pos, mod_below}
use Rattle.isax_word.specs.declared.word.Part.{Part}
use Rattle.isax_word.specs.Word.{IsWord, no_part, one_bit_word}
use Rattle.isax_word.specs.Padded.{IsKept}
use Rattle.isax_word.proofs.PaddedLists.{padded_next}
use Rattle.isax_word.proofs.Roots.{IsWord-one_bit_word}
use Rattle.isax_word.proofs.word.Word.of_root.Goals as goal

-- a part of one bit
one_bit : ℕ → Part
one_bit prefix = record { prefix = prefix; bits = 1 }

pub loop-j-preserved : goal.loop-j-preserved
unfolding one_bit
loop-j-preserved c =
    let parts = c.loop-j.parts in
    let j = c.loop-j.j in
    let rest = c.loop-j.rest in
    let m = c.args.w - (j + 1) in
    let place = 1 * 2 ^ (c.args.w - 1 - j) % 4294967296 in
    let front = take j parts in
    let inside : j < 16 = omega (arith, c.loop-j-test.true, c.requires.few_segments) in
    let one_less : c.args.w - j ≡ suc m = omega (arith, c.loop-j-test.true) in
    let same : c.args.w - 1 - j ≡ m = omega arith in
    let is_place : place ≡ 2 ^ m
    = one_shl (c.args.w - 1 - j) 32 (omega (arith, c.requires.few_segments))
    ∙ ap (λ k. 2 ^ k) same in
    let y = one_bit (rest / 2 ^ (c.args.w - 1 - j)) in
    let next = padded_next no_part parts j y inside c.loop-j.invariant.kept in
    let behind = one_bit_word (rest % place) m in
    record {
      kept = next.0;
      whole = ap (λ l. l ++ behind) next.1
          ∙ append_assoc front (y ∷ []) behind
          ∙ ap (λ k. front ++ one_bit (rest / 2 ^ k) ∷ behind) same
          ∙ ap (λ r. front ++ one_bit (rest / 2 ^ m) ∷ one_bit_word (rest % r) m) is_place
          ∙ ap (λ k. front ++ one_bit_word rest k) (sym one_less)
          ∙ c.loop-j.invariant.whole;
      bits = subst (λ r. rest % r < 2 ^ m) (sym is_place) (mod_below rest (2 ^ m) (pow_pos m));
    }

-- the parts are those of the word of the root number
whole_is : (parts : List Part) (root rest w j : ℕ) → j ≡ w → take j parts ++ one_bit_word rest (w - j) ≡ one_bit_word root w
    → take w parts ≡ one_bit_word root w
whole_is parts root rest w j end whole =
    let none : w - j ≡ 0 = omega (arith, end) in
    ap (λ k. take k parts) (sym end)
    ∙ sym (append-nil (take j parts))
    ∙ ap (λ k. take j parts ++ one_bit_word rest k) (sym none)
    ∙ whole

pub of_padded-requires-clause-word : goal.of_padded-requires-clause-word
of_padded-requires-clause-word c =
    let end : c.loop-j.j ≡ c.args.w = omega (arith, c.loop-j-test.false, c.loop-j.auto.j-end) in
    subst IsWord
    (sym (whole_is c.loop-j.parts c.args.root c.loop-j.rest c.args.w c.loop-j.j end c.loop-j.invariant.whole))
    (IsWord-one_bit_word c.args.root c.args.w c.requires.some_segments c.requires.few_segments c.requires.bits)

pub of_padded-requires-clause-kept : goal.of_padded-requires-clause-kept
of_padded-requires-clause-kept c =
    let end : c.loop-j.j ≡ c.args.w = omega (arith, c.loop-j-test.false, c.loop-j.auto.j-end) in
    subst (IsKept no_part c.loop-j.parts) end c.loop-j.invariant.kept

pub returns : goal.returns
returns c =
    let end : c.loop-j.j ≡ c.args.w = omega (arith, c.loop-j-test.false, c.loop-j.auto.j-end) in
    c.of_padded.ensures ∙ whole_is c.loop-j.parts c.args.root c.loop-j.rest c.args.w c.loop-j.j end c.loop-j.invariant.whole
