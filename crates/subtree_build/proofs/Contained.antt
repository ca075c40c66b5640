-- The word of each leaf contains the full words of its members (`divided_contains`).
use Rattle.std.proofs.Common.{◌≡◌, ℕ, zero, suc, ◌+◌, ◌<◌, true, false, List, [], ◌∷◌, length, get_or, eqb, refl, ◌∙◌, arith, All}
use Rattle.std.specs.Prelude.{filter, nat_le}
use Rattle.std.proofs.lemmas.Bool.{cond_both, not-true}
use Rattle.std.proofs.lemmas.Nat.{mod_below}
use Rattle.std.proofs.lemmas.List.Elements.{All-nil, All-cons, All-append, All-filter, filter_passes}
use Rattle.isax_word.specs.declared.word.Part.{Part}
use Rattle.isax_word.specs.Word.{word_contains, child_word, part_at, next_bit_at, first_bits}
use Rattle.isax_word.proofs.Words.{child_contains}
use Rattle.isax_word.specs.declared.member.Member.{Member}
use Rattle.subtree_build.specs.declared.leaf.TreeLeaf.{TreeLeaf}
use Rattle.subtree_build.specs.Tree.{Tree, leaf, split, leaves_of}
use Rattle.subtree_build.specs.Division.{bits_left, leaf_with, divide}
use Rattle.subtree_build.specs.Splitting.{goes_high, goes_low, split_segment}
use Rattle.subtree_build.specs.Fits.{WordContainsMembers}
use Rattle.subtree_build.proofs.Standing.{CanSplit, can_split}
use Rattle.subtree_build.proofs.Divisions.{bits_left-child}

-- a word contains the full words of all members
abbrev pub ContainsAll : List Part → List Member → Type 0
ContainsAll word members = All (λ m. word_contains word m.full ≡ true) members

-- a bit that is not 1 is 0
zero_bit : (x : ℕ) → x < 2 → eqb x 1 ≡ false → eqb x 0 ≡ true
zero_bit zero small other = refl
zero_bit (suc zero) small other = cc
zero_bit (suc (suc x)) small other = absurd (omega arith)

-- the high child's word contains the members whose next bit is 1
high_contains : (word : List Part) (members : List Member) (j : ℕ) → CanSplit word j
    → ContainsAll word members → ContainsAll (child_word word j true) (filter (goes_high word j) members)
high_contains word members j can all k d inside =
    let kept = filter (goes_high word j) members in
    child_contains word j true (get_or kept k d).full can.used can.divisible
    (All-filter (goes_high word j) (λ (m : Member). word_contains word m.full ≡ true) members all k d inside)
    ∙ filter_passes (goes_high word j) members k d inside

-- the low child's word contains the members whose next bit is 0
low_contains : (word : List Part) (members : List Member) (j : ℕ) → CanSplit word j
    → ContainsAll word members → ContainsAll (child_word word j false) (filter (goes_low word j) members)
low_contains word members j can all k d inside =
    let kept = filter (goes_low word j) members in
    let m = get_or kept k d in
    let bits = (part_at word j).bits in
    let bit = next_bit_at word m.full j in
    child_contains word j false m.full can.used can.divisible
    (All-filter (goes_low word j) (λ (m : Member). word_contains word m.full ≡ true) members all k d inside)
    ∙ zero_bit bit (mod_below (first_bits (bits + 1) (get_or m.full j 0)) 2 (omega arith))
    (not-true (goes_high word j m) (filter_passes (goes_low word j) members k d inside))

-- the word of each leaf of a divided tree contains its members, where the node's contains all
pub divided_contains : (size lacking : ℕ) (word : List Part) (members : List Member)
    → bits_left word ≡ lacking → ContainsAll word members
    → All WordContainsMembers (leaves_of (divide size lacking word members))
unfolding divide
divided_contains size lacking word [] lacks all = All-nil _
divided_contains size zero word (m ∷ members) lacks all =
    All-cons WordContainsMembers (leaf_with word (m ∷ members)) [] all (All-nil _)
divided_contains size (suc lacking) word (m ∷ members) lacks all =
    let ms = m ∷ members in
    let j = split_segment word ms in
    let low = divide size lacking (child_word word j false) (filter (goes_low word j) ms) in
    let high = divide size lacking (child_word word j true) (filter (goes_high word j) ms) in
    let can : CanSplit word j = can_split word ms (omega arith) in
    let low_lacks : bits_left (child_word word j false) ≡ lacking
    = let h = bits_left-child word j false can.used can.divisible in omega arith in
    let high_lacks : bits_left (child_word word j true) ≡ lacking
    = let h = bits_left-child word j true can.used can.divisible in omega arith in
    cond_both (nat_le (length ms) size) (leaf (leaf_with word ms)) (split j low high)
    (λ (t : Tree TreeLeaf). All WordContainsMembers (leaves_of t))
    (λ _. All-cons WordContainsMembers (leaf_with word ms) [] all (All-nil _))
    (λ _. All-append WordContainsMembers (leaves_of low) (leaves_of high)
    (divided_contains size lacking (child_word word j false) (filter (goes_low word j) ms) low_lacks
    (low_contains word ms j can all))
    (divided_contains size lacking (child_word word j true) (filter (goes_high word j) ms) high_lacks
    (high_contains word ms j can all)))
