-- What a node of a word and its members is: a leaf (`node_is_leaf`) or a split (`node_is_split`); and how many leaves
-- it has (`few_leaves`).
use Rattle.std.proofs.Common.{◌≡◌, ℕ, zero, suc, ◌<◌, ◌≤◌, ◌⊎◌, Bool, true, false, List, [], ◌∷◌, length, refl, sym, ap, ◌∙◌, inl, inr, arith, length-append}
use Rattle.std.specs.Prelude.{filter, nat_le}
use Rattle.std.proofs.lemmas.Bool.{cond-true, cond-false, le-leb, lt-leb, cond_both}
use Rattle.std.proofs.lemmas.List.Filters.{length-filter_both}
use Rattle.isax_word.specs.declared.word.Part.{Part}
use Rattle.isax_word.specs.Word.{part_at, child_word}
use Rattle.isax_word.specs.declared.member.Member.{Member}
use Rattle.subtree_build.specs.declared.leaf.TreeLeaf.{TreeLeaf}
use Rattle.subtree_build.specs.Tree.{Tree, leaf, split, leaves_of}
use Rattle.subtree_build.specs.Division.{bits_left, leaf_with, divide, node_of}
use Rattle.subtree_build.specs.Splitting.{goes_high, goes_low, split_segment, IsSplitOf}

-- a word with a bit more in one segment lacks one bit less
pub bits_left-child : (word : List Part) (j : ℕ) (high : Bool) → j < length word → (part_at word j).bits < 8
    → bits_left word ≡ suc (bits_left (child_word word j high))
bits_left-child [] j high used divisible = absurd (omega arith)
bits_left-child (p ∷ word) zero high used divisible = omega arith
bits_left-child (p ∷ word) (suc j) high used divisible =
    let rest = bits_left-child word j high (omega arith) divisible in omega arith

-- with few members a node is a leaf
few_is_leaf : (size lacking : ℕ) (word : List Part) (members : List Member) → 0 < length members
    → (length members ≤ size) ⊎ (lacking ≡ 0)
    → divide size lacking word members ≡ leaf (leaf_with word members)
unfolding divide
few_is_leaf size lacking word [] some few = absurd (omega arith)
few_is_leaf size zero word (m ∷ members) some few = refl
few_is_leaf size (suc lacking) word (m ∷ members) some (inl few) =
    cond-true (nat_le (length (m ∷ members)) size) _ _ (le-leb _ _ few)
few_is_leaf size (suc lacking) word (m ∷ members) some (inr none) = absurd (omega arith)

-- a node of at most `leaf_size` members, or whose word lacks no bit, is a leaf
pub node_is_leaf : (size : ℕ) (word : List Part) (members : List Member) → 0 < length members
    → (length members ≤ size) ⊎ (bits_left word ≡ 0)
    → node_of size word members ≡ leaf (leaf_with word members)
node_is_leaf size word members some few = few_is_leaf size (bits_left word) word members some few

-- with many members and a bit that the word lacks a node is split
many_is_split : (size lacking : ℕ) (word : List Part) (members : List Member) (j : ℕ)
    → size < length members → j ≡ split_segment word members
    → divide size (suc lacking) word members
    ≡ split j (divide size lacking (child_word word j false) (filter (goes_low word j) members))
    (divide size lacking (child_word word j true) (filter (goes_high word j) members))
unfolding divide
many_is_split size lacking word [] j many is = absurd (omega arith)
many_is_split size lacking word (m ∷ members) j many is =
    cond-false (nat_le (length (m ∷ members)) size) _ _ (lt-leb _ _ many)
    ∙ ap (λ k. split k (divide size lacking (child_word word k false) (filter (goes_low word k) (m ∷ members)))
    (divide size lacking (child_word word k true) (filter (goes_high word k) (m ∷ members)))) (sym is)

-- a node of more than `leaf_size` members is split in the segment of the least triple, while its word lacks a bit
-- there
pub node_is_split : (size : ℕ) (word : List Part) (members : List Member) (j : ℕ)
    → IsSplitOf size word members j
    → node_of size word members
    ≡ split j (node_of size (child_word word j false) (filter (goes_low word j) members))
    (node_of size (child_word word j true) (filter (goes_high word j) members))
node_is_split size word members j h =
    let low = child_word word j false in
    let high = child_word word j true in
    let lacks : bits_left word ≡ suc (bits_left low) = bits_left-child word j false h.used h.divisible in
    let same : bits_left low ≡ bits_left high
    = let other = bits_left-child word j true h.used h.divisible in omega arith in
    ap (λ n. divide size n word members) lacks
    ∙ many_is_split size (bits_left low) word members j h.many h.is_segment
    ∙ ap (λ n. split j (node_of size low (filter (goes_low word j) members))
    (divide size n high (filter (goes_high word j) members))) same

-- a node has no more leaves than members
pub few_leaves : (size lacking : ℕ) (word : List Part) (members : List Member)
    → length (leaves_of (divide size lacking word members)) ≤ length members
unfolding divide
few_leaves size lacking word [] = omega arith
few_leaves size zero word (m ∷ members) = omega arith
few_leaves size (suc lacking) word (m ∷ members) =
    let all = m ∷ members in
    let j = split_segment word all in
    let low = divide size lacking (child_word word j false) (filter (goes_low word j) all) in
    let high = divide size lacking (child_word word j true) (filter (goes_high word j) all) in
    let few_low = few_leaves size lacking (child_word word j false) (filter (goes_low word j) all) in
    let few_high = few_leaves size lacking (child_word word j true) (filter (goes_high word j) all) in
    let both = length-filter_both (goes_high word j) (goes_low word j) (λ x. refl) all in
    cond_both (nat_le (length all) size) (leaf (leaf_with word all)) (split j low high)
    (λ (t : Tree TreeLeaf). length (leaves_of t) ≤ length all)
    (λ _. omega arith)
    (λ _. omega (arith, few_low, few_high, both, length-append (leaves_of low) (leaves_of high)))
