-- Leaves cut out of members in a row, in two parts (`cut_both`), and a split that is grown from its children
-- (`children_are_grown`).
use Rattle.std.proofs.Common.{◌≡◌, ℕ, ◌+◌, ◌<◌, ◌≤◌, ◌⊎◌, true, false, List, [], ◌∷◌, ◌++◌, length, take, drop, refl, sym, ap, ◌∙◌, subst, arith, append_assoc, append-nil, length-append}
use Rattle.std.specs.Prelude.{filter}
use Rattle.std.proofs.lemmas.List.{take-append-le, drop-append-le, length-drop, take_all}
use Rattle.list_totals.proofs.Totals.{total_append}
use Rattle.isax_word.specs.declared.word.Part.{Part}
use Rattle.isax_word.specs.Word.{child_word}
use Rattle.isax_word.specs.declared.member.Member.{Member}
use Rattle.subtree_build.specs.declared.leaf.GrownLeaf.{GrownLeaf}
use Rattle.subtree_build.specs.declared.leaf.TreeLeaf.{TreeLeaf}
use Rattle.subtree_build.specs.Division.{bits_left, divide, leaf_with, node_of}
use Rattle.subtree_build.specs.Grown.{IsGrown, IsPut, cut_leaves, grown_leaf, members_in}
use Rattle.subtree_build.specs.Splitting.{goes_high, goes_low, IsSplitOf}
use Rattle.subtree_build.specs.Tree.{Tree, absent, split, leaves_of, numbered}
use Rattle.subtree_build.proofs.Divisions.{few_leaves, node_is_leaf, node_is_split}

-- as many leaves are cut
pub length-cut : (leaves : List GrownLeaf) (members : List Member)
    → length (cut_leaves leaves members) ≡ length leaves
length-cut [] members = refl
length-cut (l ∷ leaves) members = let rest = length-cut leaves (drop l.count members) in omega arith

-- the leaves of two rows, where the first has all members of its leaves
pub cut_both : (front back : List GrownLeaf) (low high : List Member) → members_in front ≡ length low
    → cut_leaves (front ++ back) (low ++ high) ≡ cut_leaves front low ++ cut_leaves back high
cut_both [] back [] high whole = refl
cut_both [] back (m ∷ low) high whole = absurd (omega arith)
cut_both (l ∷ front) back low high whole =
    let inside : l.count ≤ length low = omega arith in
    let behind : members_in front ≡ length (drop l.count low) = omega (arith, length-drop l.count low, inside) in
    ap (λ ms. leaf_with l.word ms ∷ cut_leaves (front ++ back) (drop l.count (low ++ high)))
    (take-append-le l.count low high inside)
    ∙ ap (λ ms. leaf_with l.word (take l.count low) ∷ cut_leaves (front ++ back) ms)
    (drop-append-le l.count low high inside)
    ∙ ap (λ ls. leaf_with l.word (take l.count low) ∷ ls) (cut_both front back (drop l.count low) high behind)

-- a leaf was grown by putting it behind the others
pub leaf_is_grown : (size : ℕ) (word : List Part) (members : List Member) (before after : List GrownLeaf)
    (node : Tree ℕ) (count : ℕ) → 0 < length members
    → (length members ≤ size) ⊎ (bits_left word ≡ 0) → count ≡ length members
    → IsPut (grown_leaf word count) before node after
    → IsGrown (node_of size word members) before node after members
leaf_is_grown size word members before after node count some few counted put =
    let P : Tree TreeLeaf → Type 0 = λ t. IsGrown t before node after members in
    subst P (sym (node_is_leaf size word members some few)) (record {
      node_is = put.node_is;
      grown = grown_leaf word count ∷ [];
      behind = put.behind;
      leaves_are =
          ap (λ ms. leaf_with word ms ∷ [])
          (ap (λ (n : ℕ). take n members) counted ∙ take_all (length members) members (omega arith));
      whole = omega (arith, counted);
    })

-- no members have no node
pub none_is_grown : (size : ℕ) (word : List Part) (members : List Member) (before : List GrownLeaf)
    → length members ≡ 0 → IsGrown (node_of size word members) before absent before members
unfolding divide
none_is_grown size word [] before none =
    record { node_is = refl; grown = []; behind = sym (append-nil before); leaves_are = refl; whole = refl }
none_is_grown size word (m ∷ members) before none = absurd (omega arith)

-- behind what was grown there are no more leaves than members more
pub grown_few : (size : ℕ) (word : List Part) (members now : List Member) (before after : List GrownLeaf)
    (node : Tree ℕ) → IsGrown (node_of size word members) before node after now
    → length after ≤ length before + length members
grown_few size word members now before after node is =
    omega (
      arith,
      ap length is.behind,
      length-append before is.grown,
      length-cut is.grown now,
      ap length is.leaves_are,
      few_leaves size (bits_left word) word members,
    )

-- a split was grown by growing its low child and then its high child
split_is_grown : (j : ℕ) (low high : Tree TreeLeaf) (before between after : List GrownLeaf) (l h : Tree ℕ)
    (low_now high_now : List Member) → IsGrown low before l between low_now
    → IsGrown high between h after high_now
    → IsGrown (split j low high) before (split j l h) after (low_now ++ high_now)
split_is_grown j low high before between after l h low_now high_now low_is high_is = record {
  node_is =
      let long : length between ≡ length before + length (leaves_of low)
      = ap length low_is.behind ∙ length-append before low_is.grown
      ∙ ap (λ n. length before + n) (sym (length-cut low_is.grown low_now) ∙ ap length low_is.leaves_are) in
      ap (λ t. split j t h) low_is.node_is
      ∙ ap (λ t. split j (numbered (length before) low) t)
      (high_is.node_is ∙ ap (λ n. numbered n high) long);
  grown = low_is.grown ++ high_is.grown;
  behind =
      high_is.behind
      ∙ ap (λ xs. xs ++ high_is.grown) low_is.behind
      ∙ append_assoc before low_is.grown high_is.grown;
  leaves_are =
      cut_both low_is.grown high_is.grown low_now high_now low_is.whole
      ∙ ap (λ xs. xs ++ cut_leaves high_is.grown high_now) low_is.leaves_are
      ∙ ap (λ xs. leaves_of low ++ xs) high_is.leaves_are;
  whole = omega (
    arith,
    total_append (λ (x : GrownLeaf). x.count) low_is.grown high_is.grown,
    low_is.whole,
    high_is.whole,
    length-append low_now high_now,
  );
}

-- a split of which both children were grown was grown
pub children_are_grown : (size : ℕ) (word : List Part) (members : List Member) (j : ℕ)
    (low_word high_word : List Part) (low high low_now high_now : List Member)
    (before between after : List GrownLeaf) (l h : Tree ℕ) → IsSplitOf size word members j
    → low_word ≡ child_word word j false → high_word ≡ child_word word j true
    → low ≡ filter (goes_low word j) members → high ≡ filter (goes_high word j) members
    → IsGrown (node_of size low_word low) before l between low_now
    → IsGrown (node_of size high_word high) between h after high_now
    → IsGrown (node_of size word members) before (split j l h) after (low_now ++ high_now)
children_are_grown size word members j low_word high_word low high low_now high_now before between after l h
    is_split is_low_word is_high_word is_low is_high low_is high_is =
    let P : Tree TreeLeaf → Type 0 = λ t. IsGrown t before (split j l h) after (low_now ++ high_now) in
    subst P
    (ap (λ (w : List Part). split j (node_of size w low) (node_of size high_word high)) is_low_word
    ∙ ap (λ (w : List Part). split j (node_of size (child_word word j false) low) (node_of size w high)) is_high_word
    ∙ ap (λ (ms : List Member). split j (node_of size (child_word word j false) ms)
    (node_of size (child_word word j true) high)) is_low
    ∙ ap (λ (ms : List Member). split j (node_of size (child_word word j false) (filter (goes_low word j) members))
    (node_of size (child_word word j true) ms)) is_high
    ∙ sym (node_is_split size word members j is_split))
    (split_is_grown j (node_of size low_word low) (node_of size high_word high)
    before between after l h low_now high_now low_is high_is)
