-- The words of an index's leaves lie apart: at most one of them contains a full word (`contained_once`). Numbers that strictly ascend stand
-- in their list once at most (`ascending_once`).
use Rattle.std.proofs.Common.{◌≡◌, ℕ, zero, suc, ◌+◌, ◌^◌, ◌<◌, ◌≤◌, Bool, true, false, List, [], ◌∷◌, length, get_or, eqb, Some, refl, sym, ap, ◌∙◌, subst, ⊎_elim, arith, All}
use Rattle.std.specs.Prelude.{flat_map, if◌then◌else◌, slice_get, slice_index}
use Rattle.std.specs.List.{range_with_len}
use Rattle.std.specs.List.Sorted.{IsStrictlyIncreasing}
use Rattle.std.proofs.lemmas.Bool.{both_ways, cases_Bool, cases_eq, cond-true, cond-false, eq-eqb, ne_eqb}
use Rattle.std.proofs.lemmas.List.Elements.{All-head, All-tail}
use Rattle.list_totals.specs.Totals.{total, times, one_if_same}
use Rattle.list_totals.proofs.Totals.{total_append, total_map}
use Rattle.isax_word.specs.FullWord.{root_number}
use Rattle.isax_word.specs.declared.word.Part.{Part}
use Rattle.isax_word.specs.Word.{child_word, next_bit, one_bit_word, part_at, word_contains}
use Rattle.isax_word.proofs.Roots.{root_contains_one}
use Rattle.isax_word.proofs.Words.{child_contains, child_within}
use Rattle.subtree_build.specs.declared.leaf.TreeLeaf.{TreeLeaf}
use Rattle.subtree_build.specs.declared.node.Node.{Node}
use Rattle.subtree_build.specs.Index.{IndexParts, IsIndex, StandsUnder, leaf_at}
use Rattle.subtree_build.specs.Outline.{outline, leaf_numbers}
use Rattle.subtree_build.specs.Tree.{Tree, absent, leaf, split, leaves_of}
use Rattle.saved_index.proofs.LeavesTold.{leaves_by_number}

-- numbers behind the first of those that strictly ascend
tail_ascends : (n : ℕ) (ns : List ℕ) → IsStrictlyIncreasing (n ∷ ns) → IsStrictlyIncreasing ns
tail_ascends n ns up k inside =
    let next : suc k + 1 ≡ suc (k + 1) = omega arith in
    let P : ℕ → Type 0 = λ j. get_or (n ∷ ns) (suc k) 0 < get_or (n ∷ ns) j 0 in
    subst P next (up (suc k) (omega (arith, inside)))

-- a number up to the first does not stand behind it
none_behind : (i n : ℕ) (ns : List ℕ) → i ≤ n → IsStrictlyIncreasing (n ∷ ns) → times i ns ≡ 0
none_behind i n [] low up = refl
none_behind i n (m ∷ ns) low up =
    let more : n < m = up 0 (omega arith) in
    let other : one_if_same i m ≡ 0 = cond-false (eqb i m) 1 0 (ne_eqb i m (λ same. omega (arith, same, low, more))) in
    omega (arith, other, none_behind i m ns (omega (arith, low, more)) (tail_ascends n (m ∷ ns) up))

-- a number stands once at most among those that strictly ascend
pub ascending_once : (i : ℕ) (ns : List ℕ) → IsStrictlyIncreasing ns → times i ns ≤ 1
ascending_once i [] up = omega arith
ascending_once i (n ∷ ns) up =
    ⊎_elim
    (λ same.
    let one : one_if_same i n ≡ 1 = cond-true (eqb i n) 1 0 (eq-eqb i n same) in
    omega (arith, one, none_behind i n ns (omega (arith, same)) up))
    (λ other.
    let none : one_if_same i n ≡ 0 = cond-false (eqb i n) 1 0 (ne_eqb i n other) in
    omega (arith, none, ascending_once i ns (tail_ascends n ns up)))
    (cases_eq i n)

-- 1 where a test passes, and else 0
abbrev pub one_where : Bool → ℕ
one_where b = if b then 1 else 0

-- 1 where a word contains a full word, and else 0
abbrev pub contains_it : List ℕ → List Part → ℕ
contains_it full word = one_where (word_contains word full)

-- a bit is not both 0 and 1
bits_apart : (bit : ℕ) → one_where (eqb bit 0) + one_where (eqb bit 1) ≤ 1
bits_apart zero = omega arith
bits_apart (suc zero) = omega arith
bits_apart (suc (suc n)) =
    let bit = suc (suc n) in
    let low : one_where (eqb bit 0) ≡ 0 = cond-false (eqb bit 0) 1 0 (ne_eqb bit 0 (λ same. omega (arith, same))) in
    let high : one_where (eqb bit 1) ≡ 0 = cond-false (eqb bit 1) 1 0 (ne_eqb bit 1 (λ same. omega (arith, same))) in
    omega (arith, low, high)

module _ (full : List ℕ) where
  -- of the children of a word at most one contains a full word, and none where the word does not
  children_apart : (word : List Part) (j : ℕ) → j < length word → (part_at word j).bits < 8
      → contains_it full (child_word word j false) + contains_it full (child_word word j true) ≤ contains_it full word
  children_apart word j used divisible =
      let low = word_contains (child_word word j false) full in
      let high = word_contains (child_word word j true) full in
      let has = word_contains word full in
      let bit = next_bit (part_at word j).bits (get_or full j 0) in
      ⊎_elim
      (λ yes.
      let one : one_where has ≡ 1 = cond-true has 1 0 yes in
      omega (
        arith,
        one,
        bits_apart bit,
        ap one_where (child_contains word j false full used divisible yes),
        ap one_where (child_contains word j true full used divisible yes),
      ))
      (λ out.
      let none : (b : Bool) → contains_it full (child_word word j b) ≡ 0
      = λ b. cond-false (word_contains (child_word word j b) full) 1 0 (outside word j b used divisible out) in
      omega (arith, none false, none true))
      (cases_Bool has)
    where
      -- what a word does not contain, its children do not
      outside : (word : List Part) (j : ℕ) (b : Bool) → j < length word → (part_at word j).bits < 8
          → word_contains word full ≡ false → word_contains (child_word word j b) full ≡ false
      outside word j b used divisible out =
          ⊎_elim (λ yes. absurd (both_ways (word_contains word full) out (child_within word j b full used divisible yes)))
          (λ same. same) (cases_Bool (word_contains (child_word word j b) full))

  module _ (leaves : List TreeLeaf) where
    -- 1 where the word of leaf l contains it, and else 0
    abbrev pub contained_in : ℕ → ℕ
    contained_in l = contains_it full (leaf_at leaves l).word

    -- of the leaves below a node at most one has a word that contains it, and none where the node's word does not
    below_node : (word : List Part) (t : Tree ℕ) → StandsUnder leaves word t
        → total contained_in (leaves_of t) ≤ contains_it full word
    below_node word absent stands = omega arith
    below_node word (leaf l) stands =
        let same : contained_in l ≡ contains_it full word = ap (contains_it full) stands.1 in omega (arith, same)
    below_node word (split j low high) stands =
        omega (
          arith,
          total_append contained_in (leaves_of low) (leaves_of high),
          below_node (child_word word j false) low stands.1,
          below_node (child_word word j true) high stands.2,
          children_apart word j stands.0.used stands.0.divisible,
        )

    -- of the one-bit words, that of its root number alone contains it
    root_counts : (root : ℕ) → root < 2 ^ length full
        → contains_it full (one_bit_word root (length full)) ≤ one_if_same (root_number full) root
    root_counts root fits =
        let has = word_contains (one_bit_word root (length full)) full in
        ⊎_elim
        (λ yes.
        let same : root_number full ≡ root = sym (root_contains_one root full fits yes) in
        let own : one_if_same (root_number full) root ≡ 1
        = cond-true (eqb (root_number full) root) 1 0 (eq-eqb (root_number full) root same) in
        let one : one_where has ≡ 1 = cond-true has 1 0 yes in
        omega (arith, own, one))
        (λ out. let none : one_where has ≡ 0 = cond-false has 1 0 out in omega (arith, none))
        (cases_Bool has)

    -- so of the leaves below root children no more contain it than there are root numbers that are its own
    below_nodes : (roots : List ℕ) (nodes : List Node) → length nodes ≡ length roots → All (λ root. root < 2 ^ length full) roots
        → ((i : ℕ) (node : Node) → slice_get nodes i ≡ Some node
        → StandsUnder leaves (one_bit_word (slice_index roots i) (length full)) (outline node))
        → total contained_in (flat_map leaf_numbers nodes) ≤ times (root_number full) roots
    below_nodes [] [] one fit stand = omega arith
    below_nodes [] (n ∷ nodes) one fit stand = absurd (omega (arith, one))
    below_nodes (root ∷ roots) [] one fit stand = absurd (omega (arith, one))
    below_nodes (root ∷ roots) (n ∷ nodes) one fit stand =
        let Fits : ℕ → Type 0 = λ r. r < 2 ^ length full in
        omega (
          arith,
          total_append contained_in (leaf_numbers n) (flat_map leaf_numbers nodes),
          below_node (one_bit_word root (length full)) (outline n) (stand zero n refl),
          root_counts root (All-head Fits root roots fit),
          below_nodes roots nodes (omega (arith, one)) (All-tail Fits root roots fit) (λ i node here. stand (suc i) node here),
        )

-- the words of at most one leaf of an index contain a full word
pub contained_once : (ix : IndexParts) (full : List ℕ) → IsIndex ix → length full ≡ ix.segments
    → total (λ (x : TreeLeaf). contains_it full x.word) ix.leaves ≤ 1
contained_once ix full is long =
    let n = length ix.leaves in
    let f : TreeLeaf → ℕ = λ x. contains_it full x.word in
    let by_number : total (contained_in full ix.leaves) (range_with_len 0 n) ≡ total f ix.leaves
    = sym (total_map (λ k. k) (contained_in full ix.leaves) (range_with_len 0 n))
    ∙ ap (total (λ k. k)) (leaves_by_number f ix.leaves)
    ∙ total_map (λ k. k) f ix.leaves in
    let in_order : total (contained_in full ix.leaves) (flat_map leaf_numbers ix.nodes)
    ≡ total (contained_in full ix.leaves) (range_with_len 0 n)
    = ap (total (contained_in full ix.leaves)) is.in_order in
    let Fit : ℕ → Type 0 = λ w. All (λ root. root < 2 ^ w) ix.roots in
    let Stand : ℕ → Type 0 = λ w. (i : ℕ) (node : Node) → slice_get ix.nodes i ≡ Some node
    → StandsUnder ix.leaves (one_bit_word (slice_index ix.roots i) w) (outline node) in
    omega (
      arith,
      by_number,
      in_order,
      below_nodes full ix.leaves ix.roots ix.nodes is.one_node_each (subst Fit (sym long) is.roots_fit)
          (subst Stand (sym long) is.nodes_stand),
      ascending_once (root_number full) ix.roots is.roots_ascend,
    )
