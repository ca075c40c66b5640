-- Parts that make an index: their leaves stand under their nodes (`parts_are_index`), and lie in one row of all members
-- (`row_is_all`).
use Rattle.std.proofs.Common.{◌≡◌, ℕ, zero, suc, ◌+◌, ◌^◌, ◌<◌, ◌≤◌, true, false, List, [], ◌∷◌, ◌++◌, length, map, get_or, refl, sym, ap, ◌∙◌, subst, arith, append_assoc, length-append}
use Rattle.std.specs.Prelude.{Option, None, Some, flat_map, slice_get, slice_index}
use Rattle.std.specs.List.{range_with_len}
use Rattle.std.specs.List.Sorted.{IsStrictlyIncreasing}
use Rattle.std.proofs.Math.Seq.{get_or-append_seam}
use Rattle.std.proofs.Math.Nat.{pow-le-pow_right}
use Rattle.std.proofs.lemmas.List.{length-map, get_or-map}
use Rattle.std.proofs.lemmas.List.FromFn.{length-range_with_len}
use Rattle.std.proofs.lemmas.Option.{same_Some, none-some}
use Rattle.isax_word.specs.declared.member.Member.{Member}
use Rattle.isax_word.specs.declared.word.Part.{Part}
use Rattle.isax_word.specs.Word.{child_word, one_bit_word}
use Rattle.row_codes.specs.Rows.{Block}
use Rattle.subtree_build.specs.declared.leaf.GrownLeaf.{GrownLeaf}
use Rattle.subtree_build.specs.declared.leaf.TreeLeaf.{TreeLeaf}
use Rattle.subtree_build.specs.declared.node.Node.{Node}
use Rattle.subtree_build.specs.declared.leaf.LeafPlace.{LeafPlace}
use Rattle.subtree_build.specs.Assembly.{AllStand, AreRoots, CanStand, IsOfParts, MakeIndex, all_words, leaf_words, leaves_with}
use Rattle.subtree_build.specs.Grown.{cut_leaves, members_in}
use Rattle.subtree_build.specs.Index.{IndexParts, IsIndex, StandsUnder, leaf_at, no_leaf}
use Rattle.subtree_build.specs.Outline.{outline, leaf_numbers}
use Rattle.subtree_build.specs.Tree.{Tree, absent, leaf, split, leaves_of}
use Rattle.subtree_build.specs.Places.{places_from, leaves_seen, tree_firsts, AreAllSeen, ArePlaces, AreRanges}
use Rattle.subtree_build.proofs.Growing.{length-cut}
use Rattle.subtree_build.proofs.Indexing.{numbers_of_outlines}
use Rattle.subtree_build.proofs.Numbering.{two_rows, nodes_are_numbered}
use Rattle.subtree_build.proofs.Placed.{are_ranges, length-places, places_lie, seen_is_cut}

-- the words of leaves
abbrev pub words_of : List TreeLeaf → List (List Part)
words_of leaves = map (λ x. x.word) leaves

-- a leaf has a word each
pub length-leaf_words : (word : List Part) (t : Tree ℕ) → length (leaf_words word t) ≡ length (leaves_of t)
length-leaf_words word absent = refl
length-leaf_words word (leaf l) = refl
length-leaf_words word (split j low high) =
    let low_words = leaf_words (child_word word j false) low in
    let high_words = leaf_words (child_word word j true) high in
    omega (
      arith,
      length-append low_words high_words,
      length-append (leaves_of low) (leaves_of high),
      length-leaf_words (child_word word j false) low,
      length-leaf_words (child_word word j true) high,
    )

-- the leaf behind `before` has the word that stands there
word_there : (leaves : List TreeLeaf) (before after : List (List Part)) (word : List Part) (l : ℕ)
    → words_of leaves ≡ before ++ word ∷ after → length before ≡ l
    → (l < length leaves) × ((leaf_at leaves l).word ≡ word)
word_there leaves before after word l are at =
    let low : l < length leaves = omega (
      arith,
      at,
      length-map leaves (λ (x : TreeLeaf). x.word),
      ap (λ (ws : List (List Part)). length ws) are,
      length-append before (word ∷ after),
    ) in (
      low,
      sym (get_or-map (λ (x : TreeLeaf). x.word) leaves l no_leaf [] low)
          ∙ ap (λ (ws : List (List Part)). get_or ws l []) are
          ∙ ap (λ n. get_or (before ++ word ∷ after) n []) (sym at)
          ∙ get_or-append_seam before word after [],
    )

-- a node whose leaves are numbered in order stands under its word among leaves with its leaves' words
stands : (leaves : List TreeLeaf) (before after : List (List Part)) (word : List Part) (t : Tree ℕ) (first : ℕ)
    → words_of leaves ≡ before ++ (leaf_words word t ++ after) → length before ≡ first
    → leaves_of t ≡ range_with_len first (length (leaves_of t)) → CanStand word t → StandsUnder leaves word t
stands leaves before after word absent first are at is can = tt
stands leaves before after word (leaf l) first are at is can =
    let same : l ≡ first = cc in
    word_there leaves before after word l are (at ∙ sym same)
stands leaves before after word (split j low high) first are at is can =
    let low_word = child_word word j false in
    let high_word = child_word word j true in
    let low_words = leaf_words low_word low in
    let high_words = leaf_words high_word high in
    let rows = two_rows (leaves_of low) (leaves_of high) first (length (leaves_of low ++ leaves_of high)) is in
    let parted : words_of leaves ≡ before ++ (low_words ++ (high_words ++ after))
    = are ∙ ap (λ ws. before ++ ws) (append_assoc low_words high_words after) in (
      can.0,
      stands leaves before (high_words ++ after) low_word low first parted at rows.front can.1,
      stands leaves (before ++ low_words) after high_word high (first + length (leaves_of low))
          (parted ∙ sym (append_assoc before low_words (high_words ++ after)))
          (omega (arith, at, length-append before low_words, length-leaf_words low_word low)) rows.back can.2,
    )

-- each root child's node stands under its one-bit word
nodes_stand : (leaves : List TreeLeaf) (before : List (List Part)) (w : ℕ) (roots : List ℕ) (nodes : List Node)
    (first n : ℕ) → words_of leaves ≡ before ++ all_words w roots nodes → length before ≡ first
    → flat_map leaf_numbers nodes ≡ range_with_len first n → length nodes ≡ length roots → AllStand w roots nodes
    → (i : ℕ) (node : Node) → slice_get nodes i ≡ Some node
    → StandsUnder leaves (one_bit_word (slice_index roots i) w) (outline node)
nodes_stand leaves before w [] [] first n are at is one can i node here = absurd (none-some node here)
nodes_stand leaves before w [] (m ∷ nodes) first n are at is one can i node here = absurd (omega (arith, one))
nodes_stand leaves before w (root ∷ roots) [] first n are at is one can i node here =
    absurd (none-some node here)
nodes_stand leaves before w (root ∷ roots) (m ∷ nodes) first n are at is one can zero node here =
    let rows = two_rows (leaf_numbers m) (flat_map leaf_numbers nodes) first n is in
    let P : Node → Type 0 = λ o. StandsUnder leaves (one_bit_word root w) (outline o) in
    subst P (same_Some m node here)
    (stands leaves before (all_words w roots nodes) (one_bit_word root w) (outline m) first are at rows.front
    (can zero m refl))
nodes_stand leaves before w (root ∷ roots) (m ∷ nodes) first n are at is one can (suc i) node here =
    let rows = two_rows (leaf_numbers m) (flat_map leaf_numbers nodes) first n is in
    let own = leaf_words (one_bit_word root w) (outline m) in
    nodes_stand leaves (before ++ own) w roots nodes (first + length (leaf_numbers m))
    (length (flat_map leaf_numbers nodes)) (are ∙ sym (append_assoc before own (all_words w roots nodes)))
    (omega (arith, at, length-append before own, length-leaf_words (one_bit_word root w) (outline m))) rows.back
    (omega (arith, one)) (λ k o there. can (suc k) o there) i node here

-- there are as many words as leaf numbers
pub length-all_words : (w : ℕ) (roots : List ℕ) (nodes : List Node) → length nodes ≡ length roots
    → length (all_words w roots nodes) ≡ length (flat_map leaf_numbers nodes)
length-all_words w [] [] one = refl
length-all_words w [] (m ∷ nodes) one = absurd (omega (arith, one))
length-all_words w (root ∷ roots) [] one = absurd (omega (arith, one))
length-all_words w (root ∷ roots) (m ∷ nodes) one =
    omega (
      arith,
      length-append (leaf_words (one_bit_word root w) (outline m)) (all_words w roots nodes),
      length-append (leaf_numbers m) (flat_map leaf_numbers nodes),
      length-leaf_words (one_bit_word root w) (outline m),
      length-all_words w roots nodes (omega (arith, one)),
    )

-- root numbers that strictly ascend are few: the last of n is at least n - 1
at_least : (xs : List ℕ) → IsStrictlyIncreasing xs → (i : ℕ) → i < length xs → i ≤ slice_index xs i
at_least xs up zero inside = omega arith
at_least xs up (suc i) inside =
    let next : i + 1 ≡ suc i = omega arith in
    let more = up i (omega (arith, inside)) in
    let P : ℕ → Type 0 = λ k. slice_index xs i < slice_index xs k in
    omega (arith, at_least xs up i (omega (arith, inside)), subst P next more)

few_roots : (w : ℕ) (roots : List ℕ) → w ≤ 16 → AreRoots w roots → length roots ≤ 65536
few_roots w [] few are = omega arith
few_roots w (r ∷ roots) few are =
    let last = length roots in
    let inside : last < length (r ∷ roots) = omega arith in
    let most : 2 ^ w ≤ 2 ^ 16 = pow-le-pow_right {n = 2} (omega arith) {i = w} {j = 16} few in
    omega (arith, at_least (r ∷ roots) are.ascend last inside, are.fit last 0 inside, most)

-- the words and members of leaves that are put together
pub words_with : (words : List (List Part)) (lists : List (List Member)) → length words ≡ length lists
    → words_of (leaves_with words lists) ≡ words
words_with [] [] same = refl
words_with [] (l ∷ lists) same = absurd (omega (arith, same))
words_with (w ∷ words) [] same = absurd (omega (arith, same))
words_with (w ∷ words) (l ∷ lists) same = ap (λ ws. w ∷ ws) (words_with words lists (omega (arith, same)))

pub members_with : (words : List (List Part)) (lists : List (List Member)) → length words ≡ length lists
    → map (λ (x : TreeLeaf). x.members) (leaves_with words lists) ≡ lists
members_with [] [] same = refl
members_with [] (l ∷ lists) same = absurd (omega (arith, same))
members_with (w ∷ words) [] same = absurd (omega (arith, same))
members_with (w ∷ words) (l ∷ lists) same = ap (λ ls. l ∷ ls) (members_with words lists (omega (arith, same)))

-- an index of parts that make one keeps the facts of every index
pub parts_are_index : (w : ℕ) (roots : List ℕ) (nodes : List Node) (words : List (List Part))
    (lists : List (List Member)) (ix : IndexParts) → 1 ≤ w → w ≤ 16 → length lists < 2 ^ 32
    → MakeIndex w roots nodes (length lists) → words ≡ all_words w roots nodes → ix.segments ≡ w → ix.roots ≡ roots
    → ix.nodes ≡ nodes → ix.leaves ≡ leaves_with words lists → IsIndex ix
parts_are_index w roots nodes words lists ix some few short make words_are w_is roots_is nodes_is leaves_is =
    let long : length words ≡ length lists
    = ap (λ (ws : List (List Part)). length ws) words_are ∙ length-all_words w roots nodes make.one_node_each
    ∙ ap (λ (ls : List ℕ). length ls) make.in_order ∙ length-range_with_len 0 (length lists) in
    let words_here : words_of ix.leaves ≡ [] ++ all_words w roots nodes
    = ap words_of leaves_is ∙ words_with words lists long ∙ words_are in
    let many : length ix.leaves ≡ length lists
    = sym (length-map ix.leaves (λ (x : TreeLeaf). x.members))
    ∙ ap (λ (ls : List (List Member)). length ls)
    (ap (map (λ (x : TreeLeaf). x.members)) leaves_is ∙ members_with words lists long) in
    let stand = nodes_stand ix.leaves [] w roots nodes 0 (length lists) words_here refl make.in_order
    make.one_node_each make.all_stand in
    let StandN : List Node → Type 0 = λ ns. (i : ℕ) (node : Node) → slice_get ns i ≡ Some node
    → StandsUnder ix.leaves (one_bit_word (slice_index roots i) w) (outline node) in
    let StandR : List ℕ → Type 0 = λ rs. (i : ℕ) (node : Node) → slice_get ix.nodes i ≡ Some node
    → StandsUnder ix.leaves (one_bit_word (slice_index rs i) w) (outline node) in
    let StandW : ℕ → Type 0 = λ n. (i : ℕ) (node : Node) → slice_get ix.nodes i ≡ Some node
    → StandsUnder ix.leaves (one_bit_word (slice_index ix.roots i) n) (outline node) in
    let RootsR : List ℕ → Type 0 = λ rs. AreRoots w rs in
    let RootsW : ℕ → Type 0 = λ n. AreRoots n ix.roots in
    let are = subst RootsW (sym w_is) (subst RootsR (sym roots_is) make.are_roots) in
    record {
      some_segments = omega (arith, w_is, some);
      few_segments = omega (arith, w_is, few);
      roots_ascend = are.ascend;
      roots_fit = are.fit;
      few_roots = omega (
        arith,
        few_roots w roots few make.are_roots,
        ap (λ (rs : List ℕ). length rs) roots_is,
      );
      one_node_each = ap (λ (ns : List Node). length ns) nodes_is ∙ make.one_node_each
          ∙ ap (λ (rs : List ℕ). length rs) (sym roots_is);
      nodes_stand = subst StandW (sym w_is) (subst StandR (sym roots_is) (subst StandN (sym nodes_is) stand));
      few_leaves = omega (arith, many, short);
      in_order = ap (flat_map leaf_numbers) nodes_is ∙ make.in_order ∙ ap (range_with_len 0) (sym many);
    }

-- the same with other means is an index too
pub other_means : (ix : IndexParts) (means : Option (List (List (List ℕ)))) (codes : Option (List (List Block))) → IsIndex ix
    → IsIndex (record ix { means = means; codes = codes })
other_means ix means codes is = record {
  some_segments = is.some_segments;
  few_segments = is.few_segments;
  roots_ascend = is.roots_ascend;
  roots_fit = is.roots_fit;
  few_roots = is.few_roots;
  one_node_each = is.one_node_each;
  nodes_stand = is.nodes_stand;
  few_leaves = is.few_leaves;
  in_order = is.in_order;
}

-- a node that can stand under a word can stand under the same word
pub stands_too : (word other : List Part) (node same : Node) → word ≡ other → node ≡ same → CanStand word (outline node)
    → CanStand other (outline same)
stands_too word other node same words nodes can =
    let W : List Part → Type 0 = λ w. CanStand w (outline node) in
    let N : Node → Type 0 = λ n. CanStand other (outline n) in
    subst N nodes (subst W words can)

-- parts and the row in which their leaves lie
pub record IsRow (w : ℕ) (roots : List ℕ) (nodes : List Node) (words : List (List Part)) (firsts : List ℕ)
    (lists : List (List Member)) (leaves : List GrownLeaf) (members : List Member) (places : List LeafPlace) : Type 0 where
  pub some : 1 ≤ w
  pub few : w ≤ 16
  pub short : length lists < 2 ^ 32
  pub make : MakeIndex w roots nodes (length lists)
  pub words_are : words ≡ all_words w roots nodes
  pub firsts_are : firsts ≡ tree_firsts 0 (map outline nodes)
  pub cut : cut_leaves leaves members ≡ leaves_with words lists
  pub whole : members_in leaves ≡ length members
  pub few_members : length members < 2 ^ 32
  pub places_are : places ≡ places_from 0 leaves

-- the same of slices that show these lists
pub a_row : {w : ℕ} {roots rs : List ℕ} {nodes ns : List Node} {words ws : List (List Part)} {firsts : List ℕ}
    {lists ls : List (List Member)} {leaves lv : List GrownLeaf} (members : List Member) {places : List LeafPlace}
    → 1 ≤ w → w ≤ 16 → length lists < 2 ^ 32 → MakeIndex w roots nodes (length lists) → rs ≡ roots → ns ≡ nodes
    → ws ≡ words → ls ≡ lists → lv ≡ leaves → words ≡ all_words w rs ns → firsts ≡ tree_firsts 0 (map outline ns)
    → cut_leaves leaves members ≡ leaves_with ws ls → members_in leaves ≡ length members → length members < 2 ^ 32
    → places ≡ places_from 0 lv → IsRow w roots nodes words firsts lists leaves members places
a_row {w = w} {roots = roots} {ns = ns} {words = words} {ls = ls} members some few short make rs_is ns_is ws_is ls_is lv_is
    words_are firsts_are cut whole few_members places_are = record {
      some = some;
      few = few;
      short = short;
      make = make;
      words_are = words_are ∙ ap (λ (x : List ℕ). all_words w x ns) rs_is ∙ ap (all_words w roots) ns_is;
      firsts_are = firsts_are ∙ ap (λ (x : List Node). tree_firsts 0 (map outline x)) ns_is;
      cut = cut ∙ ap (λ (x : List (List Part)). leaves_with x ls) ws_is ∙ ap (leaves_with words) ls_is;
      whole = whole;
      few_members = few_members;
      places_are = places_are ∙ ap (places_from 0) lv_is;
    }

-- there is a word for each leaf
pub long_words : (w : ℕ) (roots : List ℕ) (nodes : List Node) (n : ℕ) → MakeIndex w roots nodes n
    → length (all_words w roots nodes) ≡ n
long_words w roots nodes n make =
    length-all_words w roots nodes make.one_node_each ∙ ap (λ (ls : List ℕ). length ls) make.in_order
    ∙ length-range_with_len 0 n

module _ {w : ℕ} {roots : List ℕ} {nodes : List Node} {words : List (List Part)} {firsts : List ℕ}
    {lists : List (List Member)} {leaves : List GrownLeaf} {members : List Member} {places : List LeafPlace}
    (row : IsRow w roots nodes words firsts lists leaves members places) where
  -- the parts and the row
  abbrev as_parts : IndexParts
  as_parts = record {
    segments = w;
    roots = roots;
    nodes = nodes;
    leaves = leaves_seen members places;
    means = None;
    codes = None;
  }

  -- the leaves at the places
  pub row_seen : leaves_seen members places ≡ leaves_with words lists
  row_seen = ap (leaves_seen members) row.places_are ∙ seen_is_cut members 0 leaves ∙ row.cut

  -- make an index
  pub row_is_index : IsIndex as_parts
  row_is_index =
      parts_are_index w roots nodes words lists _ row.some row.few row.short row.make row.words_are refl refl refl row_seen

  -- at their places
  pub row_lies : ArePlaces members places
  row_lies = places_lie members leaves places row.whole row.places_are

  -- there are as many places as lists
  row_long : length places ≡ length lists
  row_long =
      ap (λ (ps : List LeafPlace). length ps) row.places_are
      ∙ length-places 0 leaves
      ∙ sym (length-cut leaves members)
      ∙ ap (λ (ls : List TreeLeaf). length ls) row.cut
      ∙ sym (length-map (leaves_with words lists) (λ (x : TreeLeaf). x.members))
      ∙ ap (λ (ls : List (List Member)). length ls) (members_with words lists long)
    where
      long : length words ≡ length lists
      long = ap (λ (ws : List (List Part)). length ws) row.words_are ∙ long_words w roots nodes (length lists) row.make

  -- below each node a range of them
  pub row_ranges : AreRanges nodes firsts places
  row_ranges =
      are_ranges (map outline nodes) nodes firsts places
      (nodes_are_numbered 0 (length lists) nodes row.make.in_order) row.firsts_are
      (row_long ∙ sym (length-range_with_len 0 (length lists))
      ∙ ap (λ (ls : List ℕ). length ls) (sym row.make.in_order)
      ∙ ap (λ (ls : List ℕ). length ls) (numbers_of_outlines nodes))
      (sym (length-map nodes outline))

  -- with all members
  pub row_is_all : AreAllSeen members places
  row_is_all = record { leaves = leaves; lie = row.places_are; whole = row.whole; few = row.few_members }

  -- and it is one of these parts
  pub row_of_parts : IsOfParts w roots nodes lists as_parts
  row_of_parts = record {
    segments = refl;
    roots = refl;
    nodes = refl;
    members = ap (map (λ (x : TreeLeaf). x.members)) row_seen
        ∙ members_with words lists (ap (λ (ws : List (List Part)). length ws) row.words_are
        ∙ long_words w roots nodes (length lists) row.make);
    no_means = refl;
    no_codes = refl;
  }
