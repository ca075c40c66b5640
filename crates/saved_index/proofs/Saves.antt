-- What can be saved of an index is sound (`saved_is_sound`), and its text is written root child by root child (`one_root_saved`).
use Rattle.std.proofs.Common.{◌≡◌, ℕ, zero, suc, ◌+◌, ◌^◌, ◌<◌, ◌≤◌, true, false, List, [], ◌∷◌, ◌++◌, length, map, get_or, take, drop, refl, sym, ap, ◌∙◌, subst, ⊎_elim, arith, append_assoc, append-nil, All}
use Rattle.std.specs.Prelude.{if◌then◌else◌, ◌&&◌, Some, slice_get, slice_index}
use Rattle.std.proofs.lemmas.Grind.{flat_map-append}
use Rattle.std.proofs.lemmas.List.{length-map, map-append, take_more, get_or_default}
use Rattle.std.proofs.lemmas.List.Elements.{All-map, All-get_or}
use Rattle.byteorder.specs.Endian.{little_bytes}
use Rattle.isax_word.specs.declared.member.Member.{Member}
use Rattle.isax_word.specs.declared.word.Part.{Part}
use Rattle.isax_word.specs.Word.{child_word, one_bit_word}
use Rattle.segment_sums.specs.Division.{IsDivision}
use Rattle.subtree_build.specs.declared.leaf.TreeLeaf.{TreeLeaf}
use Rattle.subtree_build.specs.declared.node.Node.{Node}
use Rattle.subtree_build.specs.declared.settings.Settings.{Settings}
use Rattle.subtree_build.specs.Index.{IndexParts, IsIndex, StandsUnder, leaf_at, no_leaf}
use Rattle.subtree_build.specs.Members.{numbers_of}
use Rattle.subtree_build.specs.Outline.{outline}
use Rattle.subtree_build.specs.Tree.{Tree, absent, leaf, split, is_absent}
use Rattle.subtree_build.proofs.Flattened.{drop_at}
use Rattle.subtree_build.proofs.Outlines.{present}
use Rattle.saved_index.proofs.Again.{ascend_from, few_numbers}
use Rattle.saved_index.specs.IndexText.{CanSave, HasSaved, filled, saved_of}
use Rattle.saved_index.specs.Saved.{IsSaved, IsNode, AreRootNodes, split_byte, numbers_text, node_text, roots_text}

-- what is filled is there as it was
pub filled_absent : (leaves : List TreeLeaf) (t : Tree ℕ) → is_absent (filled leaves t) ≡ is_absent t
filled_absent leaves absent = refl
filled_absent leaves (leaf l) = refl
filled_absent leaves (split j low high) = refl

-- a node that stands can be saved with what its leaves hold
node_can : (leaves : List TreeLeaf) (count : ℕ) (word : List Part) (t : Tree ℕ) → All (HasSaved count) leaves
    → StandsUnder leaves word t → IsNode count word (filled leaves t)
node_can leaves count word absent have stands = tt
node_can leaves count word (leaf l) have stands =
    let x = leaf_at leaves l in
    let holds = All-get_or (HasSaved count) leaves l no_leaf stands.0 have in
    let long = length-map x.members (λ (m : Member). m.number) in
    record {
      some = omega (arith, long, holds.some);
      ascend = holds.ascend;
      below = All-map (λ n. n < count) (λ (m : Member). m.number) x.members holds.below;
    }
node_can leaves count word (split j low high) have stands = (
  record {
    used = stands.0.used;
    divisible = stands.0.divisible;
    some_child = ap (λ a. a && is_absent (filled leaves high)) (filled_absent leaves low)
        ∙ ap (λ b. is_absent low && b) (filled_absent leaves high) ∙ stands.0.some_child;
  },
  node_can leaves count (child_word word j false) low have stands.1,
  node_can leaves count (child_word word j true) high have stands.2,
)

root_nodes_can : (leaves : List TreeLeaf) (w count : ℕ) (roots : List ℕ) (nodes : List Node) → All (HasSaved count) leaves
    → length nodes ≡ length roots
    → ((i : ℕ) (node : Node) → slice_get nodes i ≡ Some node
    → StandsUnder leaves (one_bit_word (slice_index roots i) w) (outline node))
    → AreRootNodes w count roots (map (λ (node : Node). filled leaves (outline node)) nodes)
root_nodes_can leaves w count [] [] have one stand = tt
root_nodes_can leaves w count [] (m ∷ nodes) have one stand = absurd (omega (arith, one))
root_nodes_can leaves w count (root ∷ roots) [] have one stand = absurd (omega (arith, one))
root_nodes_can leaves w count (root ∷ roots) (m ∷ nodes) have one stand = (
  record {
    there = filled_absent leaves (outline m) ∙ present m;
    node = node_can leaves count (one_bit_word root w) (outline m) have (stand zero m refl);
  },
  root_nodes_can leaves w count roots nodes have (omega (arith, one)) (λ i node here. stand (suc i) node here),
)

-- what is saved of an index that can be saved is sound
pub saved_is_sound : (settings : Settings) (count : ℕ) (ix : IndexParts) → IsDivision settings.layout.cuts → IsIndex ix
    → CanSave settings count ix → IsSaved (saved_of settings count ix)
saved_is_sound settings count ix is index can =
    let w = settings.layout.cuts.segments in
    let Fit : ℕ → Type 0 = λ n. All (λ root. root < 2 ^ n) ix.roots in
    let Stand : ℕ → Type 0 = λ n. (i : ℕ) (node : Node) → slice_get ix.nodes i ≡ Some node
    → StandsUnder ix.leaves (one_bit_word (slice_index ix.roots i) n) (outline node) in
    record {
      header = record {
        some_segments = is.some_segments;
        few_segments = is.few_segments;
        no_empty_segment = is.no_empty_segment;
        length_limit = is.short_row;
        count_limit = can.count_limit;
        some_leaf_size = can.some_leaf_size;
        leaf_size_limit = can.leaf_size_limit;
      };
      roots = record { ascend = index.roots_ascend; fit = subst Fit can.segments index.roots_fit };
      nodes = root_nodes_can ix.leaves w count ix.roots ix.nodes can.leaves index.one_node_each
          (subst Stand can.segments index.nodes_stand);
    }

-- one root child more is written
pub one_root_saved : (f : Node → Tree (List ℕ)) (roots : List ℕ) (nodes : List Node) (i root : ℕ) (node : Node)
    (all old new : List ℕ) → i < length roots → i < length nodes → root ≡ get_or roots i 0 → node ≡ get_or nodes i node
    → new ≡ (old ++ little_bytes 4 root) ++ node_text (f node)
    → old ++ roots_text (drop i roots) (map f (drop i nodes)) ≡ all
    → new ++ roots_text (drop (i + 1) roots) (map f (drop (i + 1) nodes)) ≡ all
one_root_saved f roots nodes i root node all old new low inside root_is item put was =
    let own = node_text (f node) in
    let rest = roots_text (drop (i + 1) roots) (map f (drop (i + 1) nodes)) in
    let here : roots_text (drop i roots) (map f (drop i nodes)) ≡ little_bytes 4 root ++ (own ++ rest)
    = ap (λ (rs : List ℕ). roots_text rs (map f (drop i nodes)))
    (drop_at roots i root low (root_is ∙ get_or_default roots i 0 root low))
    ∙ ap (λ (ns : List Node). roots_text (root ∷ drop (i + 1) roots) (map f ns)) (drop_at nodes i node inside item) in
    ap (λ bs. bs ++ rest) put
    ∙ append_assoc (old ++ little_bytes 4 root) own rest
    ∙ append_assoc old (little_bytes 4 root) (own ++ rest)
    ∙ ap (λ bs. old ++ bs) (sym here)
    ∙ was

-- a node that is there is filled as one
pub filled_there : (leaves : List TreeLeaf) (node : Node) → is_absent (filled leaves (outline node)) ≡ false
filled_there leaves node = filled_absent leaves (outline node) ∙ present node

-- a leaf that can be saved has few members
pub few_saved : (count : ℕ) (x : TreeLeaf) → count ≤ 16777216 → HasSaved count x → length x.members < 2 ^ 32
few_saved count x few has =
    let long = length-map x.members (λ (m : Member). m.number) in
    let up = ascend_from 0 count (numbers_of x.members) has.ascend
    (All-map (λ n. n < count) (λ (m : Member). m.number) x.members has.below) (λ some. omega arith) in
    ⊎_elim (λ fits. omega (arith, fits, long, few)) (λ none. omega (arith, none, long)) (few_numbers (numbers_of x.members) 0 count up)

-- the bytes of a split with both children, with the low one alone, and with the high one alone
byte_of_both : (leaves : List TreeLeaf) (low high : Node)
    → 3 ≡ split_byte (filled leaves (outline low)) (filled leaves (outline high))
byte_of_both leaves low high =
    ap (λ a. if false then 1 else (if a then 2 else 3)) (sym (filled_there leaves low))
    ∙ ap (λ b. if b then 1 else (if is_absent (filled leaves (outline low)) then 2 else 3)) (sym (filled_there leaves high))

byte_of_high : (leaves : List TreeLeaf) (high : Node) → 2 ≡ split_byte absent (filled leaves (outline high))
byte_of_high leaves high = ap (λ b. if b then 1 else 2) (sym (filled_there leaves high))

pub both_text : (leaves : List TreeLeaf) (j : ℕ) (low high : Node) (old one two new : List ℕ) → one ≡ old ++ 3 ∷ j ∷ []
    → two ≡ one ++ node_text (filled leaves (outline low)) → new ≡ two ++ node_text (filled leaves (outline high))
    → new ≡ old ++ node_text (filled leaves (split j (outline low) (outline high)))
both_text leaves j low high old one two new first second third =
    let l = node_text (filled leaves (outline low)) in
    let h = node_text (filled leaves (outline high)) in
    third
    ∙ ap (λ bs. bs ++ h) (second ∙ ap (λ bs. bs ++ l) first)
    ∙ append_assoc (old ++ 3 ∷ j ∷ []) l h
    ∙ append_assoc old (3 ∷ j ∷ []) (l ++ h)
    ∙ ap (λ k. old ++ k ∷ j ∷ (l ++ h)) (byte_of_both leaves low high)

pub low_text : (leaves : List TreeLeaf) (j : ℕ) (low : Node) (old one new : List ℕ) → one ≡ old ++ 1 ∷ j ∷ []
    → new ≡ one ++ node_text (filled leaves (outline low))
    → new ≡ old ++ node_text (filled leaves (split j (outline low) absent))
low_text leaves j low old one new first second =
    let l = node_text (filled leaves (outline low)) in
    second
    ∙ ap (λ bs. bs ++ l) first
    ∙ append_assoc old (1 ∷ j ∷ []) l
    ∙ ap (λ bs. old ++ 1 ∷ j ∷ bs) (sym (append-nil l))

pub high_text : (leaves : List TreeLeaf) (j : ℕ) (high : Node) (old one new : List ℕ) → one ≡ old ++ 2 ∷ j ∷ []
    → new ≡ one ++ node_text (filled leaves (outline high))
    → new ≡ old ++ node_text (filled leaves (split j absent (outline high)))
high_text leaves j high old one new first second =
    let h = node_text (filled leaves (outline high)) in
    second
    ∙ ap (λ bs. bs ++ h) first
    ∙ append_assoc old (2 ∷ j ∷ []) h
    ∙ ap (λ k. old ++ k ∷ j ∷ h) (byte_of_high leaves high)

-- seven pieces written one after another
pub seven_pieces : (b m w t p n s k b1 b2 b3 b4 b5 b6 b7 : List ℕ) → b1 ≡ b ++ m → b2 ≡ b1 ++ w → b3 ≡ b2 ++ t → b4 ≡ b3 ++ p
    → b5 ≡ b4 ++ n → b6 ≡ b5 ++ s → b7 ≡ b6 ++ k → b7 ≡ b ++ (m ++ (w ++ (t ++ (p ++ (n ++ (s ++ k))))))
seven_pieces b m w t p n s k b1 b2 b3 b4 b5 b6 b7 e1 e2 e3 e4 e5 e6 e7 =
    e7
    ∙ ap (λ x. x ++ k) (e6 ∙ ap (λ x. x ++ s) (e5 ∙ ap (λ x. x ++ n) (e4 ∙ ap (λ x. x ++ p) (e3
    ∙ ap (λ x. x ++ t) (e2 ∙ ap (λ x. x ++ w) e1)))))
    ∙ simp append_assoc

-- the number of one member more
pub one_member_saved : (members : List Member) (i : ℕ) (m : Member) (start old new : List ℕ) → i < length members
    → m ≡ get_or members i m → new ≡ old ++ little_bytes 4 m.number → old ≡ start ++ numbers_text (numbers_of (take i members))
    → new ≡ start ++ numbers_text (numbers_of (take (i + 1) members))
one_member_saved members i m start old new inside item put was =
    let number : Member → ℕ = λ x. x.number in
    let so_far = numbers_text (numbers_of (take i members)) in
    let more : numbers_of (take (i + 1) members) ≡ numbers_of (take i members) ++ m.number ∷ []
    = ap (map number) (take_more members i m inside ∙ ap (λ x. take i members ++ x ∷ []) (sym item))
    ∙ map-append number (take i members) (m ∷ []) in
    put
    ∙ ap (λ bs. bs ++ little_bytes 4 m.number) was
    ∙ append_assoc start so_far (little_bytes 4 m.number)
    ∙ ap (λ bs. start ++ (so_far ++ bs)) (sym (append-nil (little_bytes 4 m.number)))
    ∙ ap (λ bs. start ++ bs) (sym (flat_map-append (little_bytes 4) (numbers_of (take i members)) (m.number ∷ [])))
    ∙ ap (λ ns. start ++ numbers_text ns) (sym more)
