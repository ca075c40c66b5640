-- What is saved of an index says what the index is: its nodes (`nodes_of_saved`), its leaves (`leaves_of_saved`), and over one
-- collection the whole of it (`same_index`).
use Rattle.std.proofs.Common.{◌≡◌, ℕ, ◌+◌, List, [], ◌∷◌, ◌++◌, length, map, refl, sym, ap, subst, ◌∙◌, All}
use Rattle.std.specs.Prelude.{IfSome, Option, Some, flat_map}
use Rattle.std.proofs.lemmas.List.{length-map, map-append}
use Rattle.std.proofs.lemmas.List.Elements.{All-head, All-tail}
use Rattle.series_core.specs.Collection.{Collection}
use Rattle.isax_word.specs.declared.layout.Layout.{Layout}
use Rattle.isax_word.specs.declared.member.Member.{Member}
use Rattle.summary_phase.specs.Members.{member_of}
use Rattle.subtree_build.specs.declared.leaf.TreeLeaf.{TreeLeaf}
use Rattle.subtree_build.specs.declared.node.Node.{Node}
use Rattle.subtree_build.specs.declared.settings.Settings.{Settings}
use Rattle.subtree_build.specs.Division.{leaf_with}
use Rattle.subtree_build.specs.Fits.{HasItsWord, MembersAreSeries}
use Rattle.subtree_build.specs.Index.{IndexParts, IsIndex}
use Rattle.subtree_build.specs.Means.{leaf_means, leaf_codes}
use Rattle.subtree_build.specs.Members.{numbers_of, series_at}
use Rattle.subtree_build.specs.Outline.{outline, leaf_numbers}
use Rattle.subtree_build.specs.Tree.{Tree, absent, leaf, split, leaves_of, numbered, all_numbered}
use Rattle.subtree_build.proofs.Numbering.{nodes_are_numbered}
use Rattle.saved_index.specs.Faults.{WordedLeaf, saved_leaves}
use Rattle.saved_index.specs.IndexText.{filled, header_for, numbers_in_leaf, saved_of}
use Rattle.saved_index.specs.Laws.{AreSame, IsIndexOf}
use Rattle.saved_index.specs.Saved.{Saved}
use Rattle.saved_index.proofs.LeavesTold.{leaves_by_number, leaves_told, worded_leaf}

-- the leaves of a filled tree hold the numbers of the members of the tree's leaves
leaves_of_filled : (leaves : List TreeLeaf) (t : Tree ℕ)
    → leaves_of (filled leaves t) ≡ map (numbers_in_leaf leaves) (leaves_of t)
leaves_of_filled leaves absent = refl
leaves_of_filled leaves (leaf l) = refl
leaves_of_filled leaves (split j low high) =
    let f = numbers_in_leaf leaves in
    ap (λ ns. ns ++ leaves_of (filled leaves high)) (leaves_of_filled leaves low)
    ∙ ap (λ ns. map f (leaves_of low) ++ ns) (leaves_of_filled leaves high)
    ∙ sym (map-append f (leaves_of low) (leaves_of high))

leaves_of_all_filled : (leaves : List TreeLeaf) (nodes : List Node)
    → flat_map (λ (t : Tree (List ℕ)). leaves_of t) (map (λ (node : Node). filled leaves (outline node)) nodes)
    ≡ map (numbers_in_leaf leaves) (flat_map leaf_numbers nodes)
leaves_of_all_filled leaves [] = refl
leaves_of_all_filled leaves (n ∷ nodes) =
    let f = numbers_in_leaf leaves in
    let rest = map (λ (node : Node). filled leaves (outline node)) nodes in
    ap (λ ns. ns ++ flat_map (λ (t : Tree (List ℕ)). leaves_of t) rest) (leaves_of_filled leaves (outline n))
    ∙ ap (λ ns. map f (leaf_numbers n) ++ ns) (leaves_of_all_filled leaves nodes)
    ∙ sym (map-append f (leaf_numbers n) (flat_map leaf_numbers nodes))

-- a filled tree has as many leaves as the tree
length-filled : (leaves : List TreeLeaf) (t : Tree ℕ) → length (leaves_of (filled leaves t)) ≡ length (leaves_of t)
length-filled leaves t =
    ap (λ (ns : List (List ℕ)). length ns) (leaves_of_filled leaves t)
    ∙ length-map (leaves_of t) (numbers_in_leaf leaves)

-- and is numbered as the tree is
filled_numbered : (leaves : List TreeLeaf) (first : ℕ) (t : Tree ℕ) → numbered first (filled leaves t) ≡ numbered first t
filled_numbered leaves first absent = refl
filled_numbered leaves first (leaf l) = refl
filled_numbered leaves first (split j low high) =
    let behind = first + length (leaves_of low) in
    ap (λ n. split j (numbered first (filled leaves low)) (numbered (first + n) (filled leaves high)))
    (length-filled leaves low)
    ∙ ap (λ t. split j t (numbered behind (filled leaves high))) (filled_numbered leaves first low)
    ∙ ap (λ t. split j (numbered first low) t) (filled_numbered leaves behind high)

all_filled_numbered : (leaves : List TreeLeaf) (first : ℕ) (nodes : List Node)
    → all_numbered first (map (λ (node : Node). filled leaves (outline node)) nodes)
    ≡ all_numbered first (map outline nodes)
all_filled_numbered leaves first [] = refl
all_filled_numbered leaves first (n ∷ nodes) =
    let rest = map (λ (node : Node). filled leaves (outline node)) nodes in
    let behind = first + length (leaf_numbers n) in
    ap (λ k. numbered first (filled leaves (outline n)) ∷ all_numbered (first + k) rest)
    (length-filled leaves (outline n))
    ∙ ap (λ (t : Tree ℕ). t ∷ all_numbered behind rest) (filled_numbered leaves first (outline n))
    ∙ ap (λ (ts : List (Tree ℕ)). numbered first (outline n) ∷ ts) (all_filled_numbered leaves behind nodes)

-- the nodes of an index are the trees that are saved of it, numbered on
pub nodes_of_saved : (settings : Settings) (count : ℕ) (ix : IndexParts) → IsIndex ix
    → map outline ix.nodes ≡ all_numbered 0 (saved_of settings count ix).nodes
nodes_of_saved settings count ix is =
    nodes_are_numbered 0 (length ix.leaves) ix.nodes is.in_order ∙ sym (all_filled_numbered ix.leaves 0 ix.nodes)

-- the leaves of an index are those of what is saved of it
pub leaves_of_saved : (settings : Settings) (count : ℕ) (ix : IndexParts) → IsIndex ix
    → ix.segments ≡ settings.layout.cuts.segments
    → map worded_leaf ix.leaves ≡ saved_leaves (saved_of settings count ix)
leaves_of_saved settings count ix is segments =
    leaves_told ix (saved_of settings count ix) is segments refl (nodes_of_saved settings count ix is)
    (sym (leaves_by_number (λ (x : TreeLeaf). numbers_of x.members) ix.leaves)
    ∙ ap (map (numbers_in_leaf ix.leaves)) (sym is.in_order)
    ∙ sym (leaves_of_all_filled ix.leaves ix.nodes))

-- the member of a number
abbrev pub member_at : Collection → Layout → ℕ → Member
member_at c layout i = member_of layout i (series_at c i)

-- members with their series' words are those of their numbers
members_again : (c : Collection) (layout : Layout) (ms : List Member) → All (HasItsWord c layout) ms
    → map (member_at c layout) (numbers_of ms) ≡ ms
members_again c layout [] own = refl
members_again c layout (m ∷ ms) own =
    let rest = members_again c layout ms (All-tail (HasItsWord c layout) m ms own) in
    let word = All-head (HasItsWord c layout) m ms own in
    λ i. record { number = m.number; full = sym word i } ∷ rest i

-- the leaf of the members of a saved one
abbrev pub leaf_again : Collection → Layout → WordedLeaf → TreeLeaf
leaf_again c layout x = leaf_with x.word (map (member_at c layout) x.numbers)

-- leaves are what their words and numbers make over the collection
pub leaves_again : (c : Collection) (layout : Layout) (leaves : List TreeLeaf) → All (MembersAreSeries c layout) leaves
    → map (leaf_again c layout) (map worded_leaf leaves) ≡ leaves
leaves_again c layout [] own = refl
leaves_again c layout (x ∷ leaves) own =
    let members = members_again c layout x.members (All-head (MembersAreSeries c layout) x leaves own) in
    let rest = leaves_again c layout leaves (All-tail (MembersAreSeries c layout) x leaves own) in
    λ i. record { word = x.word; members = members i } ∷ rest i

-- settings are those of the header for them
same_settings : (s t : Settings) (m n : ℕ) → header_for s m ≡ header_for t n → s ≡ t
same_settings s t m n same = λ i. record {
  layout = record {
    cuts = record { row_length = (same i).points; segments = (same i).segments };
    table = (same i).table;
  };
  leaf_size = (same i).leaf_size;
}

-- what there is is its own
own_of_some : {X : Type 0} (x own : X) (o : Option X) → o ≡ Some x → IfSome o (λ y. y ≡ own) → x ≡ own
own_of_some x own o has are = subst (λ p. IfSome p (λ y. y ≡ own)) has are

-- two indexes of one collection of which the same is saved are the same
pub same_index : (c : Collection) (s t : Settings) (m n : ℕ) (ix jx : IndexParts) → IsIndexOf c s ix → IsIndexOf c t jx
    → saved_of s m ix ≡ saved_of t n jx → (s ≡ t) × AreSame ix jx
same_index c s t m n ix jx of_ix of_jx same =
    let a = saved_of s m ix in
    let b = saved_of t n jx in
    let settings : s ≡ t = same_settings s t m n (ap (λ (x : Saved). x.header) same) in
    let layout : s.layout ≡ t.layout = ap (λ (x : Settings). x.layout) settings in
    let leaves : ix.leaves ≡ jx.leaves
    = sym (leaves_again c s.layout ix.leaves of_ix.fits.tree.own_words)
    ∙ ap (map (leaf_again c s.layout)) (leaves_of_saved s m ix of_ix.index of_ix.fits.tree.segments ∙ ap saved_leaves same
    ∙ sym (leaves_of_saved t n jx of_jx.index of_jx.fits.tree.segments))
    ∙ ap (λ (l : Layout). map (leaf_again c l) (map worded_leaf jx.leaves)) layout
    ∙ leaves_again c t.layout jx.leaves of_jx.fits.tree.own_words in (
      settings,
      record {
        segments = of_ix.fits.tree.segments ∙ ap (λ (l : Layout). l.cuts.segments) layout ∙ sym of_jx.fits.tree.segments;
        roots = ap (λ (x : Saved). x.roots) same;
        nodes = nodes_of_saved s m ix of_ix.index ∙ ap (λ (x : Saved). all_numbered 0 x.nodes) same
            ∙ sym (nodes_of_saved t n jx of_jx.index);
        leaves = leaves;
        means = λ ms ns has had.
            own_of_some ms (map (leaf_means c s.layout) ix.leaves) ix.means has of_ix.fits.own_means
            ∙ ap (map (leaf_means c s.layout)) leaves
            ∙ ap (λ (l : Layout). map (leaf_means c l) jx.leaves) layout
            ∙ sym (own_of_some ns (map (leaf_means c t.layout) jx.leaves) jx.means had of_jx.fits.own_means);
        codes = λ cs ds has had.
            own_of_some cs (map (leaf_codes c) ix.leaves) ix.codes has of_ix.fits.own_codes
            ∙ ap (map (leaf_codes c)) leaves
            ∙ sym (own_of_some ds (map (leaf_codes c) jx.leaves) jx.codes had of_jx.fits.own_codes);
      },
    )
