-- An index whose nodes and whose leaves' numbers are those of what is saved has its text (`text_told`).
use Rattle.std.proofs.Common.{◌≡◌, ℕ, ◌+◌, List, [], ◌∷◌, ◌++◌, length, map, refl, sym, ap, ◌∙◌, subst, append_assoc, length-append}
use Rattle.std.specs.Prelude.{flat_map, slice_index_or}
use Rattle.std.proofs.Math.ListN.{get_or-map}
use Rattle.std.proofs.Math.Seq.{get_or-append_seam}
use Rattle.subtree_build.specs.declared.leaf.TreeLeaf.{TreeLeaf}
use Rattle.subtree_build.specs.declared.node.Node.{Node}
use Rattle.subtree_build.specs.declared.settings.Settings.{Settings}
use Rattle.subtree_build.specs.Index.{IndexParts, no_leaf}
use Rattle.subtree_build.specs.Members.{numbers_of}
use Rattle.subtree_build.specs.Outline.{outline}
use Rattle.subtree_build.specs.Tree.{Tree, absent, leaf, split, leaves_of, numbered, all_numbered}
use Rattle.saved_index.specs.IndexText.{IndexText, filled, header_for, saved_of}
use Rattle.saved_index.specs.Saved.{Saved, IsTextOf}

-- the numbers of a leaf's members
abbrev pub leaf_numbers_of : TreeLeaf → List ℕ
leaf_numbers_of x = numbers_of x.members

-- a numbered tree is filled with what its leaves held, where this stands there
refilled : (leaves : List TreeLeaf) (before after : List (List ℕ)) (t : Tree (List ℕ))
    → map leaf_numbers_of leaves ≡ before ++ (leaves_of t ++ after) → filled leaves (numbered (length before) t) ≡ t
refilled leaves before after absent are = refl
refilled leaves before after (leaf numbers) are =
    ap (λ (ns : List ℕ). leaf ns)
    (sym (get_or-map leaf_numbers_of leaves (length before) no_leaf)
    ∙ ap (λ (ls : List (List ℕ)). slice_index_or ls (length before) []) are
    ∙ get_or-append_seam before numbers after [])
refilled leaves before after (split j low high) are =
    let l = leaves_of low in
    let h = leaves_of high in
    let parted : map leaf_numbers_of leaves ≡ before ++ (l ++ (h ++ after))
    = are ∙ ap (λ ls. before ++ ls) (append_assoc l h after) in
    ap (λ t. split j t (filled leaves (numbered (length before + length l) high)))
    (refilled leaves before (h ++ after) low parted)
    ∙ ap (λ n. split j low (filled leaves (numbered n high))) (sym (length-append before l))
    ∙ ap (λ t. split j low t)
    (refilled leaves (before ++ l) after high (parted ∙ sym (append_assoc before l (h ++ after))))

-- and so are nodes that are numbered on
all_refilled : (leaves : List TreeLeaf) (before : List (List ℕ)) (nodes : List Node) (trees : List (Tree (List ℕ)))
    → map leaf_numbers_of leaves ≡ before ++ flat_map (λ (t : Tree (List ℕ)). leaves_of t) trees
    → map outline nodes ≡ all_numbered (length before) trees
    → map (λ (node : Node). filled leaves (outline node)) nodes ≡ trees
all_refilled leaves before [] [] are is = refl
all_refilled leaves before [] (t ∷ trees) are is = cc
all_refilled leaves before (n ∷ nodes) [] are is = cc
all_refilled leaves before (n ∷ nodes) (t ∷ trees) are is =
    let own = leaves_of t in
    let rest = flat_map (λ (t : Tree (List ℕ)). leaves_of t) trees in
    let here : outline n ≡ numbered (length before) t = cc in
    let behind : map outline nodes ≡ all_numbered (length before + length own) trees = cc in
    ap (λ (o : Tree ℕ). filled leaves o ∷ map (λ (node : Node). filled leaves (outline node)) nodes) here
    ∙ ap (λ u. u ∷ map (λ (node : Node). filled leaves (outline node)) nodes) (refilled leaves before rest t are)
    ∙ ap (λ us. t ∷ us)
    (all_refilled leaves (before ++ own) nodes trees (are ∙ sym (append_assoc before own rest))
    (behind ∙ ap (λ k. all_numbered k trees) (sym (length-append before own))))

-- bytes that are the text of what is saved are the text of an index with its header, root numbers, nodes and numbers
pub text_told : (bytes : List ℕ) (s : Saved) (settings : Settings) (count : ℕ) (ix : IndexParts) → IsTextOf bytes s
    → header_for settings count ≡ s.header → ix.roots ≡ s.roots → map outline ix.nodes ≡ all_numbered 0 s.nodes
    → map leaf_numbers_of ix.leaves ≡ flat_map (λ (t : Tree (List ℕ)). leaves_of t) s.nodes
    → IndexText bytes settings count ix
text_told bytes s settings count ix of header roots nodes numbers =
    let trees : map (λ (node : Node). filled ix.leaves (outline node)) ix.nodes ≡ s.nodes
    = all_refilled ix.leaves [] ix.nodes s.nodes numbers nodes in
    let same : saved_of settings count ix ≡ s
    = λ i. record { header = header i; roots = roots i; nodes = trees i } in
    subst (IsTextOf bytes) (sym same) of
