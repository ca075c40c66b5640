-- Leaves that are numbered in order: those of a split are those of its children (`numbered_split`, `numbered_low`,
-- `numbered_high`), those of nodes in a row are numbered on from node to node (`one_node_more`, `node_is_numbered`), and a
-- node whose leaves are so numbered is its own numbered tree (`nodes_are_numbered`).
use Rattle.std.proofs.Common.{◌≡◌, ℕ, zero, suc, ◌+◌, ◌<◌, ◌≤◌, List, [], ◌∷◌, ◌++◌, length, map, get_or, drop, refl, sym, ap, ◌∙◌, arith, append_assoc, length-append, add-zero, zero-add}
use Rattle.std.specs.Prelude.{flat_map}
use Rattle.std.specs.List.{range_with_len}
use Rattle.std.proofs.lemmas.List.FromFn.{length-range_with_len}
use Rattle.subtree_build.specs.declared.node.Node.{Node}
use Rattle.subtree_build.specs.Assembly.{AreNumbered}
use Rattle.subtree_build.specs.Outline.{outline, leaf_numbers}
use Rattle.subtree_build.specs.Tree.{Tree, absent, leaf, split, leaves_of, numbered, all_numbered}
use Rattle.subtree_build.proofs.Flattened.{drop_at}
use Rattle.subtree_build.proofs.Indexing.{range_parts}

-- numbers in a row, cut in two, are two rows
pub record AreTwoRows (xs ys : List ℕ) (a n : ℕ) : Type 0 where
  pub front : xs ≡ range_with_len a (length xs)
  pub back : ys ≡ range_with_len (a + length xs) (length ys)
  pub both : length xs + length ys ≡ n

pub two_rows : (xs ys : List ℕ) (a n : ℕ) → xs ++ ys ≡ range_with_len a n → AreTwoRows xs ys a n
two_rows [] ys a n is =
    let long : length ys ≡ n = ap (λ (zs : List ℕ). length zs) is ∙ length-range_with_len a n in
    record {
      front = refl;
      back = is ∙ ap (range_with_len a) (sym long) ∙ ap (λ k. range_with_len k (length ys)) (sym (add-zero a));
      both = omega (arith, long);
    }
two_rows (x ∷ xs) ys a zero is = cc
two_rows (x ∷ xs) ys a (suc n) is =
    let first : x ≡ a = cc in
    let rest : xs ++ ys ≡ range_with_len (a + 1) n = cc in
    let rows = two_rows xs ys (a + 1) n rest in
    let from : a + 1 + length xs ≡ a + suc (length xs) = omega arith in
    record {
      front = ap (λ y. y ∷ xs) first ∙ ap (λ zs. a ∷ zs) rows.front;
      back = rows.back ∙ ap (λ k. range_with_len k (length ys)) from;
      both = omega (arith, rows.both);
    }

-- the leaves of a split are numbered in order where those of its children are
pub numbered_split : (first end j : ℕ) (low high : Tree ℕ) → AreNumbered first end low
    → AreNumbered (first + length (leaves_of low)) end high → AreNumbered first end (split j low high)
numbered_split first end j low high front back =
    let l = leaves_of low in
    let h = leaves_of high in
    record {
      in_order =
          ap (λ xs. xs ++ h) front.in_order
          ∙ ap (λ xs. range_with_len first (length l) ++ xs) back.in_order
          ∙ sym (range_parts first (length l) (length h))
          ∙ ap (range_with_len first) (sym (length-append l h));
      inside = omega (arith, length-append l h, back.inside);
    }

-- and then those of the low child are
pub numbered_low : (first end j : ℕ) (low high : Tree ℕ) → AreNumbered first end (split j low high)
    → AreNumbered first end low
numbered_low first end j low high are =
    let l = leaves_of low in
    let h = leaves_of high in
    let rows = two_rows l h first (length (l ++ h)) are.in_order in
    record { in_order = rows.front; inside = omega (arith, length-append l h, are.inside) }

-- and those of the high child, behind them
pub numbered_high : (first end j : ℕ) (low high : Tree ℕ) → AreNumbered first end (split j low high)
    → AreNumbered (first + length (leaves_of low)) end high
numbered_high first end j low high are =
    let l = leaves_of low in
    let h = leaves_of high in
    let rows = two_rows l h first (length (l ++ h)) are.in_order in
    record { in_order = rows.back; inside = omega (arith, length-append l h, are.inside) }

-- no leaves are numbered in order
pub numbered_absent : (first end : ℕ) → first ≤ end → AreNumbered first end absent
numbered_absent first end inside = record { in_order = refl; inside = omega arith }

-- the nodes up to number i have the leaves up to number `next`
pub record AreUpTo (nodes : List Node) (i next : ℕ) : Type 0 where
  pub told : flat_map leaf_numbers nodes ≡ range_with_len 0 next ++ flat_map leaf_numbers (drop i nodes)

-- what stands behind them begins with the next node
behind_is : (nodes : List Node) (i next : ℕ) (node : Node) → i < length nodes → node ≡ get_or nodes i node
    → AreUpTo nodes i next
    → flat_map leaf_numbers nodes
    ≡ range_with_len 0 next ++ (leaf_numbers node ++ flat_map leaf_numbers (drop (i + 1) nodes))
behind_is nodes i next node inside item are =
    are.told
    ∙ ap (λ (ns : List Node). range_with_len 0 next ++ flat_map leaf_numbers ns) (drop_at nodes i node inside item)

-- one node more
pub one_node_more : (nodes : List Node) (i next number end : ℕ) (node : Node) → i < length nodes
    → node ≡ get_or nodes i node → AreUpTo nodes i next → AreNumbered next end (outline node)
    → number ≡ next + length (leaf_numbers node) → AreUpTo nodes (i + 1) number
one_node_more nodes i next number end node inside item are here is =
    let own = leaf_numbers node in
    let rest = flat_map leaf_numbers (drop (i + 1) nodes) in
    record {
      told =
          behind_is nodes i next node inside item are
          ∙ sym (append_assoc (range_with_len 0 next) own rest)
          ∙ ap (λ xs. range_with_len 0 next ++ xs ++ rest) here.in_order
          ∙ ap (λ k. range_with_len 0 next ++ range_with_len k (length own) ++ rest) (sym (zero-add next))
          ∙ ap (λ xs. xs ++ rest) (sym (range_parts 0 next (length own)))
          ∙ ap (λ n. range_with_len 0 n ++ rest) (sym is);
    }

-- where all leaves are numbered in order, those below the next node are
pub node_is_numbered : (nodes : List Node) (i next end : ℕ) (node : Node) → i < length nodes
    → node ≡ get_or nodes i node → AreUpTo nodes i next → flat_map leaf_numbers nodes ≡ range_with_len 0 end
    → AreNumbered next end (outline node)
node_is_numbered nodes i next end node inside item are all =
    let own = leaf_numbers node in
    let rest = flat_map leaf_numbers (drop (i + 1) nodes) in
    let behind = behind_is nodes i next node inside item are in
    let rows = two_rows (range_with_len 0 next) (own ++ rest) 0 end (sym behind ∙ all) in
    let at : length (range_with_len 0 next) ≡ next = length-range_with_len 0 next in
    let own_rows = two_rows own rest next (length (own ++ rest))
    (rows.back ∙ ap (λ k. range_with_len k (length (own ++ rest))) (omega (arith, at))) in
    record { in_order = own_rows.front; inside = omega (arith, at, rows.both, own_rows.both) }

-- a tree whose leaves are numbered in order is as numbered
numbered_same : (first : ℕ) (t : Tree ℕ) → leaves_of t ≡ range_with_len first (length (leaves_of t))
    → numbered first t ≡ t
numbered_same first absent is = refl
numbered_same first (leaf l) is = let same : first ≡ l = cc in ap (λ (k : ℕ). leaf k) same
numbered_same first (split j low high) is =
    let l = leaves_of low in
    let h = leaves_of high in
    let rows = two_rows l h first (length (l ++ h)) is in
    ap (λ t. split j t (numbered (first + length l) high)) (numbered_same first low rows.front)
    ∙ ap (λ t. split j low t) (numbered_same (first + length l) high rows.back)

-- and so are nodes in a row
pub nodes_are_numbered : (first n : ℕ) (nodes : List Node) → flat_map leaf_numbers nodes ≡ range_with_len first n
    → map outline nodes ≡ all_numbered first (map outline nodes)
nodes_are_numbered first n [] is = refl
nodes_are_numbered first n (node ∷ nodes) is =
    let own = leaf_numbers node in
    let rows = two_rows own (flat_map leaf_numbers nodes) first n is in
    ap (λ (t : Tree ℕ). t ∷ map outline nodes) (sym (numbered_same first (outline node) rows.front))
    ∙ ap (λ (ts : List (Tree ℕ)). numbered first (outline node) ∷ ts)
    (nodes_are_numbered (first + length own) (length (flat_map leaf_numbers nodes)) nodes rows.back)
