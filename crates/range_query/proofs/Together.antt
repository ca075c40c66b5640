-- What all workers find together is what the collection has within the radius (`all_found`).
use Rattle.std.proofs.Common.{◌≡◌, ℕ, ℤ, ◌+◌, ◌<◌, ◌≤◌, Bool, true, false, cond, List, [], ◌∷◌, ◌++◌, All, length, get_or, map, drop, IsPermutation, refl, sym, ap, ◌∙◌, subst, arith}
use Rattle.std.specs.Prelude.{nat_le}
use Rattle.std.specs.List.{range_with_len, flat_map, filter}
use Rattle.std.proofs.lemmas.List.{ext_get_or, get_or-drop, drop-drop}
use Rattle.std.proofs.lemmas.List.Concat.{flat_map-append}
use Rattle.std.proofs.lemmas.List.Folds.{flat_map-map}
use Rattle.std.proofs.lemmas.List.FromFn.{length-map-range_with_len, get_or-map-range_with_len}
use Rattle.std.proofs.lemmas.List.Sorted.{IsPermutation-trans}
use Rattle.list_totals.specs.Totals.{total, times, once_below}
use Rattle.list_totals.proofs.Totals.{times_append}
use Rattle.series_core.specs.declared.pair.Pair.{Pair}
use Rattle.series_core.specs.Answer.{pair_of, pairs_from, pairs_of, within}
use Rattle.series_core.specs.Distance.{squared_distance}
use Rattle.series_core.proofs.Plain.{within-ascending}
use Rattle.claim_word.specs.Passes.{Pass, EachDrawnOnce}
use Rattle.isax_word.specs.declared.member.Member.{Member}
use Rattle.claim_word.proofs.Draws.{same_pieces, times_below, all_draws, times_all, all_drawn}
use Rattle.lower_bound.specs.Bound.{View}
use Rattle.subtree_build.specs.declared.node.Node.{Node, Leaf}
use Rattle.subtree_build.specs.declared.leaf.TreeLeaf.{TreeLeaf}
use Rattle.subtree_build.specs.Fits.{times_in}
use Rattle.subtree_build.specs.Index.{IndexParts, leaf_at, no_leaf}
use Rattle.subtree_build.specs.Members.{numbers_of, series_at}
use Rattle.subtree_build.specs.Outline.{leaf_numbers}
use Rattle.worker_team.specs.Deeds.{EachDid}
use Rattle.worker_team.proofs.Deeds.{passes_have, same_pieces_made}
use Rattle.std.specs.declared.vec.Vec.{Vec}
use Rattle.std.specs.declared.alloc.Global.{Global}
use Rattle.range_query.specs.Done.{IsDone}
use Rattle.range_query.specs.Near.{Asked, IsAsked, near_series, near_members, near_leaves, near_root, near_group, near_drawn, group_count, group_of}
use Rattle.range_query.proofs.Groups.{all_groups}
use Rattle.range_query.proofs.Ordering.{InOrder, permuted_ascending, sorted_is_ascending}

-- the items of a list by their places are the list
by_places : {X : Type 0} (xs : List X) (d : X)
    → map (λ i. get_or xs i d) (range_with_len 0 (length xs)) ≡ xs
by_places xs d =
    let listed = map (λ i. get_or xs i d) (range_with_len 0 (length xs)) in
    let long = length-map-range_with_len (λ i. get_or xs i d) 0 (length xs) in
    ext_get_or d listed xs long
    (λ i low.
    get_or-map-range_with_len (λ j. get_or xs j d) 0 (length xs) i i d (omega (arith, long))
    (omega arith))

-- pieces by place are the pieces of the items
pieces_by_place : {X Y : Type 0} (f : X → List Y) (xs : List X) (d : X)
    → flat_map (λ i. f (get_or xs i d)) (range_with_len 0 (length xs)) ≡ flat_map f xs
pieces_by_place f xs d =
    sym (flat_map-map f (λ i. get_or xs i d) (range_with_len 0 (length xs)))
    ∙ ap (flat_map f) (by_places xs d)

-- pieces of pieces
pieces_of_pieces : {X Y Z : Type 0} (g : Y → List Z) (f : X → List Y) (xs : List X)
    → flat_map (λ x. flat_map g (f x)) xs ≡ flat_map g (flat_map f xs)
pieces_of_pieces g f [] = refl
pieces_of_pieces g f (x ∷ xs) =
    ap (λ l. flat_map g (f x) ++ l) (pieces_of_pieces g f xs)
    ∙ sym (flat_map-append g (f x) (flat_map f xs))

-- the numbers of all members, leaf by leaf
all_numbers : List TreeLeaf → List ℕ
all_numbers leaves = flat_map (λ x. numbers_of x.members) leaves

-- a number stands among those of all members as often as in the leaves together
times_in_leaves : (i : ℕ) (leaves : List TreeLeaf)
    → times i (all_numbers leaves) ≡ total (times_in i) leaves
unfolding all_numbers
times_in_leaves i [] = refl
times_in_leaves i (x ∷ leaves) =
    times_append i (numbers_of x.members) (all_numbers leaves)
    ∙ ap (λ n. times i (numbers_of x.members) + n) (times_in_leaves i leaves)

-- what is near of the members, leaf by leaf, is what is near of their numbers
near_by_number : (a : Asked) (leaves : List TreeLeaf)
    → flat_map (λ x. near_members a x.members) leaves
    ≡ flat_map (near_series a) (all_numbers leaves)
unfolding all_numbers
near_by_number a [] = refl
near_by_number a (x ∷ leaves) =
    ap (λ l. near_members a x.members ++ l) (near_by_number a leaves)
    ∙ ap (λ l. l ++ flat_map (near_series a) (all_numbers leaves))
    (sym (flat_map-map (near_series a) (λ (m : Member). m.number) x.members))
    ∙ sym (flat_map-append (near_series a) (numbers_of x.members) (all_numbers leaves))

-- what a test puts in front
in_front : (b : Bool) (p : Pair) (ps : List Pair)
    → cond b (p ∷ []) [] ++ ps ≡ cond b (p ∷ ps) ps
in_front true p ps = refl
in_front false p ps = refl

-- what is near of all series from one on is what passes of their pairs
near_from : (a : Asked) (s : ℕ) (rows : List (List ℤ)) → rows ≡ drop s a.collection.series
    → flat_map (near_series a) (range_with_len s (length rows))
    ≡ filter (λ p. nat_le p.distance a.radius) (pairs_from s rows a.query)
near_from a s [] e = refl
near_from a s (xs ∷ rows) e =
    let all = a.collection.series in
    let zero_more : s + 0 ≡ s = omega arith in
    let here : series_at a.collection s ≡ xs =
    ap (λ n. get_or all n []) (sym zero_more) ∙ sym (get_or-drop s all 0 [])
    ∙ sym (ap (λ l. get_or l 0 []) e) in
    let rest : rows ≡ drop (s + 1) all = ap (λ l. drop 1 l) e ∙ drop-drop 1 s all in
    let near = λ (ys : List ℤ) (ps : List Pair).
    cond (nat_le (squared_distance ys a.query) a.radius) (pair_of a.query s ys ∷ []) [] ++ ps in
    ap (λ ys. near ys (flat_map (near_series a) (range_with_len (s + 1) (length rows)))) here
    ∙ ap (near xs) (near_from a (s + 1) rows rest)
    ∙ in_front (nat_le (squared_distance xs a.query) a.radius) (pair_of a.query s xs)
    (filter (λ p. nat_le p.distance a.radius) (pairs_from (s + 1) rows a.query))

-- what workers found is what is near below what their passes drew
pub team_found : (a : Asked) (ix : IndexParts) (size : ℕ) (passes : List Pass) (made : List (Vec Pair Global))
    → EachDid (λ p m. IsDone a ix size p m.items) passes made
    → flat_map (λ own. own.items) made ≡ near_drawn a ix size (all_draws passes)
team_found a ix size passes made did =
    same_pieces_made (λ p m. IsDone a ix size p m.items) (λ (m : Vec Pair Global). m.items)
    (λ (p : Pass). near_drawn a ix size p.draws) (λ p m d. d.all_near) passes made did
    ∙ pieces_of_pieces (near_group a ix size) (λ (p : Pass). p.draws) passes

module _ (a : Asked) (ix : IndexParts) (view : View) (is : IsAsked a ix view) where
  -- what is near below all root children in a row is what is near of all members, leaf by leaf
  near_all_roots : flat_map (near_root a ix) (range_with_len 0 (length ix.roots))
      ≡ flat_map (near_series a) (all_numbers ix.leaves)
  near_all_roots =
      let below = λ (node : Node). near_leaves a ix.leaves (leaf_numbers node) in
      let of_leaf = λ (l : ℕ). near_members a (leaf_at ix.leaves l).members in
      ap (λ n. flat_map (near_root a ix) (range_with_len 0 n)) (sym is.index.one_node_each)
      ∙ pieces_by_place below ix.nodes (Leaf 0)
      ∙ pieces_of_pieces of_leaf leaf_numbers ix.nodes
      ∙ ap (flat_map of_leaf) is.index.in_order
      ∙ pieces_by_place (λ (x : TreeLeaf). near_members a x.members) ix.leaves no_leaf
      ∙ near_by_number a ix.leaves

  -- what is near below all groups of them is the same
  near_all_groups : (size : ℕ) → 1 ≤ size
      → near_drawn a ix size (range_with_len 0 (group_count size (length ix.roots)))
      ≡ flat_map (near_series a) (all_numbers ix.leaves)
  near_all_groups size some =
      pieces_of_pieces (near_root a ix) (group_of size (length ix.roots))
      (range_with_len 0 (group_count size (length ix.roots)))
      ∙ ap (flat_map (near_root a ix)) (all_groups size (length ix.roots) some)
      ∙ near_all_roots

  -- what is near of all members is what is near of all series
  near_all_members : IsPermutation (flat_map (near_series a) (all_numbers ix.leaves))
      (flat_map (near_series a) (range_with_len 0 (length a.collection.series)))
  near_all_members =
      same_pieces (near_series a) (all_numbers ix.leaves)
      (range_with_len 0 (length a.collection.series))
      (λ i. times_in_leaves i ix.leaves ∙ is.fits.tree.each_once i
      ∙ sym (times_below i (length a.collection.series)))

  -- what all passes found, in order, is all that the collection has within the radius
  pub all_found : (size : ℕ) (passes : List Pass) (found sorted : List Pair) → 1 ≤ size
      → EachDrawnOnce (group_count size (length ix.roots)) passes → 0 < length passes
      → All (λ p. p.ended ≡ true) passes → found ≡ near_drawn a ix size (all_draws passes)
      → IsPermutation found sorted → InOrder sorted
      → sorted ≡ within a.collection a.query a.radius
  all_found size passes found sorted sized drawn some ended is_found moved up =
      let n = group_count size (length ix.roots) in
      let all = all_drawn n passes drawn some ended in
      let groups = range_with_len 0 n in
      let series = range_with_len 0 (length a.collection.series) in
      let near = filter (λ (p : Pair). nat_le p.distance a.radius) (pairs_of a.collection a.query) in
      let by_groups : IsPermutation (near_drawn a ix size (all_draws passes)) (near_drawn a ix size groups) =
      same_pieces (near_group a ix size) (all_draws passes) groups
      (λ x. times_all x passes ∙ drawn.once x ∙ ap (once_below x) all ∙ sym (times_below x n)) in
      let whole : flat_map (near_series a) series ≡ near =
      near_from a 0 a.collection.series refl in
      let perm : IsPermutation found near =
      subst (λ l. IsPermutation l near) (sym is_found)
      (subst (λ l. IsPermutation (near_drawn a ix size (all_draws passes)) l) whole
      (IsPermutation-trans _ _ _ by_groups
      (subst (λ l. IsPermutation l (flat_map (near_series a) series)) (sym (near_all_groups size sized))
      near_all_members))) in
      sorted_is_ascending found sorted moved up
      ∙ permuted_ascending found near perm
      ∙ sym (within-ascending a.collection a.query a.radius)

  -- what a team found, in order, is all that the collection has within the radius
  pub found_by_team : (size : ℕ) (passes : List Pass) (made : List (Vec Pair Global)) (found sorted : List Pair)
      → 1 ≤ size → EachDrawnOnce (group_count size (length ix.roots)) passes → 0 < length passes
      → EachDid (λ p m. IsDone a ix size p m.items) passes made → found ≡ flat_map (λ own. own.items) made
      → IsPermutation found sorted → InOrder sorted
      → sorted ≡ within a.collection a.query a.radius
  found_by_team size passes made found sorted sized drawn some did all moved up =
      let Did = λ (p : Pass) (m : Vec Pair Global). IsDone a ix size p m.items in
      all_found size passes found sorted sized drawn some
      (passes_have Did (λ (p : Pass). p.ended ≡ true) (λ p m d. d.ended) passes made did)
      (all ∙ team_found a ix size passes made did) moved up
