-- The codes of members in one row, as of a leaf (`leaf_coded`): those of each stand behind those of the members before it (`codes_within`, `codes_at_one`), and they are
-- codes for the query (`codes_fit`), whose bound is at most the distance (`codes_are_below`). An index has them in one row for all its
-- members (`all_coded`), and so meets each series once (`each_met`).
use Rattle.std.proofs.Common.{◌≡◌, ◌∙◌, ◌+◌, ◌*◌, ◌<◌, ◌≤◌, ◌++◌, ℕ, zero, suc, ℤ, List, length, map, take, drop, get_or, [], ◌∷◌, refl, ap, sym, subst, arith}
use Rattle.std.specs.Prelude.{Some, flat_map, is_some, option_map, true}
use Rattle.std.specs.List.{All}
use Rattle.std.proofs.Math.Nat.{mul-le-mul_right}
use Rattle.std.proofs.lemmas.Grind.{flat_map-append}
use Rattle.std.proofs.lemmas.List.{length-take-le, map-append}
use Rattle.std.proofs.lemmas.List.Elements.{All-from_get_or, All-get_or}
use Rattle.list_totals.specs.Totals.{once_below, times, total}
use Rattle.list_totals.proofs.Totals.{times_append}
use Rattle.isax_word.specs.declared.layout.Layout.{Layout}
use Rattle.isax_word.specs.declared.member.Member.{Member}
use Rattle.row_codes.specs.Bound.{AreCodesFor, code_bound}
use Rattle.row_codes.specs.Rows.{Block, block_count, row_codes}
use Rattle.row_codes.proofs.Below.{bound_below, have_squares}
use Rattle.series_core.specs.Collection.{Collection}
use Rattle.series_core.specs.Distance.{squared_distance}
use Rattle.subtree_build.specs.declared.leaf.TreeLeaf.{TreeLeaf}
use Rattle.subtree_build.specs.Fits.{Fits as IndexFits, times_in}
use Rattle.subtree_build.specs.Index.{IndexParts, leaf_at, no_leaf}
use Rattle.subtree_build.specs.Means.{all_codes, coded_points, codes_at, codes_of_member, leaf_codes}
use Rattle.subtree_build.specs.Members.{numbers_of, series_at}
use Rattle.subtree_build.proofs.LeafWords.{all_pieces}
use Rattle.subtree_build.proofs.Meaning.{made_of_own}
use Rattle.subtree_build.proofs.MemberCodes.{coded_few, codes_of_leaf, codes_of_one, length_codes}
use Rattle.subtree_build.proofs.OfCollection.{IsReal}
use Rattle.search_task.specs.Questions.{CanBeSearched, IsMemberOf, IsQuestion, Question, coded_query}
use Rattle.search_task.specs.Scanning.{AreCoded}
use Rattle.search_task.proofs.Homes.{leaf_is_members}

-- members of a question are series of its collection
pub are_real : (a : Question) (members : List Member) → All (IsMemberOf a) members → All (IsReal a.collection) members
are_real a members are i d inside = (are i d inside).series

-- a leaf's members and their codes
pub leaf_coded : (a : Question) (ix : IndexParts) (l : ℕ) (members : List Member) (codes : List Block)
    → CanBeSearched a ix → is_some ix.codes ≡ true → l < length ix.leaves → members ≡ (leaf_at ix.leaves l).members
    → codes ≡ codes_at ix.codes l → AreCoded a members codes
leaf_coded a ix l members codes searched some real are is = record {
  members = subst (λ (ms : List Member). All (IsMemberOf a) ms) (sym are) (leaf_is_members a ix l searched real);
  codes = is ∙ codes_of_leaf a.collection a.layout ix l searched.fits some real ∙ ap (all_codes a.collection) (sym are);
}

module _ (a : Question) (members : List Member) (codes : List Block) (n i : ℕ) (question : IsQuestion a)
    (coded : AreCoded a members codes) (blocks : n ≡ block_count (coded_points a.collection)) (inside : i < length members) where
  -- each member is one of the collection
  pub member_at : (m : Member) → m ≡ get_or members i m → IsMemberOf a m
  member_at m item = subst (IsMemberOf a) (sym item) (All-get_or (IsMemberOf a) members i m inside coded.members)

  -- what stands for one member lies within what stands for all
  pub codes_within : i * n + n ≤ length codes
  codes_within =
      let long : length codes ≡ length members * n
      = ap (λ (cs : List Block). length cs) coded.codes
      ∙ length_codes a.collection question.collection members (are_real a members coded.members)
      ∙ ap (λ k. length members * k) (sym blocks) in
      let low : (i + 1) * n ≤ length members * n = mul-le-mul_right n (omega (arith, inside)) in
      omega (arith, low, long)

  -- and is what is its own
  pub codes_at_one : (own : List Block) (m : Member) → m ≡ get_or members i m → own ≡ take n (drop (i * n) codes)
      → own ≡ codes_of_member a.collection m
  codes_at_one own m item is =
      is
      ∙ ap (λ (cs : List Block). take n (drop (i * n) cs)) coded.codes
      ∙ ap (λ k. take k (drop (i * k) (all_codes a.collection members))) blocks
      ∙ codes_of_one a.collection question.collection members i m (are_real a members coded.members) inside item

-- the first values of two rows are no farther apart than all of them
front_below : (n : ℕ) (x q : List ℤ) → squared_distance (take n x) (take n q) ≤ squared_distance x q
front_below zero x q = omega arith
front_below (suc n) [] q = omega arith
front_below (suc n) (v ∷ x) [] = omega arith
front_below (suc n) (v ∷ x) (w ∷ q) = omega (arith, front_below n x q)

module _ (a : Question) (m : Member) (is : IsQuestion a) (real : m.number < length a.collection.series) where
  -- a member's series is as long as all are
  series_long : length (series_at a.collection m.number) ≡ a.collection.points
  series_long = (is.collection.each m.number [] real).points

  -- as many values of it are coded as are seen of the query
  coded_alike : length (take (coded_points a.collection) (series_at a.collection m.number)) ≡ length (coded_query a.collection a.query)
  coded_alike =
      let n = coded_points a.collection in
      let few = coded_few a.collection in
      length-take-le n (series_at a.collection m.number) (omega (arith, few, series_long))
      ∙ sym (length-take-le n a.query (omega (arith, few, is.query, is.points)))

  -- the codes of a member are codes for the query
  pub codes_fit : AreCodesFor (length (coded_query a.collection a.query)) (codes_of_member a.collection m)
  codes_fit =
      let c = a.collection in
      subst (λ n. AreCodesFor n (codes_of_member c m)) coded_alike (have_squares (take (coded_points c) (series_at c m.number)))

  -- and their bound is at most the distance
  pub codes_are_below : code_bound (coded_query a.collection a.query) (codes_of_member a.collection m)
      ≤ squared_distance (series_at a.collection m.number) a.query
  codes_are_below =
      let c = a.collection in
      let row = series_at c m.number in
      omega (arith, bound_below (take (coded_points c) row) (coded_query c a.query) coded_alike, front_below (coded_points c) row a.query)

-- the members of all leaves are members of the question's collection
pub all_are_members : (a : Question) (ix : IndexParts) → CanBeSearched a ix
    → All (IsMemberOf a) (flat_map (λ (x : TreeLeaf). x.members) ix.leaves)
all_are_members a ix searched =
    let P : TreeLeaf → Type 0 = λ x. All (IsMemberOf a) x.members in
    all_pieces (IsMemberOf a) (λ (x : TreeLeaf). x.members) ix.leaves
    (All-from_get_or P ix.leaves no_leaf (λ l real. leaf_is_members a ix l searched real))

-- the codes of leaves, put together, are those of their members, put together
of_leaves : (c : Collection) (leaves : List TreeLeaf)
    → flat_map (λ (cs : List Block). cs) (map (leaf_codes c) leaves)
    ≡ all_codes c (flat_map (λ (x : TreeLeaf). x.members) leaves)
of_leaves c [] = refl
of_leaves c (x ∷ leaves) =
    ap (λ (cs : List Block). leaf_codes c x ++ cs) (of_leaves c leaves)
    ∙ sym (flat_map-append (codes_of_member c) x.members (flat_map (λ (y : TreeLeaf). y.members) leaves))

-- so all members of an index that fits have their codes
pub all_coded : (a : Question) (ix : IndexParts) (members : List Member) (codes : List Block) → CanBeSearched a ix
    → members ≡ flat_map (λ (x : TreeLeaf). x.members) ix.leaves
    → Some codes ≡ option_map (flat_map (λ (cs : List Block). cs)) ix.codes → AreCoded a members codes
all_coded a ix members codes searched are is = record {
  members = subst (λ (ms : List Member). All (IsMemberOf a) ms) (sym are) (all_are_members a ix searched);
  codes = made_of_own (flat_map (λ (cs : List Block). cs)) ix.codes (map (leaf_codes a.collection) ix.leaves) codes is
      searched.fits.own_codes
      ∙ of_leaves a.collection ix.leaves
      ∙ ap (all_codes a.collection) (sym are);
}

-- a number stands among those of all members as often as in all leaves
times_in_all : (s : ℕ) (leaves : List TreeLeaf)
    → times s (numbers_of (flat_map (λ (x : TreeLeaf). x.members) leaves)) ≡ total (times_in s) leaves
times_in_all s [] = refl
times_in_all s (x ∷ leaves) =
    let rest : List Member = flat_map (λ (y : TreeLeaf). y.members) leaves in
    ap (times s) (map-append (λ (m : Member). m.number) x.members rest)
    ∙ times_append s (numbers_of x.members) (numbers_of rest)
    ∙ ap (λ n. times_in s x + n) (times_in_all s leaves)

-- so each series is met once among all members
pub each_met : (c : Collection) (layout : Layout) (ix : IndexParts) → IndexFits c layout ix → (s : ℕ)
    → times s (numbers_of (flat_map (λ (x : TreeLeaf). x.members) ix.leaves)) ≡ once_below s (length c.series)
each_met c layout ix fits s = times_in_all s ix.leaves ∙ fits.tree.each_once s
