-- The tree of an index whose members weigh 1 for each series fits the collection (`tree_by_weight`), and the index with the means of their
-- series does (`fits_by_weight`).
use Rattle.std.proofs.Common.{◌≡◌, ℕ, zero, suc, ◌+◌, ◌*◌, ◌<◌, ◌≤◌, Bool, true, false, List, [], ◌∷◌, length, map, get_or, eqb, None, Some, refl, sym, ap, ◌∙◌, subst, ⊎_elim, arith, All}
use Rattle.std.specs.Prelude.{◌==◌, find, if◌then◌else◌}
use Rattle.std.specs.List.{range_with_len}
use Rattle.std.proofs.lemmas.Bool.{cases_Bool, cases_eq, cases_lt, cond-true, cond-false, cond_both, eq-eqb, eqb-true, not-false}
use Rattle.std.proofs.lemmas.Bool.Decides.{nat_tests}
use Rattle.std.proofs.lemmas.List.Elements.{All-head, All-tail}
use Rattle.std.proofs.lemmas.Option.{none-some}
use Rattle.list_totals.specs.Totals.{total, times, one_if_same, once_below}
use Rattle.list_totals.proofs.Totals.{once_below_yes}
use Rattle.series_core.specs.Collection.{Collection}
use Rattle.isax_word.specs.declared.layout.Layout.{Layout}
use Rattle.isax_word.specs.declared.member.Member.{Member}
use Rattle.isax_word.specs.declared.word.Part.{Part}
use Rattle.isax_word.specs.Word.{word_contains}
use Rattle.subtree_build.specs.declared.leaf.TreeLeaf.{TreeLeaf}
use Rattle.subtree_build.specs.Assembly.{HasMeansOf}
use Rattle.subtree_build.specs.Fits.{Fits, MembersAreSeries, TreeFits, WordContainsMembers, times_in}
use Rattle.subtree_build.specs.Index.{IndexParts}
use Rattle.subtree_build.specs.Means.{leaf_means, leaf_codes}
use Rattle.subtree_build.specs.Members.{numbers_of}
use Rattle.subtree_build.proofs.Fitting.{with_tables_fits}
use Rattle.saved_index.specs.Membership.{first_unfit_of, is_unfit, leaf_weight, weight, weight_for}

-- where none of the numbers in a row is found, none passes the test
none_passes : (p : ℕ → Bool) (a n k : ℕ) → find p (range_with_len a n) ≡ None → a ≤ k → k < a + n → p k ≡ false
none_passes p a zero k none from to = absurd (omega arith)
none_passes p a (suc n) k none from to =
    let rest = find p (range_with_len (a + 1) n) in
    ⊎_elim
    (λ yes. absurd (none-some a (sym none ∙ cond-true (p a) (Some a) rest yes)))
    (λ no.
    ⊎_elim (λ same. ap p (sym same) ∙ no)
    (λ other. none_passes p (a + 1) n k (sym (cond-false (p a) (Some a) rest no) ∙ none) (omega (arith, other)) (omega arith))
    (cases_eq a k))
    (cases_Bool (p a))

-- an item's part is at most the total
item_part : {X : Type 0} (f : X → ℕ) (xs : List X) (k : ℕ) (d : X) → k < length xs → f (get_or xs k d) ≤ total f xs
item_part f [] k d inside = absurd (omega (arith, inside))
item_part f (x ∷ xs) zero d inside = omega arith
item_part f (x ∷ xs) (suc k) d inside = omega (arith, item_part f xs k d (omega (arith, inside)))

-- a weight is 1 or 2
weight_bounds : (word : List Part) (m : Member) → (1 ≤ weight word m) × (weight word m ≤ 2)
weight_bounds word m =
    cond_both (word_contains word m.full) 1 2 (λ k. (1 ≤ k) × (k ≤ 2)) (λ _. (omega arith, omega arith))
    (λ _. (omega arith, omega arith))

-- members weigh at least once and at most twice as much as there are
module _ (i : ℕ) where
  one_bounds : (one w : ℕ) → one ≤ 1 → 1 ≤ w → w ≤ 2 → (one ≤ one * w) × (one * w ≤ 2 * one)
  one_bounds zero w few low high = (omega arith, omega arith)
  one_bounds (suc zero) w few low high = (omega arith, omega arith)
  one_bounds (suc (suc k)) w few low high = absurd (omega arith)

  one_at_most : (n : ℕ) → one_if_same i n ≤ 1
  one_at_most n = cond_both (eqb i n) 1 0 (λ k. k ≤ 1) (λ _. omega arith) (λ _. omega arith)

  member_bounds : (word : List Part) (ms : List Member) → (times i (numbers_of ms) ≤ total (weight_for i word) ms)
      × (total (weight_for i word) ms ≤ 2 * times i (numbers_of ms))
  member_bounds word [] = (omega arith, omega arith)
  member_bounds word (m ∷ ms) =
      let one = one_if_same i m.number in
      let w = weight_bounds word m in
      let here = one_bounds one (weight word m) (one_at_most m.number) w.0 w.1 in
      let rest = member_bounds word ms in
      (omega (arith, here.0, rest.0), omega (arith, here.1, rest.1))

  leaf_bounds : (leaves : List TreeLeaf) → (total (times_in i) leaves ≤ total (leaf_weight i) leaves)
      × (total (leaf_weight i) leaves ≤ 2 * total (times_in i) leaves)
  leaf_bounds [] = (omega arith, omega arith)
  leaf_bounds (x ∷ leaves) =
      let here = member_bounds x.word x.members in
      let rest = leaf_bounds leaves in
      (omega (arith, here.0, rest.0), omega (arith, here.1, rest.1))

  -- a number above those of all members is that of none
  none_above : (n : ℕ) (ms : List Member) → n ≤ i → All (λ m. m.number < n) ms → times i (numbers_of ms) ≡ 0
  none_above n [] high below = refl
  none_above n (m ∷ ms) high below =
      let Below : Member → Type 0 = λ o. o.number < n in
      let low = All-head Below m ms below in
      let other : one_if_same i m.number ≡ 0 = apart m.number (omega (arith, low, high)) in
      omega (arith, other, none_above n ms high (All-tail Below m ms below))
    where
      apart : (n : ℕ) → n < i → one_if_same i n ≡ 0
      apart n less = grind (arith, nat_tests)

  none_in_leaves : (n : ℕ) (leaves : List TreeLeaf) → n ≤ i → All (λ (x : TreeLeaf). All (λ m. m.number < n) x.members) leaves
      → total (times_in i) leaves ≡ 0
  none_in_leaves n [] high below = refl
  none_in_leaves n (x ∷ leaves) high below =
      let Below : TreeLeaf → Type 0 = λ y. All (λ m. m.number < n) y.members in
      omega (
        arith,
        none_above n x.members high (All-head Below x leaves below),
        none_in_leaves n leaves high (All-tail Below x leaves below),
      )

module _ (n : ℕ) (leaves : List TreeLeaf) (below : All (λ (x : TreeLeaf). All (λ m. m.number < n) x.members) leaves)
    (none : first_unfit_of leaves n ≡ None) where
  -- the members of all leaves weigh 1 for each series
  weighs_one : (i : ℕ) → i < n → total (leaf_weight i) leaves ≡ 1
  weighs_one i low =
      eqb-true (total (leaf_weight i) leaves) 1
      (not-false (total (leaf_weight i) leaves == 1) (none_passes (is_unfit leaves) 0 n i none (omega arith) (omega (arith, low))))

  -- so each number of a series is that of one member, and no other is
  is_once : (i : ℕ) → total (times_in i) leaves ≡ once_below i n
  is_once i =
      ⊎_elim
      (λ low. let bounds = leaf_bounds i leaves in
      omega (arith, bounds.0, bounds.1, weighs_one i low, once_below_yes i n low))
      (λ high. none_in_leaves i n leaves high below ∙ sym (none_from i n high))
      (cases_lt i n)
    where
      none_from : (i n : ℕ) → n ≤ i → once_below i n ≡ 0
      none_from i n high = grind (arith, nat_tests)

  -- and each leaf's word contains the full words of its members
  all_contained : All WordContainsMembers leaves
  all_contained k d inside j e within =
      let x = get_or leaves k d in
      let m = get_or x.members j e in
      let i = m.number in
      let same : one_if_same i i ≡ 1 = cond-true (eqb i i) 1 0 (eq-eqb i i refl) in
      let own : weight_for i x.word m ≡ 1 * weight x.word m = ap (λ one. one * weight x.word m) same in
      let light : weight x.word m ≤ 1
      = omega (
        arith,
        own,
        item_part (weight_for i x.word) x.members j e within,
        item_part (leaf_weight i) leaves k d inside,
        weighs_one i (below k d inside j e within),
      ) in
      contains (word_contains x.word m.full) light
    where
      contains : (b : Bool) → (if b then 1 else 2) ≤ 1 → b ≡ true
      contains true light = refl
      contains false light = absurd (omega (arith, light))

-- the tree of such leaves fits
pub tree_by_weight : (c : Collection) (layout : Layout) (ix : IndexParts) → ix.segments ≡ layout.cuts.segments
    → All (MembersAreSeries c layout) ix.leaves
    → All (λ (x : TreeLeaf). All (λ m. m.number < length c.series) x.members) ix.leaves
    → first_unfit_of ix.leaves (length c.series) ≡ None → TreeFits c layout ix
tree_by_weight c layout ix segments own below none = record {
  segments = segments;
  each_once = λ i. is_once (length c.series) ix.leaves below none i;
  own_words = own;
  contained = all_contained (length c.series) ix.leaves below none;
}

-- an index of such leaves fits, with the means of their members' series
pub fits_by_weight : (c : Collection) (layout : Layout) (ix jx : IndexParts) → ix.segments ≡ layout.cuts.segments
    → All (MembersAreSeries c layout) ix.leaves
    → All (λ (x : TreeLeaf). All (λ m. m.number < length c.series) x.members) ix.leaves
    → first_unfit_of ix.leaves (length c.series) ≡ None → HasMeansOf c layout ix jx → Fits c layout jx
fits_by_weight c layout ix jx segments own below none means =
    let Own : List TreeLeaf → Type 0 = λ xs. All (MembersAreSeries c layout) xs in
    let Contained : List TreeLeaf → Type 0 = λ xs. All WordContainsMembers xs in
    let tree = tree_by_weight c layout ix segments own below none in
    with_tables_fits c layout jx (record {
      segments = means.segments ∙ tree.segments;
      each_once = λ i. ap (total (times_in i)) means.leaves ∙ tree.each_once i;
      own_words = subst Own (sym means.leaves) tree.own_words;
      contained = subst Contained (sym means.leaves) tree.contained;
    })
    (means.own_means ∙ ap (λ (ls : List TreeLeaf). Some (map (leaf_means c layout) ls)) (sym means.leaves))
    (means.own_codes ∙ ap (λ (ls : List TreeLeaf). Some (map (leaf_codes c) ls)) (sym means.leaves))
