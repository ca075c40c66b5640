-- Where the series of an index that fits a collection are members: each of one leaf, once (`home_of`, `one_leaf`,
-- `home_at_most_once`), and a member is a series (`member_is_real`).
use Rattle.std.proofs.Common.{◌≡◌, ℕ, ◌<◌, ◌≤◌, length, ap, ⊎_elim, arith, All}
use Rattle.std.proofs.Math.ListN.{get_or-eq_default}
use Rattle.std.proofs.lemmas.Bool.{cases_lt}
use Rattle.std.proofs.lemmas.List.Elements.{All-get_or}
use Rattle.list_totals.specs.Totals.{times}
use Rattle.list_totals.proofs.Places.{total_place, total_two, total_some}
use Rattle.list_totals.proofs.Totals.{once_below_yes, once_below_low, once_below_most}
use Rattle.series_core.specs.Collection.{Collection}
use Rattle.isax_word.specs.declared.layout.Layout.{Layout}
use Rattle.subtree_build.specs.Fits.{Fits, MembersAreSeries, times_in}
use Rattle.subtree_build.specs.Index.{IndexParts, leaf_at, no_leaf}
use Rattle.subtree_build.proofs.Bounds.{member_is_series}
use Rattle.search_task.specs.Questions.{leaf_series, Question, CanBeSearched, IsMemberOf}

module _ (c : Collection) (layout : Layout) (ix : IndexParts) (fits : Fits c layout ix) where
  -- past the last leaf there are no members
  pub home_is_leaf : (l s : ℕ) → 0 < times s (leaf_series ix l) → l < length ix.leaves
  home_is_leaf l s some = ⊎_elim
      (λ (h : l < length ix.leaves). h)
      (λ (h : length ix.leaves ≤ l). absurd (past h))
      (cases_lt l (length ix.leaves))
    where
      past : length ix.leaves ≤ l → ⊥
      past h =
          let none : times s (leaf_series ix l) ≡ 0 =
          ap (times_in s) (get_or-eq_default ix.leaves no_leaf h) in
          omega arith

  -- a member is a series
  pub member_is_real : (l s : ℕ) → l < length ix.leaves → 0 < times s (leaf_series ix l)
      → s < length c.series
  member_is_real l s real some =
      let part = total_place (times_in s) ix.leaves l no_leaf real in
      once_below_low s (length c.series) (omega (arith, some, part, fits.tree.each_once s))

  -- each series is a member of some leaf
  pub home_of : (s : ℕ) → s < length c.series
      → (l : ℕ) × (l < length ix.leaves) × (0 < times s (leaf_series ix l))
  home_of s low =
      let one = once_below_yes s (length c.series) low in
      let all = fits.tree.each_once s in
      total_some (times_in s) ix.leaves no_leaf (omega arith)

  -- no series is a member of two leaves
  no_two_homes : (l m s : ℕ) → l < m → 0 < times s (leaf_series ix l) → 0 < times s (leaf_series ix m)
      → ⊥
  no_two_homes l m s before here there =
      let both = total_two (times_in s) ix.leaves l m no_leaf before (home_is_leaf m s there) in
      let most = once_below_most s (length c.series) in
      omega (arith, here, there, both, most, fits.tree.each_once s)

  -- a series is a member of one leaf alone
  pub one_leaf : (l m s : ℕ) → 0 < times s (leaf_series ix l) → 0 < times s (leaf_series ix m) → l ≡ m
  one_leaf l m s here there = ⊎_elim
      (λ (h : l < m). absurd (no_two_homes l m s h here there))
      (λ (h : m ≤ l). ⊎_elim
      (λ (b : m < l). absurd (no_two_homes m l s b there here))
      (λ (b : l ≤ m). omega arith)
      (cases_lt m l))
      (cases_lt l m)

  -- and of that leaf once
  pub home_at_most_once : (l s : ℕ) → times s (leaf_series ix l) ≤ 1
  home_at_most_once l s = ⊎_elim
      (λ (h : 0 < times s (leaf_series ix l)).
      let part = total_place (times_in s) ix.leaves l no_leaf (home_is_leaf l s h) in
      let most = once_below_most s (length c.series) in
      omega (arith, part, most, fits.tree.each_once s))
      (λ (h : times s (leaf_series ix l) ≤ 0). omega arith)
      (cases_lt 0 (times s (leaf_series ix l)))

-- the members of a leaf are members of the question's collection
pub leaf_is_members : (a : Question) (ix : IndexParts) (l : ℕ) → CanBeSearched a ix → l < length ix.leaves
    → All (IsMemberOf a) (leaf_at ix.leaves l).members
leaf_is_members a ix l searched real k d inside = record {
  series = member_is_series a.collection a.layout ix l k d searched.fits real inside;
  word =
      All-get_or (MembersAreSeries a.collection a.layout) ix.leaves l no_leaf real
      searched.fits.tree.own_words k d inside;
}
