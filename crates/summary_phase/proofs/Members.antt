-- The members of a collection by their places: there is one for each series, with its number.
use Rattle.std.proofs.Common.{◌≡◌, ℕ, ℤ, zero, suc, ◌+◌, ◌<◌, List, [], ◌∷◌, length, get_or, refl, sym, ap, ◌∙◌, arith}
use Rattle.std.specs.Prelude.{◌^◌, Some, slice_get}
use Rattle.std.proofs.lemmas.List.FromFn.{length-map-range_with_len}
use Rattle.std.proofs.lemmas.Option.{get_or_from_slice_get}
use Rattle.series_core.specs.Collection.{Collection, IsCollection}
use Rattle.isax_word.specs.declared.layout.Layout.{Layout}
use Rattle.isax_word.specs.FullWord.{full_word, segment_symbol}
use Rattle.summary_phase.specs.Members.{member_of, members_from, members_of}
use Rattle.isax_word.specs.declared.member.Member.{Member}

module _ (layout : Layout) where
  -- there are as many members as series
  pub length-members_from : (s : ℕ) (rows : List (List ℤ))
      → length (members_from layout s rows) ≡ length rows
  length-members_from s [] = refl
  length-members_from s (xs ∷ rows) = ap suc (length-members_from (s + 1) rows)

  -- the member at place i is that of series s + i
  pub get_or-members_from : (s : ℕ) (rows : List (List ℤ)) (i : ℕ) (d : Member) → i < length rows
      → get_or (members_from layout s rows) i d ≡ member_of layout (s + i) (get_or rows i [])
  get_or-members_from s [] i d low = absurd (omega arith)
  get_or-members_from s (xs ∷ rows) zero d low =
      let e : s ≡ s + 0 = omega arith in ap (λ n. member_of layout n xs) e
  get_or-members_from s (xs ∷ rows) (suc i) d low =
      let e : s + 1 + i ≡ s + suc i = omega arith in
      get_or-members_from (s + 1) rows i d (omega arith)
      ∙ ap (λ n. member_of layout n (get_or rows i [])) e

  module _ (c : Collection) where
    -- there are as many members as series
    pub length-members_of : length (members_of layout c) ≡ length c.series
    length-members_of = length-members_from 0 c.series

    -- the member at place i is that of series i
    pub get_or-members_of : (i : ℕ) (d : Member) → i < length c.series
        → get_or (members_of layout c) i d ≡ member_of layout i (get_or c.series i [])
    get_or-members_of i d low =
        let e : 0 + i ≡ i = omega arith in
        get_or-members_from 0 c.series i d low
        ∙ ap (λ n. member_of layout n (get_or c.series i [])) e

-- a series of the collection has its length
pub length-row : (c : Collection) → IsCollection c → (i : ℕ) (row : List ℤ) → i < length c.series
    → slice_get c.series i ≡ Some row → length row ≡ c.points
length-row c sound i row low is =
    ap (λ (xs : List ℤ). length xs) (sym (get_or_from_slice_get c.series i row [] is))
    ∙ (sound.each i [] low).points

-- a full word has one symbol for each segment, so that its root number is below 2 to their number
pub root_is_below : (layout : Layout) (row : List ℤ) (full : List ℕ) (root roots : ℕ)
    → full ≡ full_word layout row → root < 2 ^ length full → roots ≡ 2 ^ layout.cuts.segments
    → root < roots
root_is_below layout row full root roots is low all =
    let long : length full ≡ layout.cuts.segments = ap (λ (xs : List ℕ). length xs) is
    ∙ length-map-range_with_len (segment_symbol layout row) 0 layout.cuts.segments in
    let same : 2 ^ length full ≡ 2 ^ layout.cuts.segments = ap (λ k. 2 ^ k) long in
    omega arith
