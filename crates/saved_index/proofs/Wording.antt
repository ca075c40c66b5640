-- Members that are made of numbers: they have these numbers (`lists_back`), they are series (`are_series`) with their own words
-- (`have_words`), of the layout's number of segments (`have_segments`); and what holds of each leaf (`each_leaf`).
use Rattle.std.proofs.Common.{◌≡◌, ℕ, ◌<◌, List, [], ◌∷◌, length, map, get_or, refl, sym, ap, ◌∙◌, subst, arith, All}
use Rattle.std.proofs.Math.ListN.{get_or-map}
use Rattle.std.proofs.lemmas.List.{length-map, get_or-map as word_there}
use Rattle.std.proofs.lemmas.List.Elements.{All-map}
use Rattle.series_core.specs.Collection.{Collection}
use Rattle.isax_word.specs.declared.layout.Layout.{Layout}
use Rattle.isax_word.specs.declared.member.Member.{Member}
use Rattle.isax_word.specs.FullWord.{full_word}
use Rattle.subtree_build.specs.declared.leaf.TreeLeaf.{TreeLeaf}
use Rattle.subtree_build.specs.Fits.{HasItsWord, MembersAreSeries}
use Rattle.subtree_build.specs.Members.{numbers_of, series_at}
use Rattle.subtree_build.proofs.Bounds.{length-full_word}
use Rattle.saved_index.specs.Membership.{members_in_lists, with_word, words_of}
use Rattle.saved_index.proofs.Below.{AreBelow}

-- what holds of what each leaf has holds leaf by leaf
pub each_leaf : {Y : Type 0} (P : Y → Type 0) (f : TreeLeaf → Y) (leaves : List TreeLeaf) → All P (map f leaves)
    → All (λ (x : TreeLeaf). P (f x)) leaves
each_leaf P f leaves all k d inside =
    subst P (get_or-map f leaves k d) (all k (f d) (omega (arith, inside, length-map leaves f)))

-- what holds of the members of each list holds of those of each leaf
leaves_have : (P : List Member → Type 0) (leaves : List TreeLeaf) → All P (map (λ x. x.members) leaves)
    → All (λ (x : TreeLeaf). P x.members) leaves
leaves_have P leaves all = each_leaf P (λ (x : TreeLeaf). x.members) leaves all

numbers_back : (words : List (List ℕ)) (numbers : List ℕ) → numbers_of (map (with_word words) numbers) ≡ numbers
numbers_back words [] = refl
numbers_back words (n ∷ numbers) = ap (λ ns. n ∷ ns) (numbers_back words numbers)

all_back : (words lists : List (List ℕ)) → map numbers_of (members_in_lists words lists) ≡ lists
all_back words [] = refl
all_back words (l ∷ lists) =
    ap (λ ns. ns ∷ map numbers_of (members_in_lists words lists)) (numbers_back words l)
    ∙ ap (λ ls. l ∷ ls) (all_back words lists)

map_twice : (leaves : List TreeLeaf)
    → map (λ (x : TreeLeaf). numbers_of x.members) leaves ≡ map numbers_of (map (λ (x : TreeLeaf). x.members) leaves)
map_twice [] = refl
map_twice (x ∷ leaves) = ap (λ ns. numbers_of x.members ∷ ns) (map_twice leaves)

module _ (c : Collection) (layout : Layout) (lists : List (List ℕ)) (leaves : List TreeLeaf)
    (are : map (λ (x : TreeLeaf). x.members) leaves ≡ members_in_lists (words_of c layout) lists) where
  -- the members of the leaves have these numbers
  pub lists_back : map (λ (x : TreeLeaf). numbers_of x.members) leaves ≡ lists
  lists_back = map_twice leaves ∙ ap (map numbers_of) are ∙ all_back (words_of c layout) lists

  -- what holds of the member of each number holds of the members of each leaf
  each_member : (P : Member → Type 0) → All (λ ns. All (λ n. P (with_word (words_of c layout) n)) ns) lists
      → All (λ (x : TreeLeaf). All P x.members) leaves
  each_member P each =
      let words = words_of c layout in
      let Each : List Member → Type 0 = λ ms. All P ms in
      let made : All Each (members_in_lists words lists)
      = All-map Each (λ (ns : List ℕ). map (with_word words) ns) lists
      (λ k d inside. All-map P (with_word words) (get_or lists k d) (each k d inside)) in
      let All' : List (List Member) → Type 0 = λ ls. All Each ls in
      leaves_have Each leaves (subst All' (sym are) made)

  module _ (below : All (AreBelow (length c.series)) lists) where
    -- each member is a series
    pub are_series : All (λ (x : TreeLeaf). All (λ m. m.number < length c.series) x.members) leaves
    are_series = each_member (λ m. m.number < length c.series) below

    own_word : (n : ℕ) → n < length c.series → HasItsWord c layout (with_word (words_of c layout) n)
    own_word n low = word_there (full_word layout) c.series n [] [] low

    -- each member has its series' word
    pub have_words : All (MembersAreSeries c layout) leaves
    have_words =
        each_member (HasItsWord c layout)
        (λ k d inside i e within. own_word (get_or (get_or lists k d) i e) (below k d inside i e within))

    -- each member's word has the layout's number of segments
    pub have_segments : All (λ (x : TreeLeaf). All (λ m. length m.full ≡ layout.cuts.segments) x.members) leaves
    have_segments = λ k d inside i e within.
        let m = get_or (get_or leaves k d).members i e in
        ap (λ (xs : List ℕ). length xs) (have_words k d inside i e within)
        ∙ length-full_word layout (series_at c m.number)
