-- The bound of a leaf is at least that of each node above it (`leaves_no_nearer`), and at most the distance of each
-- of its members (`members_no_nearer`).
use Rattle.std.proofs.Common.{◌≡◌, ℕ, ◌<◌, ◌≤◌, ℤ, List, [], ◌∷◌, length, true, refl, sym, ap, ◌∙◌, subst, arith, All, Bool, false}
use Rattle.std.specs.Prelude.{slice_index_or}
use Rattle.std.specs.List.{range_with_len}
use Rattle.std.proofs.lemmas.Bool.{and_parts}
use Rattle.std.proofs.lemmas.List.{length-map, get_or-map}
use Rattle.std.proofs.lemmas.List.Elements.{All-nil, All-cons, All-append, All-get_or, All-weaker}
use Rattle.std.proofs.lemmas.List.FromFn.{length-range_with_len}
use Rattle.list_totals.specs.Totals.{times}
use Rattle.list_totals.proofs.Totals.{once_below_low}
use Rattle.list_totals.proofs.Places.{total_place, times_at}
use Rattle.series_core.specs.Collection.{Collection, IsCollection, IsSeries}
use Rattle.series_core.specs.Distance.{squared_distance}
use Rattle.segment_sums.specs.Division.{IsDivision}
use Rattle.isax_word.specs.declared.layout.Layout.{Layout}
use Rattle.isax_word.specs.declared.word.Part.{Part}
use Rattle.isax_word.specs.FullWord.{full_word, segment_symbol}
use Rattle.isax_word.specs.Word.{IsWord, IsPart, word_contains, child_word}
use Rattle.isax_word.proofs.Words.{IsWord-child_word}
use Rattle.lower_bound.specs.Bound.{View, IsView, view_of, word_bound}
use Rattle.lower_bound.proofs.Bounds.{child_bound, bound_below_distance}
use Rattle.isax_word.specs.declared.member.Member.{Member}
use Rattle.subtree_build.specs.declared.leaf.TreeLeaf.{TreeLeaf}
use Rattle.subtree_build.specs.Tree.{Tree, absent, leaf, split, leaves_of}
use Rattle.subtree_build.specs.Index.{IndexParts, StandsUnder, leaf_at, no_leaf}
use Rattle.subtree_build.specs.Members.{series_at, numbers_of}
use Rattle.subtree_build.specs.Fits.{Fits, times_in, MembersAreSeries, WordContainsMembers}

-- the bound of leaf l is no less than this one
abbrev pub IsNoNearer : View → List TreeLeaf → ℕ → ℕ → Type 0
IsNoNearer view leaves bound l = bound ≤ word_bound view (leaf_at leaves l).word

-- the bound of each leaf below a node is at least the node's
pub leaves_no_nearer : (view : View) (leaves : List TreeLeaf) (word : List Part) (t : Tree ℕ)
    → IsView view → IsWord word → StandsUnder leaves word t
    → All (IsNoNearer view leaves (word_bound view word)) (leaves_of t)
leaves_no_nearer view leaves word absent is kept stands = All-nil _
leaves_no_nearer view leaves word (leaf l) is kept stands =
    All-cons (IsNoNearer view leaves (word_bound view word)) l []
    (subst (λ w. word_bound view word ≤ word_bound view w) (sym stands.1) (omega arith))
    (All-nil _)
leaves_no_nearer view leaves word (split segment low high) is kept stands =
    let parts = stands.0 in
    let side = λ (t : Tree ℕ) (b : Bool) (below : StandsUnder leaves (child_word word segment b) t)
    (all : All (IsNoNearer view leaves (word_bound view (child_word word segment b))) (leaves_of t)).
    All-weaker (IsNoNearer view leaves (word_bound view (child_word word segment b)))
    (IsNoNearer view leaves (word_bound view word))
    (λ l h. omega (arith, h, child_bound view 0 word segment b is kept.parts parts.used parts.divisible))
    (leaves_of t) all in
    All-append (IsNoNearer view leaves (word_bound view word)) (leaves_of low) (leaves_of high)
    (side low false stands.1
    (leaves_no_nearer view leaves (child_word word segment false) low is
    (IsWord-child_word word segment false kept parts.used parts.divisible) stands.1))
    (side high true stands.2
    (leaves_no_nearer view leaves (child_word word segment true) high is
    (IsWord-child_word word segment true kept parts.used parts.divisible) stands.2))

-- a word has as many parts as a full word that it contains has symbols
pub length-contained : (word : List Part) (symbols : List ℕ) → word_contains word symbols ≡ true
    → length word ≡ length symbols
length-contained [] [] h = refl
length-contained [] (s ∷ symbols) h = cc
length-contained (p ∷ word) [] h = cc
length-contained (p ∷ word) (s ∷ symbols) h =
    let rest = length-contained word symbols (and_parts _ _ h).1 in omega arith

-- a full word has as many symbols as there are segments
pub length-full_word : (layout : Layout) (row : List ℤ)
    → length (full_word layout row) ≡ layout.cuts.segments
length-full_word layout row =
    length-map (range_with_len 0 layout.cuts.segments) (segment_symbol layout row)
    ∙ length-range_with_len 0 layout.cuts.segments

-- the number of a member of an index that fits is that of a series
pub member_is_series : (c : Collection) (layout : Layout) (ix : IndexParts) (l k : ℕ) (d : Member)
    → Fits c layout ix → l < length ix.leaves → k < length (leaf_at ix.leaves l).members
    → (slice_index_or (leaf_at ix.leaves l).members k d).number < length c.series
member_is_series c layout ix l k d fits in_leaves in_members =
    let members = (leaf_at ix.leaves l).members in
    let i = (slice_index_or members k d).number in
    let here : 0 < times i (numbers_of members)
    = times_at i (numbers_of members) k d.number
    (omega (arith, length-map members (λ (m : Member). m.number)))
    (get_or-map (λ (m : Member). m.number) members k d d.number in_members) in
    let there = total_place (times_in i) ix.leaves l no_leaf in_leaves in
    once_below_low i (length c.series) (omega (arith, here, there, fits.tree.each_once i))

-- the bound of a leaf is at most the distance of each of its members
pub members_no_nearer : (c : Collection) (layout : Layout) (ix : IndexParts) (l : ℕ) (q : List ℤ)
    → Fits c layout ix → IsCollection c → IsDivision layout.cuts → c.points ≡ layout.cuts.row_length
    → length q ≡ layout.cuts.row_length → l < length ix.leaves
    → All IsPart (leaf_at ix.leaves l).word
    → All (λ m. word_bound (view_of layout q) (leaf_at ix.leaves l).word
    ≤ squared_distance (series_at c m.number) q)
    (leaf_at ix.leaves l).members
members_no_nearer c layout ix l q fits kept cuts points whole in_leaves parts k d in_members =
    let word = (leaf_at ix.leaves l).word in
    let members = (leaf_at ix.leaves l).members in
    let m = slice_index_or members k d in
    let series = series_at c m.number in
    let is : m.full ≡ full_word layout series
    = All-get_or (MembersAreSeries c layout) ix.leaves l no_leaf in_leaves fits.tree.own_words k d in_members in
    let holds : word_contains word m.full ≡ true
    = All-get_or WordContainsMembers ix.leaves l no_leaf in_leaves fits.tree.contained k d in_members in
    let contained : word_contains word (full_word layout series) ≡ true
    = ap (λ f. word_contains word f) (sym is) ∙ holds in
    let is_series : IsSeries c.points series
    = All-get_or (IsSeries c.points) c.series m.number []
    (member_is_series c layout ix l k d fits in_leaves in_members) kept.each in
    bound_below_distance layout series q word cuts (is_series.points ∙ points) whole parts
    (length-contained word (full_word layout series) contained ∙ length-full_word layout series) contained
