-- Where the words of an index's leaves contain the full words of all members, no series is a member twice; so where there are as many
-- members as series, each is one once, and none is unfit (`none_unfit`).
use Rattle.std.proofs.Common.{◌≡◌, ℕ, zero, suc, ◌*◌, ◌<◌, ◌≤◌, true, false, List, [], ◌∷◌, length, get_or, eqb, None, Fits as FitsIn, w8, refl, sym, ap, ◌∙◌, subst, ⊎_elim, arith, All}
use Rattle.std.specs.Prelude.{◌==◌, flat_map, slice_index}
use Rattle.std.specs.List.Sorted.{IsStrictlyIncreasing}
use Rattle.std.proofs.lemmas.Bool.{both_ways, cases_Bool, cases_eq, cond-false, cond-true, eq-eqb, ne_eqb, not_from_true}
use Rattle.std.proofs.lemmas.List.Elements.{All-head, All-map, All-tail}
use Rattle.list_totals.specs.Below.{sum_below}
use Rattle.list_totals.specs.Totals.{total, times, one_if_same}
use Rattle.list_totals.proofs.Below.{sum_below_same, totals_by_number}
use Rattle.list_totals.proofs.Totals.{total_map}
use Rattle.series_core.specs.Collection.{Collection}
use Rattle.series_file.proofs.Numbers.{AreBytes}
use Rattle.isax_word.specs.declared.layout.Layout.{Layout}
use Rattle.isax_word.specs.declared.member.Member.{Member}
use Rattle.isax_word.specs.declared.word.Part.{Part}
use Rattle.isax_word.specs.FullWord.{full_word}
use Rattle.isax_word.specs.Word.{word_contains}
use Rattle.subtree_build.specs.declared.leaf.TreeLeaf.{TreeLeaf}
use Rattle.subtree_build.specs.Fits.{HasItsWord, MembersAreSeries, WordContainsMembers, times_in}
use Rattle.subtree_build.specs.Members.{numbers_of, series_at}
use Rattle.subtree_build.proofs.Bounds.{length-full_word}
use Rattle.subtree_build.proofs.Fitting.{total_flat_map}
use Rattle.subtree_build.proofs.Indexing.{length_is_ones}
use Rattle.saved_index.specs.declared.loading.LoadedIndex.{LoadedIndex}
use Rattle.saved_index.specs.Loading.{IsPutTogether}
use Rattle.saved_index.specs.Membership.{AreContained, ContainsAll, first_unfit_of, is_unfit, leaf_weight, weight, weight_for}
use Rattle.saved_index.specs.Saved.{AreNumbers}
use Rattle.saved_index.proofs.Apart.{ascending_once, contained_once, contains_it}
use Rattle.saved_index.proofs.Below.{all_numbers}
use Rattle.saved_index.proofs.Loaded.{series, series_below}
use Rattle.saved_index.proofs.NoFault.{find_none}
use Rattle.saved_index.proofs.SoundWhole.{saved_sound}
use Rattle.saved_index.proofs.Wording.{each_leaf, have_words, lists_back}

-- what is at most 1 for each number below n, and n or more in all, is 1 for each
all_one : (n : ℕ) (g : ℕ → ℕ) → ((i : ℕ) → i < n → g i ≤ 1) → n ≤ sum_below n g → (i : ℕ) → i < n → g i ≡ 1
all_one zero g most all i low = absurd (omega arith)
all_one (suc n) g most all i low =
    let last = most n (omega arith) in
    let before : (k : ℕ) → k < n → g k ≤ 1 = λ k below. most k (omega arith) in
    let rest = sum_most n g before in
    ⊎_elim
    (λ same. ap g same ∙ (let one : g n ≡ 1 = omega (arith, last, rest, all) in one))
    (λ other. all_one n g before (omega (arith, last, all)) i (omega (arith, other)))
    (cases_eq i n)
  where
    -- what is at most 1 for each number below n is at most n in all
    sum_most : (n : ℕ) (g : ℕ → ℕ) → ((i : ℕ) → i < n → g i ≤ 1) → sum_below n g ≤ n
    sum_most zero g most = omega arith
    sum_most (suc n) g most =
        omega (arith, most n (omega arith), sum_most n g (λ k below. most k (omega arith)))

-- members that a word contains weigh as often as they have a number
contained_weigh : (i : ℕ) (word : List Part) (ms : List Member) → ContainsAll word ms
    → total (weight_for i word) ms ≡ times i (numbers_of ms)
contained_weigh i word [] contained = refl
contained_weigh i word (m ∷ ms) contained =
    let Contained : Member → Type 0 = λ x. word_contains word x.full ≡ true in
    let one = one_if_same i m.number in
    let light : weight word m ≡ 1 = cond-true (word_contains word m.full) 1 2 (All-head Contained m ms contained) in
    let here : one * weight word m ≡ one * 1 = ap (λ w. one * w) light in
    omega (arith, here, contained_weigh i word ms (All-tail Contained m ms contained))

-- so do the members of leaves whose words contain them
leaves_weigh : (i : ℕ) (leaves : List TreeLeaf) → AreContained leaves
    → total (leaf_weight i) leaves ≡ total (times_in i) leaves
leaves_weigh i [] contained = refl
leaves_weigh i (x ∷ leaves) contained =
    omega (
      arith,
      contained_weigh i x.word x.members (All-head WordContainsMembers x leaves contained),
      leaves_weigh i leaves (All-tail WordContainsMembers x leaves contained),
    )

-- a series whose full word is not contained in a word is none of the members that are
none_there : (c : Collection) (layout : Layout) (i : ℕ) (word : List Part) (ms : List Member) → All (HasItsWord c layout) ms
    → ContainsAll word ms → word_contains word (full_word layout (series_at c i)) ≡ false → times i (numbers_of ms) ≡ 0
none_there c layout i word [] own contained out = refl
none_there c layout i word (m ∷ ms) own contained out =
    let Contained : Member → Type 0 = λ x. word_contains word x.full ≡ true in
    let Own = HasItsWord c layout in
    let rest = none_there c layout i word ms (All-tail Own m ms own) (All-tail Contained m ms contained) out in
    ⊎_elim
    (λ same.
    let yes : word_contains word (full_word layout (series_at c i)) ≡ true
    = ap (λ k. word_contains word (full_word layout (series_at c k))) same
    ∙ ap (word_contains word) (sym (All-head Own m ms own))
    ∙ All-head Contained m ms contained in
    absurd (both_ways (word_contains word (full_word layout (series_at c i))) out yes))
    (λ other.
    let none : one_if_same i m.number ≡ 0 = cond-false (eqb i m.number) 1 0 (ne_eqb i m.number other) in
    omega (arith, none, rest))
    (cases_eq i m.number)

-- the numbers of a leaf's members strictly ascend
abbrev pub Ascends : TreeLeaf → Type 0
Ascends x = IsStrictlyIncreasing (numbers_of x.members)

-- a series is a member as often, at most, as there are leaves whose word contains its full word
leaves_with : (c : Collection) (layout : Layout) (i : ℕ) (leaves : List TreeLeaf) → All (MembersAreSeries c layout) leaves
    → AreContained leaves → All Ascends leaves
    → total (times_in i) leaves ≤ total (λ (x : TreeLeaf). contains_it (full_word layout (series_at c i)) x.word) leaves
leaves_with c layout i [] own contained up = omega arith
leaves_with c layout i (x ∷ leaves) own contained up =
    let full = full_word layout (series_at c i) in
    let Own = MembersAreSeries c layout in
    let has = word_contains x.word full in
    let here : times_in i x ≤ contains_it full x.word
    = ⊎_elim
    (λ yes.
    let one : contains_it full x.word ≡ 1 = cond-true has 1 0 yes in
    omega (arith, one, ascending_once i (numbers_of x.members) (All-head Ascends x leaves up)))
    (λ out.
    let none = none_there c layout i x.word x.members (All-head Own x leaves own)
    (All-head WordContainsMembers x leaves contained) out in
    omega (arith, none))
    (cases_Bool has) in
    omega (
      arith,
      here,
      leaves_with c layout i leaves (All-tail Own x leaves own) (All-tail WordContainsMembers x leaves contained)
          (All-tail Ascends x leaves up),
    )

-- how often the numbers below n are those of members makes up how many members there are
members_counted : (n : ℕ) (leaves : List TreeLeaf) → All (λ (x : TreeLeaf). All (λ m. m.number < n) x.members) leaves
    → sum_below n (λ i. total (times_in i) leaves) ≡ length (flat_map (λ (x : TreeLeaf). x.members) leaves)
members_counted n leaves below =
    let one : ℕ → ℕ = λ i. 1 in
    let numbers : TreeLeaf → List ℕ = λ x. numbers_of x.members in
    sum_below_same n (λ i. total (times_in i) leaves) (λ i. total (times_in i) leaves * 1) (λ i low. omega arith)
    ∙ sym (totals_by_number n one numbers leaves
    (λ k d inside. All-map (λ i. i < n) (λ (m : Member). m.number) (get_or leaves k d).members (below k d inside)))
    ∙ all_ones leaves
    ∙ sym (total_flat_map (λ (m : Member). 1) (λ (x : TreeLeaf). x.members) leaves)
    ∙ sym (length_is_ones (flat_map (λ (x : TreeLeaf). x.members) leaves))
  where
    -- there are as many numbers as members
    all_ones : (leaves : List TreeLeaf) → total (λ (x : TreeLeaf). total (λ (i : ℕ). 1) (numbers_of x.members)) leaves
        ≡ total (λ (x : TreeLeaf). total (λ (m : Member). 1) x.members) leaves
    all_ones [] = refl
    all_ones (x ∷ leaves) =
        omega (arith, total_map (λ (i : ℕ). 1) (λ (m : Member). m.number) x.members, all_ones leaves)

-- What was put together, of leaves whose words contain the full words of all members: where there are as many members as series, none is
-- unfit.
pub none_unfit : (c : Collection) (bytes : List ℕ) (each : (i : ℕ) → FitsIn w8 (slice_index bytes i)) (loaded : LoadedIndex)
    → IsPutTogether c bytes loaded → AreContained loaded.index.leaves
    → length (flat_map (λ (x : TreeLeaf). x.members) loaded.index.leaves) ≡ length c.series
    → None ≡ first_unfit_of loaded.index.leaves (length c.series)
none_unfit c bytes each loaded t contained many =
    let ix = loaded.index in
    let layout = loaded.settings.layout in
    let read = t.saved.read in
    let s = read.saved in
    let n = length c.series in
    let lists = t.spelled.found.lists in
    let bytes_are : AreBytes bytes = λ k. omega (arith, each k) in
    let sound = (saved_sound bytes s bytes_are read.is).sound in
    let own : All (MembersAreSeries c layout) ix.leaves
    = have_words c layout lists ix.leaves t.parts.members (series_below c bytes t.spelled each t.saved) in
    let below : All (λ (x : TreeLeaf). All (λ m. m.number < n) x.members) ix.leaves
    = series c bytes t.spelled each t.saved loaded.settings t.layout t.leaf_size ix t.is_index t.parts in
    let Lists : List (List ℕ) → Type 0 = λ ls. All (AreNumbers s.header.count) ls in
    let numbers = subst Lists (sym (lists_back c layout lists ix.leaves t.parts.members ∙ read.lists_are))
    (all_numbers s.header.segments s.header.count s.roots s.nodes sound.nodes) in
    let listed = each_leaf (AreNumbers s.header.count) (λ (x : TreeLeaf). numbers_of x.members) ix.leaves numbers in
    let up : All Ascends ix.leaves = λ k d inside. (listed k d inside).ascend in
    let most : (i : ℕ) → total (times_in i) ix.leaves ≤ 1
    = λ i.
    let full = full_word layout (series_at c i) in
    omega (
      arith,
      leaves_with c layout i ix.leaves own contained up,
      contained_once ix full t.is_index (length-full_word layout (series_at c i) ∙ sym t.parts.segments),
    ) in
    let all : n ≤ sum_below n (λ i. total (times_in i) ix.leaves) = omega (arith, members_counted n ix.leaves below, many) in
    sym (find_none (is_unfit ix.leaves) 0 n
    (λ i from to.
    let once = all_one n (λ k. total (times_in k) ix.leaves) (λ k low. most k) all i (omega (arith, to)) in
    not_from_true (total (leaf_weight i) ix.leaves == 1)
    (eq-eqb (total (leaf_weight i) ix.leaves) 1 (leaves_weigh i ix.leaves contained ∙ once))))
