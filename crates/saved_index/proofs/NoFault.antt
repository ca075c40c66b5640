-- The text of an index that fits a collection has nothing against it (`text_has_no_fault`).
use Rattle.std.proofs.Common.{◌≡◌, ℕ, zero, suc, ◌+◌, ◌<◌, ◌≤◌, Bool, true, false, List, [], ◌∷◌, length, map, Some, None, refl, sym, ap, ◌∙◌, ⊎_elim, arith, All}
use Rattle.std.specs.Prelude.{◌==◌, ◌||◌, not, nat_eq, nat_lt, find, option_map}
use Rattle.std.specs.List.{list_all, list_any, range_with_len}
use Rattle.std.proofs.lemmas.Bool.{and_from, cases_Bool, cond-false, false≢true}
use Rattle.std.proofs.lemmas.Bool.Decides.{nat_tests}
use Rattle.std.proofs.lemmas.List.Elements.{All-head, All-tail}
use Rattle.list_totals.specs.Totals.{total, times}
use Rattle.list_totals.proofs.Totals.{total_map, once_below_yes}
use Rattle.series_core.specs.Collection.{Collection}
use Rattle.isax_word.specs.declared.layout.Layout.{Layout}
use Rattle.isax_word.specs.declared.member.Member.{Member}
use Rattle.isax_word.specs.declared.word.Part.{Part}
use Rattle.isax_word.specs.FullWord.{full_word}
use Rattle.isax_word.specs.Word.{word_contains}
use Rattle.subtree_build.specs.declared.leaf.TreeLeaf.{TreeLeaf}
use Rattle.subtree_build.specs.declared.settings.Settings.{Settings}
use Rattle.subtree_build.specs.Fits.{HasItsWord, MembersAreSeries, WordContainsMembers}
use Rattle.subtree_build.specs.Index.{IndexParts}
use Rattle.subtree_build.specs.Members.{numbers_of, series_at}
use Rattle.saved_index.specs.declared.error.IndexFault.TheVariants.{Length, Count, Unfit, TooLong}
use Rattle.saved_index.specs.Faults.{WordedLeaf, fault_of, first_unfit, index_fault, is_fit, saved_leaves, suits}
use Rattle.saved_index.specs.IndexText.{IndexText, saved_of}
use Rattle.saved_index.specs.Laws.{IsIndexOf}
use Rattle.saved_index.specs.Reading.{saved_in}
use Rattle.saved_index.proofs.Again.{saved_again}
use Rattle.saved_index.proofs.LeavesTold.{worded_leaf}
use Rattle.saved_index.proofs.OfSaved.{leaves_of_saved}

-- none of the numbers is found where none passes the test
pub find_none : (p : ℕ → Bool) (a n : ℕ) → ((k : ℕ) → a ≤ k → k < a + n → p k ≡ false)
    → find p (range_with_len a n) ≡ None
find_none p a zero fails = refl
find_none p a (suc n) fails =
    cond-false (p a) (Some a) (find p (range_with_len (a + 1) n)) (fails a (omega arith) (omega arith))
    ∙ find_none p (a + 1) n (λ k from to. fails k (omega arith) (omega arith))

-- a word that contains members contains the word of a series that is one of them
contains_series : (c : Collection) (layout : Layout) (word : List Part) (i : ℕ) (ms : List Member)
    → All (HasItsWord c layout) ms → All (λ m. word_contains word m.full ≡ true) ms
    → list_any (nat_eq i) (numbers_of ms) ≡ true
    → word_contains word (full_word layout (series_at c i)) ≡ true
contains_series c layout word i [] own contains among = absurd (false≢true among)
contains_series c layout word i (m ∷ ms) own contains among =
    let Contained : Member → Type 0 = λ x. word_contains word x.full ≡ true in
    ⊎_elim
    (λ (here : nat_eq i m.number ≡ true).
    let same : i ≡ m.number = grind (arith, nat_tests) in
    ap (λ k. word_contains word (full_word layout (series_at c k))) same
    ∙ ap (word_contains word) (sym (All-head (HasItsWord c layout) m ms own))
    ∙ All-head Contained m ms contains)
    (λ (other : nat_eq i m.number ≡ false).
    contains_series c layout word i ms (All-tail (HasItsWord c layout) m ms own) (All-tail Contained m ms contains)
    (sym (ap (λ b. b || list_any (nat_eq i) (numbers_of ms)) other) ∙ among))
    (cases_Bool (nat_eq i m.number))

-- each leaf of an index that fits suits each series
leaf_suits : (c : Collection) (layout : Layout) (i : ℕ) (x : TreeLeaf) → MembersAreSeries c layout x
    → WordContainsMembers x → suits c layout i (worded_leaf x) ≡ true
leaf_suits c layout i x own contains =
    let among = list_any (nat_eq i) (numbers_of x.members) in
    let contained = word_contains x.word (full_word layout (series_at c i)) in
    ⊎_elim
    (λ (yes : among ≡ true).
    ap (λ b. not b || contained) yes ∙ contains_series c layout x.word i x.members own contains yes)
    (λ (no : among ≡ false). ap (λ b. not b || contained) no)
    (cases_Bool among)

all_suit : (c : Collection) (layout : Layout) (i : ℕ) (leaves : List TreeLeaf) → All (MembersAreSeries c layout) leaves
    → All WordContainsMembers leaves → list_all (suits c layout i) (map worded_leaf leaves) ≡ true
all_suit c layout i [] own contains = refl
all_suit c layout i (x ∷ leaves) own contains =
    and_from (suits c layout i (worded_leaf x)) (list_all (suits c layout i) (map worded_leaf leaves))
    (leaf_suits c layout i x (All-head (MembersAreSeries c layout) x leaves own)
    (All-head WordContainsMembers x leaves contains))
    (all_suit c layout i leaves (All-tail (MembersAreSeries c layout) x leaves own)
    (All-tail WordContainsMembers x leaves contains))

-- each series fits what is saved of an index that fits
each_fits : (c : Collection) (settings : Settings) (count : ℕ) (ix : IndexParts) → IsIndexOf c settings ix
    → (i : ℕ) → i < length c.series → is_fit c (saved_of settings count ix) i ≡ true
each_fits c settings count ix of i low =
    let s = saved_of settings count ix in
    let layout = settings.layout in
    let leaves : saved_leaves s ≡ map worded_leaf ix.leaves
    = sym (leaves_of_saved settings count ix of.index of.fits.tree.segments) in
    let held : WordedLeaf → ℕ = λ x. times i x.numbers in
    let once : total held (saved_leaves s) ≡ 1
    = ap (total held) leaves
    ∙ total_map held worded_leaf ix.leaves
    ∙ of.fits.tree.each_once i
    ∙ once_below_yes i (length c.series) low in
    and_from (total held (saved_leaves s) == 1) (list_all (suits c layout i) (saved_leaves s))
    (ap (λ n. n == 1) once)
    (ap (list_all (suits c layout i)) leaves ∙ all_suit c layout i ix.leaves of.fits.tree.own_words of.fits.tree.contained)

-- the text of an index that fits a collection has nothing against it
pub text_has_no_fault : (c : Collection) (bytes : List ℕ) (settings : Settings) (ix : IndexParts)
    → IsIndexOf c settings ix → settings.layout.cuts.row_length ≡ c.points → IndexText bytes settings (length c.series) ix
    → length bytes ≤ 1073741824 → index_fault bytes c ≡ None
text_has_no_fault c bytes settings ix of points text short =
    let count = length c.series in
    let n = settings.layout.cuts.row_length in
    let s = saved_of settings count ix in
    let not_long : nat_lt 1073741824 (length bytes) ≡ false = grind (arith, nat_tests) in
    let same_length : not (n == c.points) ≡ false = grind (arith, nat_tests) in
    let same_count : not (count == count) ≡ false = grind (arith, nat_tests) in
    let none : first_unfit c s ≡ None
    = find_none (λ i. not (is_fit c s i)) 0 count
    (λ k from to. ap not (each_fits c settings count ix of k (omega (arith, to)))) in
    cond-false (nat_lt 1073741824 (length bytes)) (Some TooLong) (fault_of c (saved_in bytes)) not_long
    ∙ ap (fault_of c) (ap saved_in text.spelled ∙ saved_again s text.sound)
    ∙ cond-false (not (n == c.points)) (Some (Length n c.points)) _ same_length
    ∙ cond-false (not (count == count)) (Some (Count count count)) _ same_count
    ∙ ap (option_map Unfit) none
