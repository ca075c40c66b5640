-- The members of a collection: their numbers (`numbers_of_all`), full words (`own_word`) and roots (`root_fits`).
use Rattle.std.proofs.Common.{◌≡◌, ℕ, zero, suc, ◌+◌, ◌^◌, ◌<◌, ◌≤◌, ℤ, Bool, true, List, [], ◌∷◌, length, get_or, refl, sym, ap, ◌∙◌, subst, ⊎_elim, arith, All, zero-add, add-zero}
use Rattle.std.specs.Prelude.{filter}
use Rattle.std.specs.List.{range_with_len}
use Rattle.std.proofs.lemmas.Bool.{eqb-true, cases_eq, cond_both}
use Rattle.std.proofs.lemmas.Bool.Decides.{nat_tests}
use Rattle.std.proofs.lemmas.List.Elements.{All-nil, All-cons, All-filter, filter_passes}
use Rattle.list_totals.specs.Totals.{times, one_if_same, once_below}
use Rattle.list_totals.proofs.Totals.{once_below_most}
use Rattle.series_core.specs.Collection.{Collection}
use Rattle.segment_sums.specs.Division.{IsDivision}
use Rattle.isax_word.specs.declared.layout.Layout.{Layout}
use Rattle.isax_word.specs.FullWord.{full_word, root_number}
use Rattle.isax_word.specs.Word.{word_contains, one_bit_word}
use Rattle.isax_word.proofs.Symbols.{IsFullWord-full_word}
use Rattle.isax_word.proofs.Roots.{root_number-lt, root_contains_own}
use Rattle.isax_word.specs.declared.member.Member.{Member}
use Rattle.summary_phase.specs.Members.{members_from, members_of}
use Rattle.summary_phase.specs.Roots.{has_root, of_root}
use Rattle.subtree_build.specs.Members.{numbers_of, series_at, NumbersDiffer, HaveSegments}
use Rattle.subtree_build.specs.Fits.{HasItsWord}
use Rattle.subtree_build.proofs.Ascending.{AllFrom, IsAscending, from_less}
use Rattle.subtree_build.proofs.ByNumber.{differ_filtered}
use Rattle.subtree_build.proofs.Bounds.{length-full_word}
use Rattle.subtree_build.proofs.Contained.{ContainsAll}

-- the numbers of members from a number on
numbers_from : (layout : Layout) (i : ℕ) (rows : List (List ℤ))
    → numbers_of (members_from layout i rows) ≡ range_with_len i (length rows)
numbers_from layout i [] = refl
numbers_from layout i (row ∷ rows) = ap (λ xs. i ∷ xs) (numbers_from layout (i + 1) rows)

-- a number below a does not stand among those from a on
none_below : (x a n : ℕ) → x < a → times x (range_with_len a n) ≡ 0
none_below x a zero below = refl
none_below x a (suc n) below =
    let other : one_if_same x a ≡ 0 = apart x a below in
    omega (arith, other, none_below x (a + 1) n (omega arith))
  where
    apart : (x a : ℕ) → x < a → one_if_same x a ≡ 0
    apart x a less = grind (arith, nat_tests)

-- a number from a on stands once among those from a on where it is below their end, and else not
times_range : (x a n : ℕ) → a ≤ x → times x (range_with_len a n) ≡ once_below x (a + n)
times_range x a zero low = none x (a + 0) (omega arith)
  where
    none : (x n : ℕ) → n ≤ x → 0 ≡ once_below x n
    none x n high = grind (arith, nat_tests)
times_range x a (suc n) low =
    ⊎_elim
    (λ same. omega (arith, here x a (a + suc n) (omega arith) same, none_below x (a + 1) n (omega arith)))
    (λ other. omega (
      arith,
      apart x a other,
      times_range x (a + 1) n (omega (arith, other)),
      ap (once_below x) (ends a n),
    ))
    (cases_eq x a)
  where
    here : (x a end : ℕ) → a < end → x ≡ a → one_if_same x a ≡ once_below x end
    here x a end inside same = grind (arith, nat_tests)

    apart : (x a : ℕ) → (x ≡ a → ⊥) → one_if_same x a ≡ 0
    apart x a other = grind (arith, nat_tests)

    ends : (a n : ℕ) → a + 1 + n ≡ a + suc n
    ends a n = omega arith

-- each number below the number of series is that of one member, and no other is
pub times_of_all : (c : Collection) (layout : Layout) (i : ℕ)
    → times i (numbers_of (members_of layout c)) ≡ once_below i (length c.series)
times_of_all c layout i =
    ap (times i) (numbers_from layout 0 c.series)
    ∙ times_range i 0 (length c.series) (omega arith)
    ∙ ap (once_below i) (zero-add (length c.series))

-- the members from a number on ascend from it
ascend_from : (layout : Layout) (i : ℕ) (rows : List (List ℤ))
    → AllFrom i (members_from layout i rows) × IsAscending (members_from layout i rows)
ascend_from layout i [] = (tt, tt)
ascend_from layout i (row ∷ rows) =
    let rest = ascend_from layout (i + 1) rows in (
      (omega arith, from_less i (i + 1) (members_from layout (i + 1) rows) (omega arith) rest.0),
      (rest.0, rest.1),
    )

-- a filter of members that ascend ascends
from_filtered : (n : ℕ) (p : Member → Bool) (xs : List Member) → AllFrom n xs → AllFrom n (filter p xs)
from_filtered n p [] all = tt
from_filtered n p (x ∷ xs) all =
    cond_both (p x) (x ∷ filter p xs) (filter p xs) (AllFrom n)
    (λ _. (all.0, from_filtered n p xs all.1)) (λ _. from_filtered n p xs all.1)

ascending_filtered : (p : Member → Bool) (xs : List Member) → IsAscending xs → IsAscending (filter p xs)
ascending_filtered p [] up = tt
ascending_filtered p (x ∷ xs) up =
    cond_both (p x) (x ∷ filter p xs) (filter p xs) IsAscending
    (λ _. (from_filtered (x.number + 1) p xs up.0, ascending_filtered p xs up.1))
    (λ _. ascending_filtered p xs up.1)

-- the members of a root ascend
pub root_ascends : (c : Collection) (layout : Layout) (root : ℕ)
    → IsAscending (of_root (members_of layout c) root)
root_ascends c layout root =
    ascending_filtered (has_root root) (members_of layout c) (ascend_from layout 0 c.series).1

-- the members of a root have different numbers
pub root_differs : (c : Collection) (layout : Layout) (root : ℕ)
    → NumbersDiffer (of_root (members_of layout c) root)
root_differs c layout root =
    differ_filtered (has_root root) (members_of layout c)
    (λ i. omega (arith, times_of_all c layout i, once_below_most i (length c.series)))

-- the member at a place has the place's number and the full word of its series
words_from : (c : Collection) (layout : Layout) (i : ℕ) (rows : List (List ℤ))
    → ((k : ℕ) → k < length rows → series_at c (i + k) ≡ get_or rows k [])
    → All (HasItsWord c layout) (members_from layout i rows)
words_from c layout i [] at = All-nil _
words_from c layout i (row ∷ rows) at =
    All-cons (HasItsWord c layout) (record { number = i; full = full_word layout row })
    (members_from layout (i + 1) rows)
    (ap (full_word layout) (sym (at 0 (omega arith)) ∙ ap (series_at c) (add-zero i)))
    (words_from c layout (i + 1) rows
    (λ k inside. ap (series_at c) (next i k) ∙ at (suc k) (omega arith)))
  where
    next : (i k : ℕ) → i + 1 + k ≡ i + suc k
    next i k = omega arith

-- each member has the full word of its series
pub own_word : (c : Collection) (layout : Layout) → All (HasItsWord c layout) (members_of layout c)
own_word c layout =
    words_from c layout 0 c.series (λ k inside. ap (series_at c) (zero-add k))

-- a member's number is that of a series
abbrev pub IsReal : Collection → Member → Type 0
IsReal c m = m.number < length c.series

-- the members of rows from a number on have numbers below their end
numbers_below : (layout : Layout) (i end : ℕ) (rows : List (List ℤ)) → i + length rows ≤ end
    → All (λ (m : Member). m.number < end) (members_from layout i rows)
numbers_below layout i end [] inside = All-nil _
numbers_below layout i end (row ∷ rows) inside =
    All-cons (λ (m : Member). m.number < end) (record { number = i; full = full_word layout row })
    (members_from layout (i + 1) rows) (omega (arith, inside))
    (numbers_below layout (i + 1) end rows (omega (arith, inside)))

-- each member's number is that of a series
pub own_number : (c : Collection) (layout : Layout) → All (IsReal c) (members_of layout c)
own_number c layout = numbers_below layout 0 (length c.series) c.series (omega arith)

-- what holds of the full word of each row holds of each member's
full_from : (P : List ℕ → Type 0) (layout : Layout) → ((row : List ℤ) → P (full_word layout row))
    → (i : ℕ) (rows : List (List ℤ)) → All (λ (m : Member). P m.full) (members_from layout i rows)
full_from P layout each i [] = All-nil _
full_from P layout each i (row ∷ rows) =
    All-cons (λ (m : Member). P m.full) (record { number = i; full = full_word layout row })
    (members_from layout (i + 1) rows) (each row) (full_from P layout each (i + 1) rows)

-- each member has a symbol for each segment
pub have_segments : (c : Collection) (layout : Layout)
    → HaveSegments layout.cuts.segments (members_of layout c)
have_segments c layout =
    full_from (λ full. length full ≡ layout.cuts.segments) layout (length-full_word layout) 0 c.series

-- each member's root number is below 2 to the number of segments
pub root_fits : (c : Collection) (layout : Layout) → IsDivision layout.cuts
    → All (λ (m : Member). root_number m.full < 2 ^ layout.cuts.segments) (members_of layout c)
root_fits c layout is =
    full_from (λ full. root_number full < 2 ^ layout.cuts.segments) layout
    (λ row.
    let P : ℕ → Type 0 = λ n. root_number (full_word layout row) < 2 ^ n in
    subst P (length-full_word layout row)
    (root_number-lt (full_word layout row) (IsFullWord-full_word layout row is).eight_bits))
    0 c.series

-- the one-bit word of its root number contains each member of a root
pub root_contains_all : (c : Collection) (layout : Layout) (root : ℕ) → IsDivision layout.cuts
    → ContainsAll (one_bit_word root layout.cuts.segments) (of_root (members_of layout c) root)
root_contains_all c layout root is k d inside =
    let ms = members_of layout c in
    let m = get_or (of_root ms root) k d in
    let own : word_contains (one_bit_word (root_number m.full) layout.cuts.segments) m.full ≡ true
    = All-filter (has_root root) (λ (x : Member).
    word_contains (one_bit_word (root_number x.full) layout.cuts.segments) x.full ≡ true) ms
    (full_from (λ full. word_contains (one_bit_word (root_number full) layout.cuts.segments) full ≡ true)
    layout
    (λ row.
    let P : ℕ → Type 0 = λ n.
    word_contains (one_bit_word (root_number (full_word layout row)) n) (full_word layout row) ≡ true in
    subst P (length-full_word layout row)
    (root_contains_own (full_word layout row) (IsFullWord-full_word layout row is).eight_bits))
    0 c.series)
    k d inside in
    ap (λ r. word_contains (one_bit_word r layout.cuts.segments) m.full)
    (sym (eqb-true (root_number m.full) root (filter_passes (has_root root) ms k d inside)))
    ∙ own
