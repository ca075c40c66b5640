-- What members weigh: the members of all leaves weigh 1 for a series exactly where it fits (`fit_by_weight`), so the first that does not
-- fit is the first of another weight (`unfit_by_weight`).
use Rattle.std.proofs.Common.{◌≡◌, ℕ, ◌+◌, ◌*◌, ◌≤◌, Bool, true, false, List, [], ◌∷◌, map, eqb, refl, sym, ap, ◌∙◌, ⊎_elim, inl, inr, arith, All}
use Rattle.std.specs.Prelude.{◌==◌, ◌⊎◌, ◌&&◌, not, nat_eq, if◌then◌else◌, find}
use Rattle.std.specs.List.{list_all, list_any, range_with_len}
use Rattle.std.proofs.lemmas.Bool.{cond_both, cond-true, cases_Bool, eqb-true, ne_eqb, not-true, not_from_false, or_cases, or_left, or_right, or_from, or_parts, and_parts, and_from, and_right, both_ways}
use Rattle.std.proofs.lemmas.List.Elements.{All-head, All-tail}
use Rattle.list_totals.specs.Totals.{total, times, one_if_same}
use Rattle.series_core.specs.Collection.{Collection}
use Rattle.isax_word.specs.declared.layout.Layout.{Layout}
use Rattle.isax_word.specs.declared.member.Member.{Member}
use Rattle.isax_word.specs.declared.word.Part.{Part}
use Rattle.isax_word.specs.FullWord.{full_word}
use Rattle.isax_word.specs.Word.{word_contains}
use Rattle.subtree_build.specs.declared.leaf.TreeLeaf.{TreeLeaf}
use Rattle.subtree_build.specs.Fits.{HasItsWord, MembersAreSeries}
use Rattle.subtree_build.specs.Members.{numbers_of, series_at}
use Rattle.saved_index.specs.Faults.{WordedLeaf, first_unfit, is_fit, layout_for, saved_leaves, suits}
use Rattle.saved_index.specs.Membership.{first_unfit_of, is_unfit, leaf_weight, weight, weight_for}
use Rattle.saved_index.specs.Saved.{Saved}
use Rattle.saved_index.proofs.LeavesTold.{worded_leaf}

-- what each member of series i weighs in a leaf of this word
abbrev pub weight_at : Collection → Layout → ℕ → List Part → ℕ
weight_at c layout i word = if word_contains word (full_word layout (series_at c i)) then 1 else 2

-- what a leaf that is saved weighs for series i
abbrev pub saved_weight : Collection → Layout → ℕ → WordedLeaf → ℕ
saved_weight c layout i x = times i x.numbers * weight_at c layout i x.word

-- how often a number stands in a leaf that is saved
abbrev pub times_saved : ℕ → WordedLeaf → ℕ
times_saved i x = times i x.numbers

-- a member weighs what members of its series weigh
one_weight : (i n a b : ℕ) → (i ≡ n → a ≡ b) → one_if_same i n * a ≡ one_if_same i n * b
one_weight i n a b same =
    cond_both (eqb i n) 1 0 (λ k. k * a ≡ k * b) (λ is. ap (λ x. 1 * x) (same (eqb-true i n is))) (λ _. omega arith)

-- one * f and t * f together are (one + t) * f, where f is 1 or 2
one_more : (one t f : ℕ) → (f ≡ 1) ⊎ (f ≡ 2) → one * f + t * f ≡ (one + t) * f
one_more one t f is =
    let once : one * 1 + t * 1 ≡ (one + t) * 1 = omega arith in
    let twice : one * 2 + t * 2 ≡ (one + t) * 2 = omega arith in
    ⊎_elim (λ a. ap (λ x. one * x + t * x) a ∙ once ∙ ap (λ x. (one + t) * x) (sym a))
    (λ a. ap (λ x. one * x + t * x) a ∙ twice ∙ ap (λ x. (one + t) * x) (sym a)) is

-- a weight is 1 or 2
abbrev weight_by : Bool → ℕ
weight_by b = if b then 1 else 2

one_or_two : (b : Bool) → (weight_by b ≡ 1) ⊎ (weight_by b ≡ 2)
one_or_two true = inl refl
one_or_two false = inr refl

members_weigh : (c : Collection) (layout : Layout) (i : ℕ) (word : List Part) (ms : List Member) → All (HasItsWord c layout) ms
    → total (weight_for i word) ms ≡ times i (numbers_of ms) * weight_at c layout i word
members_weigh c layout i word [] own = omega arith
members_weigh c layout i word (m ∷ ms) own =
    let f = weight_at c layout i word in
    let one = one_if_same i m.number in
    let Own = HasItsWord c layout in
    let here : one * weight word m ≡ one * f
    = one_weight i m.number (weight word m) f (λ same. ap (λ (xs : List ℕ). if word_contains word xs then 1 else 2)
    (All-head Own m ms own ∙ ap (λ k. full_word layout (series_at c k)) (sym same))) in
    ap (λ x. x + total (weight_for i word) ms) here
    ∙ ap (λ x. one * f + x) (members_weigh c layout i word ms (All-tail Own m ms own))
    ∙ one_more one (times i (numbers_of ms)) f (one_or_two (word_contains word (full_word layout (series_at c i))))

-- the leaves of an index weigh what those that are saved weigh
leaves_weigh : (c : Collection) (layout : Layout) (i : ℕ) (leaves : List TreeLeaf) → All (MembersAreSeries c layout) leaves
    → total (leaf_weight i) leaves ≡ total (saved_weight c layout i) (map worded_leaf leaves)
leaves_weigh c layout i [] own = refl
leaves_weigh c layout i (x ∷ leaves) own =
    let Own = MembersAreSeries c layout in
    ap (λ n. n + total (leaf_weight i) leaves) (members_weigh c layout i x.word x.members (All-head Own x leaves own))
    ∙ ap (λ n. saved_weight c layout i (worded_leaf x) + n) (leaves_weigh c layout i leaves (All-tail Own x leaves own))

-- what does not stand among numbers stands there no time
none_there : (i : ℕ) (ns : List ℕ) → list_any (nat_eq i) ns ≡ false → times i ns ≡ 0
none_there i [] none = refl
none_there i (n ∷ ns) none =
    let parts = or_parts (nat_eq i n) (list_any (nat_eq i) ns) none in
    let here : one_if_same i n ≡ 0 = ap (λ b. if b then 1 else 0) parts.0 in
    omega (arith, here, none_there i ns parts.1)

there_none : (i : ℕ) (ns : List ℕ) → times i ns ≡ 0 → list_any (nat_eq i) ns ≡ false
there_none i [] none = refl
there_none i (n ∷ ns) none =
    or_from (nat_eq i n) (list_any (nat_eq i) ns)
    (⊎_elim (λ same. let one : one_if_same i n ≡ 1 = ap (λ b. if b then 1 else 0) same in absurd (omega (arith, one, none)))
    (λ other. other) (cases_Bool (nat_eq i n)))
    (there_none i ns (omega (arith, none)))

-- a leaf that suits a series weighs as often as it has it
suited : (c : Collection) (layout : Layout) (i : ℕ) (x : WordedLeaf) → suits c layout i x ≡ true
    → saved_weight c layout i x ≡ times_saved i x
suited c layout i x is =
    let any = list_any (nat_eq i) x.numbers in
    let has = word_contains x.word (full_word layout (series_at c i)) in
    ⊎_elim
    (λ none. let t : times_saved i x ≡ 0 = none_there i x.numbers (not-true any none) in
    ap (λ n. n * weight_at c layout i x.word) t ∙ (let z : 0 * weight_at c layout i x.word ≡ 0 = omega arith in z) ∙ sym t)
    (λ yes. ap (λ n. times_saved i x * n) (cond-true has 1 2 yes)
    ∙ (let z : times_saved i x * 1 ≡ times_saved i x = omega arith in z))
    (or_cases (not any) has is)

-- a leaf of weight at most 1 suits it
light_suits : (c : Collection) (layout : Layout) (i : ℕ) (x : WordedLeaf) → saved_weight c layout i x ≤ 1
    → suits c layout i x ≡ true
light_suits c layout i x light =
    let any = list_any (nat_eq i) x.numbers in
    let has = word_contains x.word (full_word layout (series_at c i)) in
    let t = times_saved i x in
    ⊎_elim (λ yes. or_right (not any) has yes)
    (λ no. let two : t * 2 ≡ saved_weight c layout i x = ap (λ b. t * (if b then 1 else 2)) (sym no) in
    or_left (not any) has (not_from_false any (there_none i x.numbers (omega (arith, two, light)))))
    (cases_Bool has)

all_suited : (c : Collection) (layout : Layout) (i : ℕ) (xs : List WordedLeaf) → list_all (suits c layout i) xs ≡ true
    → total (saved_weight c layout i) xs ≡ total (times_saved i) xs
all_suited c layout i [] all = refl
all_suited c layout i (x ∷ xs) all =
    let parts = and_parts (suits c layout i x) (list_all (suits c layout i) xs) all in
    ap (λ n. n + total (saved_weight c layout i) xs) (suited c layout i x parts.0)
    ∙ ap (λ n. times_saved i x + n) (all_suited c layout i xs parts.1)

light_all_suit : (c : Collection) (layout : Layout) (i : ℕ) (xs : List WordedLeaf) → total (saved_weight c layout i) xs ≤ 1
    → list_all (suits c layout i) xs ≡ true
light_all_suit c layout i [] light = refl
light_all_suit c layout i (x ∷ xs) light =
    let own = saved_weight c layout i x in
    let rest = total (saved_weight c layout i) xs in
    let sum : own + rest ≤ 1 = light in
    and_from (suits c layout i x) (list_all (suits c layout i) xs) (light_suits c layout i x (omega (arith, sum)))
    (light_all_suit c layout i xs (omega (arith, sum)))

and_true : (b : Bool) → (b && true) ≡ b
and_true true = refl
and_true false = refl

-- exactly one time, in leaves that all suit, exactly where all weigh 1
one_is_suited : (c : Collection) (layout : Layout) (i : ℕ) (xs : List WordedLeaf)
    → ((total (times_saved i) xs == 1) && list_all (suits c layout i) xs) ≡ (total (saved_weight c layout i) xs == 1)
one_is_suited c layout i xs =
    let once = total (times_saved i) xs == 1 in
    let all = list_all (suits c layout i) xs in
    let weigh = total (saved_weight c layout i) xs in
    ⊎_elim
    (λ yes. ap (λ b. once && b) yes ∙ and_true once ∙ ap (λ n. n == 1) (sym (all_suited c layout i xs yes)))
    (λ no. and_right once all no
    ∙ sym (ne_eqb weigh 1 (λ is. both_ways all no (light_all_suit c layout i xs (omega (arith, is))))))
    (cases_Bool all)

-- a series fits exactly where the members of all leaves weigh 1 for it
pub fit_by_weight : (c : Collection) (s : Saved) (leaves : List TreeLeaf) (i : ℕ)
    → All (MembersAreSeries c (layout_for s.header)) leaves → map worded_leaf leaves ≡ saved_leaves s
    → is_fit c s i ≡ (total (leaf_weight i) leaves == 1)
fit_by_weight c s leaves i own are =
    let layout = layout_for s.header in
    one_is_suited c layout i (saved_leaves s)
    ∙ ap (λ (xs : List WordedLeaf). total (saved_weight c layout i) xs == 1) (sym are)
    ∙ ap (λ n. n == 1) (sym (leaves_weigh c layout i leaves own))

-- tests that agree find the same
find_agree : (p q : ℕ → Bool) (xs : List ℕ) → ((i : ℕ) → p i ≡ q i) → find p xs ≡ find q xs
find_agree p q xs same =
    let all : ◌≡◌ {A = ℕ → Bool} p q = λ j i. same i j in
    ap (λ (t : ℕ → Bool). find t xs) all

-- the first series that does not fit is the first of another weight
pub unfit_by_weight : (c : Collection) (s : Saved) (leaves : List TreeLeaf)
    → All (MembersAreSeries c (layout_for s.header)) leaves → map worded_leaf leaves ≡ saved_leaves s
    → first_unfit c s ≡ first_unfit_of leaves s.header.count
unfit_by_weight c s leaves own are =
    find_agree (λ i. not (is_fit c s i)) (is_unfit leaves) (range_with_len 0 s.header.count)
    (λ i. ap not (fit_by_weight c s leaves i own are))
