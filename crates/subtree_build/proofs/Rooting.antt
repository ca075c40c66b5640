-- From the lists of all roots to what each root child is built from: the root numbers (`holds_roots`), and each of their lists
-- (`can_build`).
use Rattle.std.proofs.Common.{◌≡◌, ℕ, zero, suc, ◌+◌, ◌^◌, ◌<◌, ◌≤◌, Bool, true, false, cond, List, [], ◌∷◌, length, get_or, map, refl, sym, ap, ◌∙◌, subst, arith, All}
use Rattle.std.specs.Prelude.{filter, ◌||◌, IsPermutation}
use Rattle.std.specs.List.{range_with_len, list_any}
use Rattle.std.proofs.lemmas.List.{length-map, get_or-map}
use Rattle.std.proofs.lemmas.List.Sums.{length-filter, count_by-le-length}
use Rattle.std.proofs.lemmas.List.Elements.{All-filter, All-get_or, filter_passes}
use Rattle.std.proofs.lemmas.List.Sorted.{length_permutation, All-permutation}
use Rattle.std.proofs.Math.Nat.{pow-le-pow_right}
use Rattle.series_core.specs.Collection.{Collection, IsCollection}
use Rattle.segment_sums.specs.Division.{IsDivision}
use Rattle.isax_word.specs.declared.layout.Layout.{Layout}
use Rattle.isax_word.specs.declared.member.Member.{Member}
use Rattle.summary_phase.specs.Members.{members_of}
use Rattle.summary_phase.specs.Roots.{has_root, of_root, root_of_all}
use Rattle.subtree_build.specs.declared.settings.Settings.{Settings}
use Rattle.subtree_build.specs.declared.splicing.RootLists.{RootLists}
use Rattle.subtree_build.specs.Division.{roots_of}
use Rattle.subtree_build.specs.Splicing.{has_members}
use Rattle.subtree_build.specs.Summaries.{HoldAllMembers}
use Rattle.subtree_build.specs.Building.{list_at, root_at, CanBuild, HoldsRoots}
use Rattle.subtree_build.proofs.ByNumber.{differ_permuted}
use Rattle.subtree_build.proofs.RootNumbers.{below_count, no_more}
use Rattle.subtree_build.proofs.OfCollection.{have_segments, root_differs}
use Rattle.subtree_build.proofs.Indexing.{length-members}

-- of two lists of one length both have members or none has
has_same : (xs ys : List Member) → length xs ≡ length ys → has_members xs ≡ has_members ys
has_same [] [] same = refl
has_same [] (y ∷ ys) same = absurd (omega arith)
has_same (x ∷ xs) [] same = absurd (omega arith)
has_same (x ∷ xs) (y ∷ ys) same = refl

-- some member passes where a filter leaves some
any_is_some : (p : Member → Bool) (ms : List Member) → list_any p ms ≡ has_members (filter p ms)
any_is_some p [] = refl
any_is_some p (m ∷ ms) = by_test (p m) (any_is_some p ms)
  where
    by_test : (b : Bool) → list_any p ms ≡ has_members (filter p ms)
        → (b || list_any p ms) ≡ has_members (cond b (m ∷ filter p ms) (filter p ms))
    by_test true rest = refl
    by_test false rest = rest

-- a list with members is not empty
some_members : (xs : List Member) → has_members xs ≡ true → 0 < length xs
some_members [] has = cc
some_members (x ∷ xs) has = omega arith

-- two tests that agree from a on leave the same numbers
filter_agree_range : (p q : ℕ → Bool) (a n : ℕ) → ((r : ℕ) → a ≤ r → r < a + n → p r ≡ q r)
    → filter p (range_with_len a n) ≡ filter q (range_with_len a n)
filter_agree_range p q a zero same = refl
filter_agree_range p q a (suc n) same =
    ap (λ b. cond b (a ∷ filter p (range_with_len (a + 1) n)) (filter p (range_with_len (a + 1) n)))
    (same a (omega arith) (omega arith))
    ∙ ap (λ xs. cond (q a) (a ∷ xs) xs)
    (filter_agree_range p q (a + 1) n (λ r low high. same r (omega arith) (omega arith)))

-- the root numbers whose lists have members are those that some series has
same_roots : (layout : Layout) (c : Collection) (buffers : List (List (List Member)))
    → HoldAllMembers layout c buffers
    → filter (λ r. has_members (root_of_all buffers r)) (range_with_len 0 (2 ^ layout.cuts.segments))
    ≡ roots_of c layout
same_roots layout c buffers h =
    filter_agree_range (λ r. has_members (root_of_all buffers r))
    (λ r. list_any (has_root r) (members_of layout c)) 0 (2 ^ layout.cuts.segments)
    (λ r low high.
    let xs = of_root (members_of layout c) r in
    has_same (root_of_all buffers r) xs
    (length_permutation xs (root_of_all buffers r) (h.members r (omega arith)))
    ∙ sym (any_is_some (has_root r) (members_of layout c)))

-- the root numbers and lists that were spliced hold the members of each root
pub holds_roots : (layout : Layout) (c : Collection) (buffers : List (List (List Member)))
    (found : RootLists) (n : ℕ) → IsDivision layout.cuts → IsCollection c
    → HoldAllMembers layout c buffers → n ≡ 2 ^ layout.cuts.segments
    → found.roots.items ≡ filter (λ r. has_members (root_of_all buffers r)) (range_with_len 0 n)
    → found.lists.items ≡ map (root_of_all buffers) found.roots.items
    → HoldsRoots layout c found
holds_roots layout c buffers found n division sound h all roots_are lists_are =
    let some_has = λ (r : ℕ). has_members (root_of_all buffers r) in
    let roots : found.roots.items ≡ filter some_has (range_with_len 0 (2 ^ layout.cuts.segments))
    = roots_are ∙ ap (λ k. filter some_has (range_with_len 0 k)) all in
    let Fit : List ℕ → Type 0 = λ xs. All (λ r. r < 2 ^ layout.cuts.segments) xs in
    let fit = subst Fit (sym roots) (below_count some_has (2 ^ layout.cuts.segments)) in
    record {
      division = division;
      sound = sound;
      roots = roots ∙ same_roots layout c buffers h;
      one_list_each = ap length lists_are ∙ length-map found.roots.items (root_of_all buffers);
      members = λ i inside.
          let r = root_at found i in
          let P : List Member → Type 0 = λ ms. IsPermutation (of_root (members_of layout c) r) ms in
          let is : list_at found i ≡ root_of_all buffers r
          = ap (λ (ls : List (List Member)). get_or ls i []) lists_are
          ∙ get_or-map (root_of_all buffers) found.roots.items i 0 [] inside in
          subst P (sym is)
          (h.members r (All-get_or (λ x. x < 2 ^ layout.cuts.segments) found.roots.items i 0 inside fit));
    }

-- each root child can be built from its list
pub can_build : (settings : Settings) (c : Collection) (found : RootLists)
    → HoldsRoots settings.layout c found → CanBuild settings found
can_build settings c found h =
    let layout = settings.layout in
    let ms = members_of layout c in
    let some_has = λ (r : ℕ). list_any (has_root r) ms in
    let n = 2 ^ layout.cuts.segments in
    let Fit : List ℕ → Type 0 = λ xs. All (λ r. r < n) xs in
    let Has : List ℕ → Type 0 = λ xs. All (λ r. some_has r ≡ true) xs in
    let fit = subst Fit (sym h.roots) (below_count some_has n) in
    let has = subst Has (sym h.roots) (filter_passes some_has (range_with_len 0 n)) in
    record {
      one_list_each = h.one_list_each;
      each = λ i inside.
          let r = root_at found i in
          let xs = of_root ms r in
          let ys = list_at found i in
          let moved = h.members i inside in
          let long = length_permutation xs ys moved in
          let some : 0 < length xs
          = some_members xs
          (sym (any_is_some (has_root r) ms) ∙ All-get_or (λ x. some_has x ≡ true) found.roots.items i 0 inside has) in
          record {
            root_fits = All-get_or (λ x. x < n) found.roots.items i 0 inside fit;
            some = omega (arith, long, some);
            few = omega (
              arith,
              long,
              length-filter (has_root r) ms,
              count_by-le-length (has_root r) ms,
              length-members layout 0 c.series,
              h.sound.count_limit,
            );
            segments =
                All-permutation (λ (m : Member). length m.full ≡ layout.cuts.segments) xs ys moved
                (All-filter (has_root r) (λ (m : Member). length m.full ≡ layout.cuts.segments) ms
                (have_segments c layout));
            numbers = differ_permuted xs ys moved (root_differs c layout r);
          };
    }

-- there are no more than 65536 root children
pub few_roots : (layout : Layout) (c : Collection) (found : RootLists) → HoldsRoots layout c found
    → length found.roots.items ≤ 65536
few_roots layout c found h =
    let w = layout.cuts.segments in
    let most : 2 ^ w ≤ 2 ^ 16
    = pow-le-pow_right {n = 2} (omega arith) {i = w} {j = 16} h.division.few_segments in
    omega (
      arith,
      ap length h.roots,
      no_more (λ r. list_any (has_root r) (members_of layout c)) (2 ^ w),
      most,
    )
