-- What lists of members are cut from: the row of all of them (`row_cut`), which their lengths add up to (`row_adds_up`).
use Rattle.std.proofs.Common.{◌≡◌, ◌∙◌, ℕ, List, [], ◌∷◌, ◌++◌, length, map, drop, refl, sym, ap, subst, arith, length-append}
use Rattle.std.specs.Prelude.{flat_map}
use Rattle.std.proofs.lemmas.List.{drop_at, length-map, take_at}
use Rattle.series_core.specs.Collection.{Collection}
use Rattle.isax_word.specs.declared.layout.Layout.{Layout}
use Rattle.isax_word.specs.declared.member.Member.{Member}
use Rattle.subtree_build.specs.Assembly.{AddUp, cut_lists}
use Rattle.subtree_build.specs.Members.{with_own_word}
use Rattle.saved_index.specs.declared.members.MemberRow.{MemberRow}
use Rattle.saved_index.specs.Membership.{IsRowFor, all_members, members_in_lists, with_word, words_of}

-- lists of members are as long as those of their numbers
pub same_lengths : (words lists : List (List ℕ))
    → map (λ (ns : List ℕ). length ns) lists ≡ map (λ (ms : List Member). length ms) (members_in_lists words lists)
same_lengths words [] = refl
same_lengths words (ns ∷ lists) =
    ap (λ k. k ∷ map (λ (xs : List ℕ). length xs) lists) (sym (length-map ns (with_word words)))
    ∙ ap (λ ks. length (map (with_word words) ns) ∷ ks) (same_lengths words lists)

-- the row of all members is that of these lists
pub in_a_row : (words lists : List (List ℕ)) → all_members words lists ≡ flat_map (λ (ms : List Member). ms) (members_in_lists words lists)
in_a_row words [] = refl
in_a_row words (ns ∷ lists) = ap (λ (ms : List Member). map (with_word words) ns ++ ms) (in_a_row words lists)

-- cut by their lengths it gives them
pub cut_back : (lists : List (List Member))
    → cut_lists (map (λ (ms : List Member). length ms) lists) (flat_map (λ (ms : List Member). ms) lists) ≡ lists
cut_back [] = refl
cut_back (ms ∷ lists) =
    let rest = flat_map (λ (xs : List Member). xs) lists in
    let counts = map (λ (xs : List Member). length xs) lists in
    ap (λ (xs : List Member). xs ∷ cut_lists counts (drop (length ms) (ms ++ rest))) (take_at ms rest (length ms) refl)
    ∙ ap (λ (xs : List Member). ms ∷ cut_lists counts xs) (drop_at ms rest (length ms) refl)
    ∙ ap (λ (ls : List (List Member)). ms ∷ ls) (cut_back lists)

-- and these add up to all members
pub lengths_add_up : (lists : List (List Member))
    → AddUp (map (λ (ms : List Member). length ms) lists) (length (flat_map (λ (ms : List Member). ms) lists))
lengths_add_up [] = refl
lengths_add_up (ms ∷ lists) =
    omega (arith, length-append ms (flat_map (λ (xs : List Member). xs) lists), lengths_add_up lists)

-- the row of the members of lists is cut into these by how many each has
pub row_cut : (words lists : List (List ℕ)) (members : List Member) → members ≡ all_members words lists
    → cut_lists (map (λ (ns : List ℕ). length ns) lists) members ≡ members_in_lists words lists
row_cut words lists members are =
    ap (λ (ns : List ℕ). cut_lists ns members) (same_lengths words lists)
    ∙ ap (cut_lists (map (λ (ms : List Member). length ms) (members_in_lists words lists))) (are ∙ in_a_row words lists)
    ∙ cut_back (members_in_lists words lists)

module _ (c : Collection) (layout : Layout) (lists : List (List ℕ)) (r : MemberRow) (is : IsRowFor c layout lists r) where
  -- the counts of members in a row add up to all of them
  pub row_adds_up : AddUp r.counts.items (length r.members.items)
  row_adds_up =
      let words = words_of c layout in
      let all = members_in_lists words lists in
      let own = with_own_word c layout in
      let many : length (flat_map (λ (ms : List Member). ms) all) ≡ length r.members.items
      = ap (λ (ms : List Member). length ms) (sym (is.own ∙ in_a_row words lists)) ∙ length-map r.members.items own in
      let counts : map (λ (ms : List Member). length ms) all ≡ r.counts.items = sym (is.counts ∙ same_lengths words lists) in
      subst (AddUp r.counts.items) many
      (subst (λ (ns : List ℕ). AddUp ns (length (flat_map (λ (ms : List Member). ms) all))) counts (lengths_add_up all))

  -- and are as many as the lists
  pub row_long : length r.counts.items ≡ length lists
  row_long = ap (λ (ns : List ℕ). length ns) is.counts ∙ length-map lists (λ (ns : List ℕ). length ns)
