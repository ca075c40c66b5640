-- Numbers in a row, cut into lists by how many each has: as many lists as counts (`length-cut`); numbers behind those of the lists change
-- nothing (`cut_front`, `cut_taken`), and are one list more where they are counted (`cut_more`). The members of the numbers are those of the lists (`row_is`).
use Rattle.std.proofs.Common.{◌≡◌, ◌∙◌, ℕ, suc, ◌+◌, ◌<◌, ◌≤◌, ◌^◌, List, [], ◌∷◌, ◌++◌, length, map, take, drop, refl, sym, ap, subst, arith}
use Rattle.std.specs.Prelude.{flat_map}
use Rattle.std.specs.List.{All}
use Rattle.std.proofs.lemmas.List.{drop-append-le, get_or-map, length-append, length-drop, length-map, length-take-le, map-append, take-map, nil_from_length, take_all, take-append-drop, take-append-le}
use Rattle.std.proofs.lemmas.List.Elements.{All-append, All-head, All-nil, All-tail}
use Rattle.list_totals.specs.Totals.{total}
use Rattle.series_core.specs.Collection.{Collection}
use Rattle.isax_word.specs.declared.layout.Layout.{Layout}
use Rattle.isax_word.specs.declared.member.Member.{Member}
use Rattle.isax_word.specs.FullWord.{full_word}
use Rattle.subtree_build.specs.Assembly.{AddUp}
use Rattle.subtree_build.specs.Members.{with_own_word}
use Rattle.saved_index.specs.declared.members.MemberRow.{MemberRow}
use Rattle.saved_index.specs.Membership.{IsRowFor, all_members, cut_numbers, number_of, with_word, words_of}

-- there are as many lists as counts
pub length-cut : (ks ns : List ℕ) → length (cut_numbers ks ns) ≡ length ks
length-cut [] ns = refl
length-cut (k ∷ ks) ns = ap (λ n. suc n) (length-cut ks (drop k ns))

-- numbers behind those of the lists change nothing
pub cut_front : (ks ns more : List ℕ) → total (λ n. n) ks ≤ length ns → cut_numbers ks (ns ++ more) ≡ cut_numbers ks ns
cut_front [] ns more low = refl
cut_front (k ∷ ks) ns more low =
    ap (λ (xs : List ℕ). xs ∷ cut_numbers ks (drop k (ns ++ more))) (take-append-le k ns more (omega (arith, low)))
    ∙ ap (λ (xs : List ℕ). take k ns ∷ cut_numbers ks xs) (drop-append-le k ns more (omega (arith, low)))
    ∙ ap (λ (ls : List (List ℕ)). take k ns ∷ ls) (cut_front ks (drop k ns) more (omega (arith, low, length-drop k ns)))

-- so they may as well be cut off
pub cut_taken : (ks ns : List ℕ) (n : ℕ) → AddUp ks n → n ≤ length ns → cut_numbers ks (take n ns) ≡ cut_numbers ks ns
cut_taken ks ns n all low =
    sym (cut_front ks (take n ns) (drop n ns) (omega (arith, all, length-take-le n ns low)))
    ∙ ap (cut_numbers ks) (take-append-drop n ns)

-- those of members that are cut off as well
pub cut_members : (ks : List ℕ) (ms : List Member) (n : ℕ) → AddUp ks n → n ≤ length ms
    → cut_numbers ks (map number_of (take n ms)) ≡ cut_numbers ks (map number_of ms)
cut_members ks ms n all low =
    ap (cut_numbers ks) (sym (take-map number_of n ms))
    ∙ cut_taken ks (map number_of ms) n all (omega (arith, low, length-map ms number_of))

-- numbers that are counted are one list more
pub cut_more : (ks ns xs : List ℕ) (k : ℕ) → AddUp ks (length ns) → length xs ≡ k
    → cut_numbers (ks ++ k ∷ []) (ns ++ xs) ≡ cut_numbers ks ns ++ xs ∷ []
cut_more [] ns xs k none long =
    ap (λ (front : List ℕ). take k (front ++ xs) ∷ []) (nil_from_length ns (sym none))
    ∙ ap (λ (l : List ℕ). l ∷ []) (take_all k xs (omega (arith, long)))
cut_more (c ∷ ks) ns xs k all long =
    let fits : c ≤ length ns = omega (arith, all) in
    ap (λ (l : List ℕ). l ∷ cut_numbers (ks ++ k ∷ []) (drop c (ns ++ xs))) (take-append-le c ns xs fits)
    ∙ ap (λ (l : List ℕ). take c ns ∷ cut_numbers (ks ++ k ∷ []) l) (drop-append-le c ns xs fits)
    ∙ ap (λ (ls : List (List ℕ)). take c ns ∷ ls) (cut_more ks (drop c ns) xs k (omega (arith, all, length-drop c ns)) long)

-- members whose numbers are counted, put behind the first so many, are one list more
pub list_put : (ks : List ℕ) (ms new : List Member) (n k : ℕ) (numbers : List ℕ) → AddUp ks n → n ≤ length ms → length numbers ≡ k
    → map number_of new ≡ map number_of (take n ms) ++ numbers
    → cut_numbers (ks ++ k ∷ []) (map number_of new) ≡ cut_numbers ks (map number_of ms) ++ numbers ∷ []
list_put ks ms new n k numbers all low long put =
    let front = map number_of (take n ms) in
    let many : AddUp ks (length front) = all ∙ sym (length-map (take n ms) number_of ∙ length-take-le n ms low) in
    ap (cut_numbers (ks ++ k ∷ [])) put
    ∙ cut_more ks front numbers k many long
    ∙ ap (λ (ls : List (List ℕ)). ls ++ numbers ∷ []) (cut_members ks ms n all low)

-- and they are so many more
pub length-put : (ms new : List Member) (n k : ℕ) (numbers : List ℕ) → n ≤ length ms → length numbers ≡ k
    → map number_of new ≡ map number_of (take n ms) ++ numbers → length new ≡ n + k
length-put ms new n k numbers low long put =
    omega (
      arith,
      length-map new number_of,
      ap (λ (ns : List ℕ). length ns) put,
      length-append (map number_of (take n ms)) numbers,
      length-map (take n ms) number_of,
      length-take-le n ms low,
      long,
    )

-- lists are as long as they are counted
pub cut_lengths : (ks ns : List ℕ) → AddUp ks (length ns) → ks ≡ map (λ (l : List ℕ). length l) (cut_numbers ks ns)
cut_lengths [] ns all = refl
cut_lengths (k ∷ ks) ns all =
    ap (λ n. n ∷ ks) (sym (length-take-le k ns (omega (arith, all))))
    ∙ ap (λ (l : List ℕ). length (take k ns) ∷ l) (cut_lengths ks (drop k ns) (omega (arith, all, length-drop k ns)))

-- what is made of each number, list after list, is made of the row
pub cut_all : (f : ℕ → Member) (ks ns : List ℕ) → AddUp ks (length ns) → flat_map (λ (l : List ℕ). map f l) (cut_numbers ks ns) ≡ map f ns
cut_all f [] ns none = sym (ap (map f) (nil_from_length ns (sym none)))
cut_all f (k ∷ ks) ns all =
    ap (λ (ms : List Member). map f (take k ns) ++ ms) (cut_all f ks (drop k ns) (omega (arith, all, length-drop k ns)))
    ∙ sym (map-append f (take k ns) (drop k ns))
    ∙ ap (map f) (take-append-drop k ns)

-- what holds of the numbers of all lists holds of the row
pub cut_each : (P : ℕ → Type 0) (ks ns : List ℕ) → AddUp ks (length ns) → All (λ (l : List ℕ). All P l) (cut_numbers ks ns) → All P ns
cut_each P [] ns none each = subst (All P) (sym (nil_from_length ns (sym none))) (All-nil P)
cut_each P (k ∷ ks) ns all each =
    subst (All P) (take-append-drop k ns)
    (All-append P (take k ns) (drop k ns)
    (All-head (λ (l : List ℕ). All P l) (take k ns) (cut_numbers ks (drop k ns)) each)
    (cut_each P ks (drop k ns) (omega (arith, all, length-drop k ns))
    (All-tail (λ (l : List ℕ). All P l) (take k ns) (cut_numbers ks (drop k ns)) each)))

module _ (c : Collection) (layout : Layout) where
  -- a member of a number gets the word that has this number
  own_of_number : (m : Member) → m.number < length c.series → with_own_word c layout m ≡ with_word (words_of c layout) m.number
  own_of_number m low =
      ap (λ (full : List ℕ). let own : Member = record { number = m.number; full = full } in own)
      (sym (get_or-map (full_word layout) c.series m.number [] [] low))

  -- so do all members in a row
  owns : (ms : List Member) → All (λ n. n < length c.series) (map number_of ms)
      → map (with_own_word c layout) ms ≡ map (with_word (words_of c layout)) (map number_of ms)
  owns [] each = refl
  owns (m ∷ ms) each =
      ap (λ (x : Member). x ∷ map (with_own_word c layout) ms)
      (own_of_number m (All-head (λ n. n < length c.series) m.number (map number_of ms) each))
      ∙ ap (λ (xs : List Member). with_word (words_of c layout) m.number ∷ xs)
      (owns ms (All-tail (λ n. n < length c.series) m.number (map number_of ms) each))

  -- members whose numbers are cut into lists are the members of these
  pub row_is : (lists : List (List ℕ)) (r : MemberRow) → layout.cuts.row_length ≡ c.points
      → AddUp r.counts.items (length r.members.items) → length r.members.items < 2 ^ 32
      → cut_numbers r.counts.items (map number_of r.members.items) ≡ lists
      → All (λ (l : List ℕ). All (λ n. n < length c.series) l) lists → IsRowFor c layout lists r
  row_is lists r points all few cut each =
      let P : ℕ → Type 0 = λ n. n < length c.series in
      let ms = r.members.items in
      let ns = map number_of ms in
      let adds : AddUp r.counts.items (length ns) = all ∙ sym (length-map ms number_of) in
      let below : All P ns
      = cut_each P r.counts.items ns adds (subst (λ (ls : List (List ℕ)). All (λ (l : List ℕ). All P l) ls) (sym cut) each) in
      record {
        counts = cut_lengths r.counts.items ns adds ∙ ap (map (λ (l : List ℕ). length l)) cut;
        own = owns ms below ∙ sym (cut_all (with_word (words_of c layout)) r.counts.items ns adds)
            ∙ ap (all_members (words_of c layout)) cut;
        can = record {
          row_length = points;
          series = λ k d inside. subst P (get_or-map number_of ms k d (number_of d) inside) (below k (number_of d) (omega (arith, length-map ms number_of)));
          few = few;
        };
      }
