-- Each node of a divided tree stands under its word (`divided_stands`), and each root child under its one-bit word
-- (`roots_stand`).
use Rattle.std.proofs.Common.{◌≡◌, ℕ, zero, suc, ◌+◌, ◌<◌, true, false, List, [], ◌∷◌, ◌++◌, length, refl, sym, ap, ◌∙◌, subst, ⊎_elim, arith, append_assoc, length-append}
use Rattle.std.specs.Prelude.{Option, Some, None, filter, nat_le, ◌&&◌}
use Rattle.std.proofs.lemmas.Bool.{cond_both, cases_lt, and_left, and_right}
use Rattle.std.proofs.lemmas.List.Filters.{length-filter_both}
use Rattle.isax_word.specs.declared.word.Part.{Part}
use Rattle.isax_word.specs.Word.{IsWord, part_at, child_word}
use Rattle.isax_word.proofs.Words.{IsWord-child_word}
use Rattle.isax_word.specs.declared.member.Member.{Member}
use Rattle.subtree_build.specs.declared.leaf.TreeLeaf.{TreeLeaf}
use Rattle.subtree_build.specs.declared.split.Triple.{Triple}
use Rattle.subtree_build.specs.Tree.{Tree, absent, leaf, split, is_absent, leaves_of, numbered}
use Rattle.subtree_build.specs.Division.{bits_left, leaf_with, divide}
use Rattle.subtree_build.specs.Splitting.{goes_high, goes_low, triple_of, split_segment, lesser_of}
use Rattle.subtree_build.specs.Index.{StandsUnder, leaf_at}
use Rattle.subtree_build.proofs.Splits.{IsBestSoFar, best_passes, best_meets, best_is_split_segment, no_bits_left}
use Rattle.subtree_build.proofs.Divisions.{bits_left-child}

-- the first n segments have a best one, or none of them can be split
best_of_first : (word : List Part) (members : List Member) (n : ℕ)
    → (o : Option Triple) × IsBestSoFar word members n o
best_of_first word members zero = (None, λ j before. absurd (omega arith))
best_of_first word members (suc n) =
    let so_far = best_of_first word members n in
    let P : ℕ → Type 0 = λ k. (o : Option Triple) × IsBestSoFar word members k o in
    let one_more : n + 1 ≡ suc n = omega arith in
    subst P one_more
    (⊎_elim
    (λ divisible. (
      Some (lesser_of so_far.0 (triple_of word members n)),
      best_meets word members n so_far.0 divisible so_far.1,
    ))
    (λ full. (so_far.0, best_passes word members n so_far.0 full so_far.1))
    (cases_lt (part_at word n).bits 8))

-- the segment of a split, and that it has a bit left
pub record CanSplit (word : List Part) (j : ℕ) : Type 0 where
  pub used : j < length word
  pub divisible : (part_at word j).bits < 8

-- a word that lacks a bit can be split in the segment of the split
pub can_split : (word : List Part) (members : List Member) → 0 < bits_left word
    → CanSplit word (split_segment word members)
can_split word members lacks =
    let best = best_of_first word members (length word) in by_best best.0 best.1
  where
    by_best : (o : Option Triple) → IsBestSoFar word members (length word) o
        → CanSplit word (split_segment word members)
    by_best None none = absurd (omega (arith, no_bits_left word none))
    by_best (Some t) h =
        let P : ℕ → Type 0 = λ j. CanSplit word j in
        subst P (best_is_split_segment word members t h)
        (record { used = h.among; divisible = h.divisible })

-- a numbered tree is absent where the tree is
absent_numbered : {A : Type 0} (first : ℕ) (t : Tree A) → is_absent (numbered first t) ≡ is_absent t
absent_numbered first absent = refl
absent_numbered first (leaf x) = refl
absent_numbered first (split j low high) = refl

-- the node of some members is there
present_with_members : (size lacking : ℕ) (word : List Part) (members : List Member) → 0 < length members
    → is_absent (divide size lacking word members) ≡ false
unfolding divide
present_with_members size lacking word [] some = absurd (omega arith)
present_with_members size zero word (m ∷ members) some = refl
present_with_members size (suc lacking) word (m ∷ members) some =
    cond_both (nat_le (length (m ∷ members)) size) _ _ (λ (t : Tree TreeLeaf). is_absent t ≡ false)
    (λ _. refl) (λ _. refl)

-- of the children of some members one is there
some_child : (size lacking : ℕ) (word : List Part) (members : List Member) (j : ℕ) → 0 < length members
    → (a b : ℕ)
    → (is_absent (numbered a (divide size lacking (child_word word j false) (filter (goes_low word j) members)))
    && is_absent (numbered b (divide size lacking (child_word word j true) (filter (goes_high word j) members))))
    ≡ false
some_child size lacking word members j some a b =
    let lows = filter (goes_low word j) members in
    let highs = filter (goes_high word j) members in
    let low = divide size lacking (child_word word j false) lows in
    let high = divide size lacking (child_word word j true) highs in
    let both = length-filter_both (goes_high word j) (goes_low word j) (λ x. refl) members in
    ⊎_elim
    (λ some_low. and_left (is_absent (numbered a low)) (is_absent (numbered b high))
    (absent_numbered a low ∙ present_with_members size lacking (child_word word j false) lows some_low))
    (λ no_low. and_right (is_absent (numbered a low)) (is_absent (numbered b high))
    (absent_numbered b high
    ∙ present_with_members size lacking (child_word word j true) highs (omega (arith, both, no_low))))
    (cases_lt 0 (length lows))

-- the leaf behind the leaves before it
at_behind : (before after : List TreeLeaf) (x : TreeLeaf)
    → leaf_at (before ++ (x ∷ after)) (length before) ≡ x
at_behind [] after x = refl
at_behind (b ∷ before) after x = at_behind before after x

-- a leaf stands under its word
leaf_stands : (word : List Part) (members : List Member) (before after : List TreeLeaf)
    → StandsUnder (before ++ (leaf_with word members ∷ after)) word (leaf (length before))
leaf_stands word members before after = (
  omega (arith, length-append before (leaf_with word members ∷ after)),
  ap (λ (x : TreeLeaf). x.word) (at_behind before after (leaf_with word members)),
)

-- each node of a divided tree stands under its word among leaves that hold the tree's in order
pub divided_stands : (size lacking : ℕ) (word : List Part) (members : List Member)
    (before after : List TreeLeaf) → IsWord word → bits_left word ≡ lacking
    → StandsUnder (before ++ (leaves_of (divide size lacking word members) ++ after)) word
    (numbered (length before) (divide size lacking word members))
unfolding divide
divided_stands size lacking word [] before after kept lacks = tt
divided_stands size zero word (m ∷ members) before after kept lacks =
    leaf_stands word (m ∷ members) before after
divided_stands size (suc lacking) word (m ∷ members) before after kept lacks =
    let all = m ∷ members in
    let j = split_segment word all in
    let low_word = child_word word j false in
    let high_word = child_word word j true in
    let low = divide size lacking low_word (filter (goes_low word j) all) in
    let high = divide size lacking high_word (filter (goes_high word j) all) in
    let can = can_split word all (omega arith) in
    let low_lacks : bits_left low_word ≡ lacking
    = let h = bits_left-child word j false can.used can.divisible in omega arith in
    let high_lacks : bits_left high_word ≡ lacking
    = let h = bits_left-child word j true can.used can.divisible in omega arith in
    let some : (is_absent (numbered (length before) low)
    && is_absent (numbered (length before + length (leaves_of low)) high)) ≡ false
    = some_child size lacking word all j (omega arith) (length before)
    (length before + length (leaves_of low)) in
    let whole = before ++ ((leaves_of low ++ leaves_of high) ++ after) in
    let low_first : before ++ (leaves_of low ++ (leaves_of high ++ after)) ≡ whole
    = ap (λ (xs : List TreeLeaf). before ++ xs) (sym (append_assoc (leaves_of low) (leaves_of high) after)) in
    let high_first : (before ++ leaves_of low) ++ (leaves_of high ++ after) ≡ whole
    = append_assoc before (leaves_of low) (leaves_of high ++ after) ∙ low_first in
    let P : List TreeLeaf → Type 0 = λ leaves. StandsUnder leaves low_word (numbered (length before) low) in
    let Q : List TreeLeaf → Type 0 = λ leaves. StandsUnder leaves high_word
    (numbered (length before + length (leaves_of low)) high) in
    let R : ℕ → Type 0 = λ n. StandsUnder ((before ++ leaves_of low) ++ (leaves_of high ++ after)) high_word
    (numbered n high) in
    cond_both (nat_le (length all) size) (leaf (leaf_with word all)) (split j low high)
    (λ (t : Tree TreeLeaf). StandsUnder (before ++ (leaves_of t ++ after)) word (numbered (length before) t))
    (λ _. leaf_stands word all before after)
    (λ _. (
      record { used = can.used; divisible = can.divisible; some_child = some },
      subst P low_first
          (divided_stands size lacking low_word (filter (goes_low word j) all) before (leaves_of high ++ after)
          (IsWord-child_word word j false kept can.used can.divisible) low_lacks),
      subst Q high_first
          (subst R (length-append before (leaves_of low))
          (divided_stands size lacking high_word (filter (goes_high word j) all)
          (before ++ leaves_of low) after
          (IsWord-child_word word j true kept can.used can.divisible) high_lacks)),
    ))
