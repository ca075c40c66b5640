-- The segment of the least triple is the one in which a node is split (`best_is_split_segment`).
use Rattle.std.proofs.Common.{◌≡◌, ℕ, suc, ◌+◌, ◌<◌, ◌≤◌, ◌⊎◌, true, false, List, [], ◌∷◌, length, refl, sym, ap, subst, inl, inr, ⊎_elim, arith}
use Rattle.std.specs.Prelude.{Option, Some, None, not, unwrap_or}
use Rattle.std.specs.List.{list_all, range_with_len}
use Rattle.std.proofs.lemmas.Bool.{cases_lt, and_from, and_left, and_right, not_from_false, not_from_true, lt-ltb, le-ltb, cond_both}
use Rattle.std.proofs.lemmas.Bool.Decides.{nat_tests}
use Rattle.isax_word.specs.declared.word.Part.{Part}
use Rattle.isax_word.specs.Word.{part_at}
use Rattle.isax_word.specs.declared.member.Member.{Member}
use Rattle.subtree_build.specs.declared.split.Triple.{Triple}
use Rattle.subtree_build.specs.Splitting.{is_less, triple_of, is_divisible, is_better, is_best, split_segment, IsBestOf, NoneDivisible, lesser_of}
use Rattle.subtree_build.specs.Division.{bits_left}
use Rattle.subtree_build.proofs.Ranges.{find_in_range, all_in_range, not_all_in_range}

-- no triple is less than itself
less_self : (t : Triple) → is_less t t ≡ false
less_self t = grind (arith, nat_tests)

-- of two triples of different segments one is less
less_either : (s t : Triple) → (s.segment ≡ t.segment → ⊥) → is_less s t ≡ false → is_less t s ≡ true
less_either s t other h = grind (arith, nat_tests)

-- what is not less than a lesser triple is not less than a triple that is not less
less_trans : (r s t : Triple) → is_less r s ≡ false → is_less s t ≡ false → is_less r t ≡ false
less_trans r s t h i = grind (arith, nat_tests)

-- what is less is not greater
less_after : (s t : Triple) → is_less s t ≡ true → is_less t s ≡ false
less_after s t h = grind (arith, nat_tests)

-- the best of the first n segments, if any of them can be split
abbrev pub IsBestSoFar : List Part → List Member → ℕ → Option Triple → Type 0
IsBestSoFar word members n None = NoneDivisible word n
IsBestSoFar word members n (Some t) = IsBestOf word members n t

-- what holds below n and at n holds below n + 1
below_next : (P : ℕ → Type 0) (n : ℕ) → ((i : ℕ) → i < n → P i) → P n → (i : ℕ) → i < n + 1 → P i
below_next P n below here i before =
    ⊎_elim (below i) (λ past. subst P (same past) here) (cases_lt i n)
  where
    same : n ≤ i → n ≡ i
    same past = omega arith

-- a segment that cannot be split changes nothing
pub best_passes : (word : List Part) (members : List Member) (n : ℕ) (best : Option Triple)
    → 8 ≤ (part_at word n).bits → IsBestSoFar word members n best → IsBestSoFar word members (n + 1) best
best_passes word members n None full h = below_next (λ i. 8 ≤ (part_at word i).bits) n h full
best_passes word members n (Some t) full h = record {
  among = omega (arith, h.among);
  is = h.is;
  divisible = h.divisible;
  least = below_next (λ i. (part_at word i).bits < 8 → is_less (triple_of word members i) t ≡ false) n
      h.least (λ divisible. absurd (omega arith));
}

-- a segment that can be split is the first, the best or not the best
pub best_meets : (word : List Part) (members : List Member) (n : ℕ) (best : Option Triple)
    → (part_at word n).bits < 8 → IsBestSoFar word members n best
    → IsBestOf word members (n + 1) (lesser_of best (triple_of word members n))
best_meets word members n None divisible h = record {
  among = omega arith;
  is = refl;
  divisible = divisible;
  least = below_next
      (λ i. (part_at word i).bits < 8 → is_less (triple_of word members i) (triple_of word members n) ≡ false)
      n (λ i before other. absurd (omega (arith, h i before))) (λ _. less_self (triple_of word members n));
}
best_meets word members n (Some t) divisible h =
    cond_both (is_less (triple_of word members n) t) (triple_of word members n) t
    (IsBestOf word members (n + 1)) taken kept
  where
    -- the new one is less
    taken : is_less (triple_of word members n) t ≡ true → IsBestOf word members (n + 1) (triple_of word members n)
    taken less = record {
      among = omega arith;
      is = refl;
      divisible = divisible;
      least = below_next
          (λ i. (part_at word i).bits < 8 → is_less (triple_of word members i) (triple_of word members n) ≡ false)
          n
          (λ i before other. less_trans (triple_of word members i) t (triple_of word members n)
          (h.least i before other) (less_after (triple_of word members n) t less))
          (λ _. less_self (triple_of word members n));
    }

    -- it is not
    kept : is_less (triple_of word members n) t ≡ false → IsBestOf word members (n + 1) t
    kept no_less = record {
      among = omega (arith, h.among);
      is = h.is;
      divisible = h.divisible;
      least = below_next (λ i. (part_at word i).bits < 8 → is_less (triple_of word members i) t ≡ false) n
          h.least (λ _. no_less);
    }

-- the segment of the least triple is the one in which a node is split
pub best_is_split_segment : (word : List Part) (members : List Member) (t : Triple)
    → IsBestOf word members (length word) t → t.segment ≡ split_segment word members
unfolding split_segment
best_is_split_segment word members t h =
    sym (ap (λ o. unwrap_or o 0)
    (find_in_range (is_best word members) 0 (length word) t.segment (omega arith) (omega (arith, h.among))
    (and_from (is_divisible word t.segment) (list_all (λ i. not (is_better word members i t.segment)) (range_with_len 0 (length word)))
    (lt-ltb _ _ h.divisible)
    (all_in_range (λ i. not (is_better word members i t.segment)) 0 (length word)
    (λ i from to. not_from_false (is_better word members i t.segment) (not_better i (omega arith)))))
    (λ k from before. not_best k (omega (arith, before, h.among)) (omega arith) (cases_lt (part_at word k).bits 8))))
  where
    -- no segment is better
    not_better : (i : ℕ) → i < length word → is_better word members i t.segment ≡ false
    not_better i before =
        ⊎_elim
        (λ divisible. and_right (is_divisible word i) (is_less (triple_of word members i) (triple_of word members t.segment))
        (subst (λ (b : Triple). is_less (triple_of word members i) b ≡ false) h.is (h.least i before divisible)))
        (λ full. and_left (is_divisible word i) (is_less (triple_of word members i) (triple_of word members t.segment))
        (le-ltb (part_at word i).bits 8 full))
        (cases_lt (part_at word i).bits 8)

    -- another segment is not the best
    not_best : (k : ℕ) → k < length word → (k ≡ t.segment → ⊥)
        → ((part_at word k).bits < 8) ⊎ (8 ≤ (part_at word k).bits) → is_best word members k ≡ false
    not_best k before other (inl divisible) =
        let all = list_all (λ i. not (is_better word members i k)) (range_with_len 0 (length word)) in
        let no : is_less (triple_of word members k) (triple_of word members t.segment) ≡ false
        = subst (λ (b : Triple). is_less (triple_of word members k) b ≡ false) h.is (h.least k before divisible) in
        let less = less_either (triple_of word members k) (triple_of word members t.segment) other no in
        and_right (is_divisible word k) all
        (not_all_in_range (λ i. not (is_better word members i k)) 0 (length word) t.segment (omega arith)
        (omega (arith, h.among))
        (not_from_true (is_better word members t.segment k)
        (and_from (is_divisible word t.segment) (is_less (triple_of word members t.segment) (triple_of word members k))
        (lt-ltb _ _ h.divisible) less)))
    not_best k before other (inr full) =
        and_left (is_divisible word k) (list_all (λ i. not (is_better word members i k)) (range_with_len 0 (length word)))
        (le-ltb (part_at word k).bits 8 full)

-- a word of which no segment can be split lacks no bit
pub no_bits_left : (word : List Part) → NoneDivisible word (length word) → bits_left word ≡ 0
no_bits_left [] h = refl
no_bits_left (p ∷ word) h =
    omega (arith, h 0 (omega arith), no_bits_left word (λ j before. h (suc j) (omega arith)))
