-- Numbers read one after another: the next one (`one_number_more`), none (`no_number`), and all (`all_numbers`).
use Rattle.std.proofs.Common.{◌≡◌, ℕ, suc, ◌+◌, ◌-◌, ◌<◌, ◌≤◌, Bool, true, false, List, [], ◌∷◌, ◌++◌, length, drop, Some, None, refl, sym, ap, ◌∙◌, arith, append_assoc, append-nil}
use Rattle.std.specs.Prelude.{◌&&◌, nat_le, nat_lt}
use Rattle.std.proofs.lemmas.Bool.{cond-true, cond-false}
use Rattle.std.proofs.lemmas.Bool.Decides.{nat_tests}
use Rattle.byteorder.specs.Endian.{little_number}
use Rattle.saved_index.specs.Reading.{Read, then_read, numbers_in}

-- whether a number can be the next
abbrev pub is_next : ℕ → ℕ → List ℕ → Bool
is_next from count bytes =
    nat_le 4 (length bytes) && (nat_le from (little_number 4 bytes) && nat_lt (little_number 4 bytes) count)

-- the numbers so far and those to come are all
pub record AreTold (all : Read (List ℕ)) (done : List ℕ) (left least count : ℕ) (rest : List ℕ) : Type 0 where
  pub told : all ≡ then_read (numbers_in left least count rest) (λ ns end. Some (done ++ ns, end))

-- before the first
pub none_told : (many count : ℕ) (bytes : List ℕ) → AreTold (numbers_in many 0 count bytes) [] many 0 count bytes
none_told many count bytes = record { told = sym (same (numbers_in many 0 count bytes)) }
  where
    same : (o : Read (List ℕ)) → then_read o (λ ns end. Some ([] ++ ns, end)) ≡ o
    same None = refl
    same (Some p) = refl

push_one : (o : Read (List ℕ)) (done : List ℕ) (n : ℕ)
    → then_read (then_read o (λ ns end. Some (n ∷ ns, end))) (λ ns end. Some (done ++ ns, end))
    ≡ then_read o (λ ns end. Some ((done ++ n ∷ []) ++ ns, end))
push_one None done n = refl
push_one (Some p) done n = ap (λ (xs : List ℕ). Some (xs, p.1)) (sym (append_assoc done (n ∷ []) p.0))

-- a number that can be the next is read
pub next_in : (k from count : ℕ) (bytes : List ℕ) → is_next from count bytes ≡ true
    → numbers_in (suc k) from count bytes
    ≡ then_read (numbers_in k (little_number 4 bytes + 1) count (drop 4 bytes))
    (λ ns end. Some (little_number 4 bytes ∷ ns, end))
unfolding numbers_in
next_in k from count bytes passes = cond-true (is_next from count bytes) _ None passes

-- and else nothing
none_in : (k from count : ℕ) (bytes : List ℕ) → is_next from count bytes ≡ false
    → numbers_in (suc k) from count bytes ≡ None
unfolding numbers_in
none_in k from count bytes fails = cond-false (is_next from count bytes) _ None fails

pub one_number_more : (all : Read (List ℕ)) (done : List ℕ) (many i least count n : ℕ) (rest next : List ℕ) → i < many
    → AreTold all done (many - i) least count rest → 4 ≤ length rest → n ≡ little_number 4 rest → least ≤ n → n < count
    → next ≡ drop 4 rest → AreTold all (done ++ n ∷ []) (many - (i + 1)) (n + 1) count next
one_number_more all done many i least count n rest next inside was long is low high next_is =
    let left : many - i ≡ suc (many - (i + 1)) = omega arith in
    let m = little_number 4 rest in
    let passes : is_next least count rest ≡ true = grind (arith, nat_tests) in
    let k = many - (i + 1) in
    record {
      told =
          was.told
          ∙ ap (λ j. then_read (numbers_in j least count rest) (λ ns end. Some (done ++ ns, end))) left
          ∙ ap (λ (o : Read (List ℕ)). then_read o (λ ns end. Some (done ++ ns, end))) (next_in k least count rest passes)
          ∙ push_one (numbers_in k (m + 1) count (drop 4 rest)) done m
          ∙ ap (λ x. then_read (numbers_in k (x + 1) count (drop 4 rest)) (λ ns end. Some ((done ++ x ∷ []) ++ ns, end))) (sym is)
          ∙ ap (λ bs. then_read (numbers_in k (n + 1) count bs) (λ ns end. Some ((done ++ n ∷ []) ++ ns, end))) (sym next_is);
    }

pub no_number : (all : Read (List ℕ)) (done : List ℕ) (many i least count : ℕ) (rest : List ℕ) → i < many
    → AreTold all done (many - i) least count rest → is_next least count rest ≡ false → all ≡ None
no_number all done many i least count rest inside was fails =
    let left : many - i ≡ suc (many - (i + 1)) = omega arith in
    was.told
    ∙ ap (λ j. then_read (numbers_in j least count rest) (λ ns end. Some (done ++ ns, end))) left
    ∙ ap (λ (o : Read (List ℕ)). then_read o (λ ns end. Some (done ++ ns, end)))
    (none_in (many - (i + 1)) least count rest fails)

pub too_short : (least count : ℕ) (rest : List ℕ) → length rest < 4 → is_next least count rest ≡ false
too_short least count rest short = grind (arith, nat_tests)

pub too_low : (least count n : ℕ) (rest : List ℕ) → n ≡ little_number 4 rest → n < least → is_next least count rest ≡ false
too_low least count n rest is low = grind (arith, nat_tests)

pub too_high : (least count n : ℕ) (rest : List ℕ) → n ≡ little_number 4 rest → count ≤ n → is_next least count rest ≡ false
too_high least count n rest is high = grind (arith, nat_tests)

pub all_numbers : (all : Read (List ℕ)) (done : List ℕ) (many i least count : ℕ) (rest : List ℕ) → many ≤ i
    → AreTold all done (many - i) least count rest → all ≡ Some (done, rest)
unfolding numbers_in
all_numbers all done many i least count rest end was =
    let left : many - i ≡ 0 = omega arith in
    was.told
    ∙ ap (λ j. then_read (numbers_in j least count rest) (λ ns end. Some (done ++ ns, end))) left
    ∙ ap (λ (xs : List ℕ). Some (xs, rest)) (append-nil done)
