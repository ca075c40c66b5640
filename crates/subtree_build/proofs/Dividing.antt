-- Members divided in place, one after another (`next_in_both`), until all are (`all_are_divided`); members that all go to one side lie
-- as they are divided (`one_side`).
use Rattle.std.proofs.Common.{◌≡◌, ℕ, ◌+◌, zero, suc, ◌-◌, ◌<◌, ◌≤◌, ◌==◌, Bool, true, false, List, [], ◌∷◌, ◌++◌, length, get_or, set, take, drop, cond, refl, subst, sym, ap, ◌∙◌, arith, inl, inr, append-nil, length-append}
use Rattle.std.specs.Prelude.{◌⊎◌, filter, not, count_by}
use Rattle.std.proofs.lemmas.Bool.{cond-true, cond-false}
use Rattle.std.proofs.lemmas.List.{length-set, take-set, take_more, take_more_set, take_all, get_or-drop, drop-drop, drop-set-lt}
use Rattle.std.proofs.lemmas.List.Elements.{filter-append}
use Rattle.std.proofs.lemmas.List.Filters.{length-filter_both}
use Rattle.std.proofs.lemmas.List.Sums.{length-filter, count_by-le-length}
use Rattle.std.proofs.Math.Seq.{take-append_seam, drop-append_seam}
use Rattle.isax_word.specs.declared.member.Member.{Member}

-- The first i members are divided: those that do not pass stand in front, the others wait, and the rest lies as it did.
pub record IsDivided (p : Member → Bool) (all now waiting : List Member) (low i : ℕ) : Type 0 where
  pub front : take low now ≡ filter (λ m. not (p m)) (take i all)
  pub others : waiting ≡ filter p (take i all)
  pub rest : drop i now ≡ drop i all
  pub long : length now ≡ length all
  pub count : low + length waiting ≡ i

module _ (p : Member → Bool) (all now waiting : List Member) (low i : ℕ) (was : IsDivided p all now waiting low i)
    (m : Member) (is : m ≡ get_or now i m) (inside : i < length all) where
  -- the next member is the one that stood there
  pub same_next : m ≡ get_or all i m
  same_next =
      is
      ∙ ap (λ k. get_or now k m) (let e : i ≡ i + 0 = omega arith in e)
      ∙ sym (get_or-drop i now 0 m)
      ∙ ap (λ (l : List Member). get_or l 0 m) was.rest
      ∙ get_or-drop i all 0 m
      ∙ ap (λ k. get_or all k m) (let e : i + 0 ≡ i = omega arith in e)

  -- what passes of one member more
  filter_more : (q : Member → Bool) → filter q (take (i + 1) all) ≡ filter q (take i all) ++ filter q (m ∷ [])
  filter_more q =
      ap (filter q) (take_more all i m inside) ∙ filter-append q (take i all) (get_or all i m ∷ [])
      ∙ ap (λ x. filter q (take i all) ++ filter q (x ∷ [])) (sym same_next)

  -- the rest behind one member more
  rest_more : drop (i + 1) now ≡ drop (i + 1) all
  rest_more = drop_next now ∙ ap (λ (l : List Member). drop 1 l) was.rest ∙ sym (drop_next all)
    where
      drop_next : (xs : List Member) → drop (i + 1) xs ≡ drop 1 (drop i xs)
      drop_next xs = ap (λ (k : ℕ). drop k xs) (let e : i + 1 ≡ i + 1 = omega arith in e) ∙ sym (drop-drop 1 i xs)

  -- the next member passes, and waits
  next_high : p m ≡ true → IsDivided p all now (waiting ++ m ∷ []) low (i + 1)
  next_high passes = record {
    front = was.front
        ∙ sym (append-nil (filter (λ x. not (p x)) (take i all)))
        ∙ ap (λ l. filter (λ x. not (p x)) (take i all) ++ l) (sym (cond-false _ _ _ (ap not passes)))
        ∙ sym (filter_more (λ x. not (p x)));
    others = ap (λ l. l ++ m ∷ []) was.others
        ∙ ap (λ l. filter p (take i all) ++ l) (sym (cond-true _ _ _ passes))
        ∙ sym (filter_more p);
    rest = rest_more;
    long = was.long;
    count = omega (arith, was.count, length-append waiting (m ∷ []));
  }

  -- the next member does not pass, and goes to the front
  next_low : p m ≡ false → IsDivided p all (set now low m) waiting (low + 1) (i + 1)
  next_low fails = record {
    front = take_more_set now low m (omega (arith, was.count, was.long))
        ∙ ap (λ l. l ++ m ∷ []) was.front
        ∙ ap (λ l. filter (λ x. not (p x)) (take i all) ++ l) (sym (cond-true _ _ _ (ap not fails)))
        ∙ sym (filter_more (λ x. not (p x)));
    others = was.others
        ∙ sym (append-nil (filter p (take i all)))
        ∙ ap (λ l. filter p (take i all) ++ l) (sym (cond-false _ _ _ fails))
        ∙ sym (filter_more p);
    rest = drop-set-lt (i + 1) now low m (omega (arith, was.count)) ∙ rest_more;
    long = length-set now low m ∙ was.long;
    count = omega (arith, was.count);
  }

-- what is written behind the front changes nothing, where it is no later than at i
written_behind : (p : Member → Bool) (all now waiting : List Member) (low i : ℕ) (m : Member) → low < i
    → IsDivided p all now waiting low i → IsDivided p all (set now low m) waiting low i
written_behind p all now waiting low i m before was = record {
  front = take-set now low m ∙ was.front;
  others = was.others;
  rest = drop-set-lt i now low m before ∙ was.rest;
  long = length-set now low m ∙ was.long;
  count = was.count;
}

-- a bit is 1 or 0 as it is 1 or not
pub bit_is : (n : ℕ) → n < 2 → n ≡ cond (n == 1) 1 0
bit_is zero few = refl
bit_is (suc zero) few = refl
bit_is (suc (suc n)) few = absurd (omega (arith, few))

-- the next member is put in both, and stays where it belongs: `bit` is 1 where it passes, and else 0
pub next_in_both : (p : Member → Bool) (all now scratch : List Member) (low high i bit : ℕ) (m : Member)
    → IsDivided p all now (take high scratch) low i → m ≡ get_or now i m → i < length all → high < length scratch
    → bit ≡ cond (p m) 1 0 → IsDivided p all (set now low m) (take (high + bit) (set scratch high m)) (low + (1 - bit)) (i + 1)
next_in_both p all now scratch low high i bit m was is inside room told = by_cases (p m) refl told
  where
    by_cases : (b : Bool) → p m ≡ b → bit ≡ cond b 1 0
        → IsDivided p all (set now low m) (take (high + bit) (set scratch high m)) (low + (1 - bit)) (i + 1)
    by_cases true passes one =
        let before : low < i + 1 = omega (arith, was.count) in
        let next = written_behind p all now (take high scratch ++ m ∷ []) low (i + 1) m before
        (next_high p all now (take high scratch) low i was m is inside passes) in
        let waits : take high scratch ++ m ∷ [] ≡ take (high + bit) (set scratch high m)
        = sym (take_more_set scratch high m room) ∙ ap (λ k. take (high + k) (set scratch high m)) (sym one) in
        let stays : low ≡ low + (1 - bit) = omega (arith, one) in
        subst (λ ms. IsDivided p all (set now low m) ms (low + (1 - bit)) (i + 1)) waits
        (subst (λ k. IsDivided p all (set now low m) (take high scratch ++ m ∷ []) k (i + 1)) stays next)
    by_cases false fails none =
        let next = next_low p all now (take high scratch) low i was m is inside fails in
        let nothing : high ≡ high + bit = omega (arith, none) in
        let waits : take high scratch ≡ take (high + bit) (set scratch high m)
        = sym (take-set scratch high m) ∙ ap (λ k. take k (set scratch high m)) nothing in
        let more : low + 1 ≡ low + (1 - bit) = omega (arith, none) in
        subst (λ ms. IsDivided p all (set now low m) ms (low + (1 - bit)) (i + 1)) waits
        (subst (λ k. IsDivided p all (set now low m) (take high scratch) k (i + 1)) more next)

-- all members are divided once those that wait stand behind the front
pub all_are_divided : (p : Member → Bool) (all now waiting : List Member) (low i : ℕ)
    → IsDivided p all now waiting low i → i ≡ length all
    → take low now ++ waiting ≡ filter (λ m. not (p m)) all ++ filter p all
all_are_divided p all now waiting low i is end =
    let whole : take i all ≡ all = ap (λ (k : ℕ). take k all) end ∙ take_all (length all) all (omega arith) in
    ap (λ l. l ++ waiting) is.front
    ∙ ap (λ l. filter (λ m. not (p m)) (take i all) ++ l) is.others
    ∙ ap (λ (l : List Member). filter (λ m. not (p m)) l ++ filter p l) whole

-- where as many pass as there are, all do
all_pass : (p : Member → Bool) (all : List Member) → length all ≤ length (filter p all) → filter p all ≡ all
all_pass p [] many = refl
all_pass p (m ∷ all) many = by_cases (p m) many (all_pass p all)
  where
    by_cases : (b : Bool) → suc (length all) ≤ length (cond b (m ∷ filter p all) (filter p all))
        → (length all ≤ length (filter p all) → filter p all ≡ all)
        → cond b (m ∷ filter p all) (filter p all) ≡ m ∷ all
    by_cases true many rest = ap (λ l. m ∷ l) (rest (omega (arith, many)))
    by_cases false many rest = absurd (omega (arith, many, length-filter p all, count_by-le-length p all))

-- where none passes, nothing is left
none_passes : (p : Member → Bool) (all : List Member) → length (filter p all) ≡ 0 → filter p all ≡ []
none_passes p all none = empty (filter p all) none
  where
    empty : (l : List Member) → length l ≡ 0 → l ≡ []
    empty [] _ = refl
    empty (m ∷ l) some = absurd (omega (arith, some))

-- what does not pass is what is left of all
pub low_count : (p : Member → Bool) (all : List Member) → length all - count_by p all ≡ length (filter (λ m. not (p m)) all)
low_count p all =
    omega (arith, length-filter p all, length-filter_both p (λ m. not (p m)) (λ m. refl) all)

-- members that all go to one side are divided as they lie
pub one_side : (p : Member → Bool) (all : List Member) → (length all - count_by p all ≡ 0) ⊎ (count_by p all ≡ 0)
    → all ≡ filter (λ m. not (p m)) all ++ filter p all
one_side p all (inl none) =
    let low = none_passes (λ m. not (p m)) all (sym (low_count p all) ∙ none) in
    sym (ap (λ l. l ++ filter p all) low
    ∙ all_pass p all (omega (arith, none, length-filter p all)))
one_side p all (inr none) =
    let high = none_passes p all (length-filter p all ∙ none) in
    sym (ap (λ l. filter (λ m. not (p m)) all ++ l) high
    ∙ append-nil (filter (λ m. not (p m)) all)
    ∙ all_pass (λ m. not (p m)) all (omega (arith, none, low_count p all)))

-- the front of two lists is the first
pub front_is : (all front back some : List Member) (n : ℕ) → all ≡ front ++ back → n ≡ length front
    → some ≡ take n all → some ≡ front
front_is all front back some n whole long is =
    is ∙ ap (λ (k : ℕ). take k all) long ∙ ap (λ (l : List Member). take (length front) l) whole
    ∙ take-append_seam front back

-- what lies behind it is the second
pub back_is : (all front back some : List Member) (n : ℕ) → all ≡ front ++ back → n ≡ length front
    → some ≡ drop n all → some ≡ back
back_is all front back some n whole long is =
    is ∙ ap (λ (k : ℕ). drop k all) long ∙ ap (λ (l : List Member). drop (length front) l) whole
    ∙ drop-append_seam front back
