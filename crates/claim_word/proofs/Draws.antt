-- Lists of pieces that are drawn: numbers that stand as often in two lists give the same pieces, in some order
-- (`same_pieces`).
use Rattle.std.proofs.Common.{◌≡◌, ◌⊎◌, true, All, length, ℕ, zero, suc, ◌+◌, ◌<◌, List, [], ◌∷◌, ◌++◌, refl, sym, ap, ◌∙◌, subst, append_assoc, arith}
use Rattle.std.specs.List.{range_with_len, flat_map}
use Rattle.std.specs.List.Sorted.{IsPermutation}
use Rattle.std.proofs.lemmas.Bool.Decides.{nat_tests}
use Rattle.std.proofs.lemmas.List.Concat.{flat_map-append}
use Rattle.std.proofs.lemmas.List.Sorted.{IsPermutation-refl, IsPermutation-trans, IsPermutation-append_left, IsPermutation-append_right, IsPermutation-append_comm}
use Rattle.list_totals.specs.Totals.{total, one_if_same, times, once_below}
use Rattle.list_totals.proofs.Splitting.{split_at, split_rest}
use Rattle.list_totals.proofs.Totals.{times_append, once_below_more}
use Rattle.claim_word.specs.Passes.{Pass, EachDrawnOnce}

-- the numbers from a on stand once each
times_range : (x a n : ℕ) → times x (range_with_len a n) + once_below x a ≡ once_below x (a + n)
times_range x a zero =
    let e : a + 0 ≡ a = omega arith in
    let last = ap (once_below x) e in
    omega arith
times_range x a (suc n) =
    let rest = times_range x (a + 1) n in
    let more = once_below_more x a a refl in
    let e : a + 1 + n ≡ a + suc n = omega arith in
    let last = ap (once_below x) e in
    omega arith

-- the numbers below n stand once each
pub times_below : (x n : ℕ) → times x (range_with_len 0 n) ≡ once_below x n
times_below x n =
    let all = times_range x 0 n in
    let none : once_below x 0 ≡ 0 = grind (arith, nat_tests) in
    let e : 0 + n ≡ n = omega arith in
    let last = ap (once_below x) e in
    omega arith

-- a number is another, and counts once, or is not
same_or_not : (x y : ℕ) → (x ≡ y) ⊎ (one_if_same x y ≡ 0)
same_or_not x y = grind (arith, nat_tests)

-- a number counts as itself
one_of : (x : ℕ) → one_if_same x x ≡ 1
one_of x = grind (arith, nat_tests)

module _ {X : Type 0} (f : ℕ → List X) where
  -- the piece of a number goes to the front
  to_front : (x : ℕ) (before behind : List ℕ)
      → IsPermutation (f x ++ flat_map f (before ++ behind)) (flat_map f (before ++ x ∷ behind))
  to_front x before behind =
      let a = flat_map f before in
      let b = flat_map f behind in
      let P : List X → List X → Type 0 = λ l m. IsPermutation l m in
      let whole : f x ++ a ++ b ≡ f x ++ flat_map f (before ++ behind) =
      append_assoc (f x) a b ∙ ap (λ l. f x ++ l) (sym (flat_map-append f before behind)) in
      let moved : a ++ f x ++ b ≡ flat_map f (before ++ x ∷ behind) =
      append_assoc a (f x) b ∙ sym (flat_map-append f before (x ∷ behind)) in
      subst (λ l. IsPermutation l (flat_map f (before ++ x ∷ behind))) whole
      (subst (λ m. IsPermutation (f x ++ a ++ b) m) moved
      (IsPermutation-append_left b (f x ++ a) (a ++ f x) (IsPermutation-append_comm (f x) a)))

  -- numbers that stand as often in two lists give the same pieces
  pub same_pieces : (xs ys : List ℕ) → ((x : ℕ) → times x xs ≡ times x ys)
      → IsPermutation (flat_map f xs) (flat_map f ys)
  same_pieces [] [] same = IsPermutation-refl []
  same_pieces [] (y ∷ ys) same = absurd
      (let e = same y in let one = one_of y in omega arith)
  same_pieces (x ∷ xs) ys same =
      let one = one_of x in
      let here = same x in
      let s = split_at (one_if_same x) x ys (same_or_not x) (omega arith) in
      let perm = same_pieces xs (s.before ++ s.behind) (λ z. split_rest (one_if_same z) x xs ys s (same z)) in
      subst (λ l. IsPermutation (flat_map f (x ∷ xs)) (flat_map f l)) (sym s.is)
      (IsPermutation-trans _ _ _
      (IsPermutation-append_right (f x) (flat_map f xs) (flat_map f (s.before ++ s.behind)) perm)
      (to_front x s.before s.behind))

-- the draws of all passes, one pass after another
abbrev pub all_draws : List Pass → List ℕ
all_draws passes = flat_map (λ p. p.draws) passes

-- a number stands in all draws as often as in the draws of the passes together
pub times_all : (x : ℕ) (passes : List Pass)
    → times x (all_draws passes) ≡ total (λ p. times x p.draws) passes
times_all x [] = refl
times_all x (p ∷ passes) =
    times_append x p.draws (all_draws passes)
    ∙ ap (λ n. times x p.draws + n) (times_all x passes)

-- where some pass has ended, all numbers are drawn
pub all_drawn : (count : ℕ) (passes : List Pass) → (each : EachDrawnOnce count passes)
    → 0 < length passes → All (λ p. p.ended ≡ true) passes → each.drawn ≡ count
all_drawn count [] each some ended = absurd (omega arith)
all_drawn count (p ∷ passes) each some ended = each.whole 0 p some (ended 0 p some)
