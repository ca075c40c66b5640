-- The root child of least bound (`nearest_is`).
use Rattle.std.proofs.Common.{◌≡◌, ℕ, ◌+◌, ◌<◌, ◌≤◌, true, false, ⊎_elim, length, arith}
use Rattle.std.specs.Prelude.{Some, find, not}
use Rattle.std.specs.List.{range_with_len}
use Rattle.std.proofs.lemmas.Bool.{cases_lt, not_from_false, not_from_true}
use Rattle.std.proofs.lemmas.Bool.Decides.{nat_tests}
use Rattle.lower_bound.specs.Bound.{View}
use Rattle.subtree_build.specs.Index.{IndexParts}
use Rattle.subtree_build.specs.Start.{root_bound, is_nearer, is_nearest}
use Rattle.subtree_build.proofs.Ranges.{find_in_range, all_in_range, not_all_in_range}

-- of the first n root children, i has the least bound, and each before it a greater one
pub record IsLeastOf (view : View) (ix : IndexParts) (n i : ℕ) : Type 0 where
  pub among : i < n
  pub least : (k : ℕ) → k < n → root_bound view ix i ≤ root_bound view ix k
  pub first : (k : ℕ) → k < i → root_bound view ix i < root_bound view ix k

-- the next root child is no nearer
pub least_stays : (view : View) (ix : IndexParts) (n i : ℕ) → IsLeastOf view ix n i
    → root_bound view ix i ≤ root_bound view ix n → IsLeastOf view ix (n + 1) i
least_stays view ix n i h no_less = record {
  among = omega (arith, h.among);
  least = λ k below. ⊎_elim (h.least k) (λ past. all k (omega arith)) (cases_lt k n);
  first = h.first;
}
  where
    -- it is the last one
    all : (k : ℕ) → k ≡ n → root_bound view ix i ≤ root_bound view ix k
    all k same = rw same no_less

-- the next root child is nearer than all before
pub least_moves : (view : View) (ix : IndexParts) (n i : ℕ) → IsLeastOf view ix n i
    → root_bound view ix n < root_bound view ix i → IsLeastOf view ix (n + 1) n
least_moves view ix n i h less = record {
  among = omega arith;
  least = λ k below. ⊎_elim (λ before. omega (arith, h.least k before, less)) (λ past. same k (omega arith)) (cases_lt k n);
  first = λ k before. omega (arith, h.least k before, less);
}
  where
    -- it is the last one
    same : (k : ℕ) → k ≡ n → root_bound view ix n ≤ root_bound view ix k
    same k e = rw e (omega arith)

-- no root child is nearer than itself, than one of less bound, or than one of the same bound before it
not_nearer : (view : View) (ix : IndexParts) (k i : ℕ) → root_bound view ix i ≤ root_bound view ix k
    → (k < i → root_bound view ix i < root_bound view ix k) → is_nearer view ix k i ≡ false
not_nearer view ix k i no_less first = ⊎_elim before behind (cases_lt k i)
  where
    -- it stands before i
    before : k < i → is_nearer view ix k i ≡ false
    before h = let less : root_bound view ix i < root_bound view ix k = first h in grind (arith, nat_tests)

    -- it does not
    behind : i ≤ k → is_nearer view ix k i ≡ false
    behind h = grind (arith, nat_tests)

-- the first root child of least bound is the one that no other is taken rather than
pub nearest_is : (view : View) (ix : IndexParts) (i : ℕ) → IsLeastOf view ix (length ix.roots) i
    → find (is_nearest view ix) (range_with_len 0 (length ix.roots)) ≡ Some i
nearest_is view ix i h =
    find_in_range (is_nearest view ix) 0 (length ix.roots) i (omega arith) (omega (arith, h.among))
    (all_in_range (λ k. not (is_nearer view ix k i)) 0 (length ix.roots)
    (λ k from to. not_from_false (is_nearer view ix k i)
    (not_nearer view ix k i (h.least k (omega arith)) (h.first k))))
    (λ k from before. not_all_in_range (λ j. not (is_nearer view ix j k)) 0 (length ix.roots) i
    (omega arith) (omega (arith, h.among))
    (not_from_true (is_nearer view ix i k)
    (nearer k (h.first k before))))
  where
    -- one of less bound is nearer
    nearer : (k : ℕ) → root_bound view ix i < root_bound view ix k → is_nearer view ix i k ≡ true
    nearer k less = grind (arith, nat_tests)

-- of one root child the first is the nearest
pub least_first : (view : View) (ix : IndexParts) → IsLeastOf view ix 1 0
least_first view ix = record {
  among = omega arith;
  least = λ k below. same k (omega arith);
  first = λ k before. absurd (omega arith);
}
  where
    -- it is the first one
    same : (k : ℕ) → k ≡ 0 → root_bound view ix 0 ≤ root_bound view ix k
    same k e = rw e (omega arith)
