-- Groups of root children: all groups together have each root child once, in order (`all_groups`), and the numbers of a group
-- are those from its first up to its end (`group_is`).
use Rattle.std.proofs.Common.{◌≡◌, ℕ, zero, suc, ◌+◌, ◌-◌, ◌*◌, ◌≤◌, min, [], ◌∷◌, ◌++◌, refl, sym, ap, ◌∙◌, append-nil, zero-add, arith}
use Rattle.std.specs.List.{flat_map, range_with_len}
use Rattle.std.proofs.lemmas.List.Concat.{flat_map-append}
use Rattle.std.proofs.Math.Nat.{mod-lt}
use Rattle.std.proofs.lemmas.Nat.{div-add-mod'}
use Rattle.subtree_build.proofs.Indexing.{range_parts}
use Rattle.range_query.specs.Near.{group_count, group_of}

-- the numbers of a range of one more
pub range_more : (a n : ℕ) → range_with_len a (n + 1) ≡ range_with_len a n ++ (a + n) ∷ []
range_more a n = range_parts a n 1

-- the first k groups have the numbers up to the end of the last of them
first_groups : (size count k : ℕ)
    → flat_map (group_of size count) (range_with_len 0 k) ≡ range_with_len 0 (min count (k * size))
first_groups size count zero = ap (range_with_len 0) none
  where
    -- no group has a number
    none : 0 ≡ min count (0 * size)
    none = omega arith
first_groups size count (suc k) =
    let start = k * size in
    let more : suc k * size ≡ start + size = grind arith in
    let here = min size (count - start) in
    let whole : min count start + here ≡ min count (suc k * size) = omega (arith, more) in
    let next : suc k ≡ k + 1 = omega arith in
    ap (λ n. flat_map (group_of size count) (range_with_len 0 n)) next
    ∙ ap (flat_map (group_of size count)) (range_more 0 k ∙ ap (λ n. range_with_len 0 k ++ n ∷ []) (zero-add k))
    ∙ flat_map-append (group_of size count) (range_with_len 0 k) (k ∷ [])
    ∙ ap (λ l. l ++ (group_of size count k ++ [])) (first_groups size count k)
    ∙ ap (λ l. range_with_len 0 (min count start) ++ l) (append-nil (group_of size count k))
    ∙ ap (λ l. range_with_len 0 (min count start) ++ l) (from_start size count start here refl)
    ∙ sym (range_parts 0 (min count start) here)
    ∙ ap (range_with_len 0) whole
  where
    -- a group begins where those before end, or has no number
    from_start : (size count start here : ℕ) → here ≡ min size (count - start)
        → range_with_len start here ≡ range_with_len (0 + min count start) here
    from_start size count start zero is = refl
    from_start size count start (suc here) is = ap (λ n. range_with_len n (suc here)) (omega (arith, is))

-- all groups have all numbers
pub all_groups : (size count : ℕ) → 1 ≤ size
    → flat_map (group_of size count) (range_with_len 0 (group_count size count)) ≡ range_with_len 0 count
all_groups size count some =
    first_groups size count (group_count size count) ∙ ap (range_with_len 0) (omega (arith, covers size count some))
  where
    -- the groups have room for all numbers
    covers : (size count : ℕ) → 1 ≤ size → count ≤ group_count size count * size
    covers size count some =
        let n = count + (size - 1) in
        omega (arith, some, div-add-mod' n size, mod-lt n {m = size} (omega (arith, some)))
