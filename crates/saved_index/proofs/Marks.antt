-- Marks that rise with what members weigh, up to 2: by one member more (`mark_more`), by one leaf more (`leaf_more`), and what the first
-- other than 1 is of (`first_marked`).
use Rattle.std.proofs.Common.{◌≡◌, ℕ, zero, suc, ◌+◌, ◌*◌, ◌<◌, ◌≤◌, Bool, List, length, take, min, get_or, eqb, refl, sym, ap, ◌∙◌, ⊎_elim, arith}
use Rattle.std.specs.Prelude.{◌==◌, find, not, slice_set, Some, if◌then◌else◌}
use Rattle.std.specs.List.{range_with_len}
use Rattle.std.proofs.lemmas.Bool.{cases_eq, cond-true, cond-false, eq-eqb, ne_eqb}
use Rattle.std.proofs.lemmas.List.{get_or-set_same, get_or-set_other, take_more}
use Rattle.list_totals.specs.Totals.{total, one_if_same}
use Rattle.list_totals.proofs.Totals.{total_push}
use Rattle.isax_word.specs.declared.member.Member.{Member}
use Rattle.isax_word.specs.declared.word.Part.{Part}
use Rattle.subtree_build.specs.declared.leaf.TreeLeaf.{TreeLeaf}
use Rattle.subtree_build.specs.Index.{leaf_at, no_leaf}
use Rattle.saved_index.specs.Membership.{first_unfit_of, is_unfit, leaf_weight, weight, weight_for}

-- a total over one item more
total_more : {X : Type 0} (f : X → ℕ) (xs : List X) (k : ℕ) (x : X) → k < length xs → x ≡ get_or xs k x
    → total f (take (k + 1) xs) ≡ total f (take k xs) + f x
total_more f xs k x inside item =
    ap (total f) (take_more xs k x inside)
    ∙ total_push f (take k xs) (get_or xs k x)
    ∙ ap (λ y. total f (take k xs) + f y) (sym item)

-- a mark is raised by what one member more weighs for its series, and no other mark is
pub mark_more : (word : List Part) (members : List Member) (k : ℕ) (m : Member) (old marks : List ℕ) (r i : ℕ)
    → k < length members → m ≡ get_or members k m → m.number < length marks
    → get_or marks i 0 ≡ min 2 (get_or old i 0 + total (weight_for i word) (take k members))
    → r ≡ min 2 (get_or marks m.number 0 + weight word m)
    → get_or (slice_set marks m.number r) i 0 ≡ min 2 (get_or old i 0 + total (weight_for i word) (take (k + 1) members))
mark_more word members k m old marks r i inside item low was is =
    let n = m.number in
    let t = total (weight_for i word) (take k members) in
    let more = total_more (weight_for i word) members k m inside item in
    ⊎_elim
    (λ same.
    let one : one_if_same i n ≡ 1 = cond-true (eqb i n) 1 0 (eq-eqb i n same) in
    let adds : weight_for i word m ≡ 1 * weight word m = ap (λ x. x * weight word m) one in
    let here : get_or (slice_set marks n r) i 0 ≡ r
    = ap (λ j. get_or (slice_set marks n r) j 0) same ∙ get_or-set_same marks n r 0 low in
    let before : get_or marks n 0 ≡ get_or marks i 0 = ap (λ j. get_or marks j 0) (sym same) in
    omega (arith, here, is, before, was, more, adds))
    (λ other.
    let none : one_if_same i n ≡ 0 = cond-false (eqb i n) 1 0 (ne_eqb i n other) in
    let adds : weight_for i word m ≡ 0 * weight word m = ap (λ x. x * weight word m) none in
    let here : get_or (slice_set marks n r) i 0 ≡ get_or marks i 0 = get_or-set_other marks n i r 0 other in
    omega (arith, here, was, more, adds))
    (cases_eq i n)

-- the members of one leaf more raise it too
pub leaf_more : (leaves : List TreeLeaf) (l i old new : ℕ) → l < length leaves
    → old ≡ min 2 (total (leaf_weight i) (take l leaves)) → new ≡ min 2 (old + leaf_weight i (leaf_at leaves l))
    → new ≡ min 2 (total (leaf_weight i) (take (l + 1) leaves))
leaf_more leaves l i old new low was is =
    let x = leaf_at leaves l in
    let more : total (leaf_weight i) (take (l + 1) leaves) ≡ total (leaf_weight i) (take l leaves) + leaf_weight i x
    = ap (total (leaf_weight i)) (take_more leaves l no_leaf low) ∙ total_push (leaf_weight i) (take l leaves) x in
    omega (arith, was, is, more)

-- a mark is 1 where what raised it is
one_is_one : (w : ℕ) → (min 2 w == 1) ≡ (w == 1)
one_is_one zero = refl
one_is_one (suc zero) = refl
one_is_one (suc (suc w)) =
    let two : min 2 (suc (suc w)) ≡ 2 = omega arith in
    ap (λ k. k == 1) two ∙ sym (ne_eqb (suc (suc w)) 1 (λ is. omega (arith, is)))

-- tests that agree on numbers in a row find the same
find_agree : (p q : ℕ → Bool) (a n : ℕ) → ((k : ℕ) → a ≤ k → k < a + n → p k ≡ q k)
    → find p (range_with_len a n) ≡ find q (range_with_len a n)
find_agree p q a zero same = refl
find_agree p q a (suc n) same =
    let here = same a (omega arith) (omega arith) in
    let rest = find_agree p q (a + 1) n (λ k from to. same k (omega arith) (omega arith)) in
    λ i. if here i then Some a else rest i

-- the first mark other than 1 is of the first series that does not fit
pub first_marked : (marks : List ℕ) (leaves : List TreeLeaf) (count : ℕ)
    → ((i : ℕ) → i < count → get_or marks i 0 ≡ min 2 (total (leaf_weight i) leaves))
    → find (λ i. not (get_or marks i 0 == 1)) (range_with_len 0 count) ≡ first_unfit_of leaves count
first_marked marks leaves count each =
    find_agree (λ i. not (get_or marks i 0 == 1)) (is_unfit leaves) 0 count
    (λ i from to. ap (λ k. not (k == 1)) (each i (omega (arith, to))) ∙ ap not (one_is_one (total (leaf_weight i) leaves)))
