-- Members that strictly ascend by number, stated pair by pair (`ascend_told`), and two that do not (`not_ascending`).
use Rattle.std.proofs.Common.{◌≡◌, ℕ, ◌+◌, ◌-◌, ◌<◌, ◌≤◌, List, [], ◌∷◌, length, get_or, subst, arith}
use Rattle.std.specs.List.Sorted.{IsStrictlyIncreasing}
use Rattle.std.proofs.lemmas.List.{get_or-map, length-map}
use Rattle.isax_word.specs.declared.member.Member.{Member}
use Rattle.subtree_build.specs.Members.{numbers_of}

-- the number of a member
abbrev pub number : Member → ℕ
number m = m.number

pub ascend_told : (ms : List Member) (n : ℕ) → length ms ≤ n
    → ((k : ℕ) (d : Member) → k + 1 < n → (get_or ms k d).number < (get_or ms (k + 1) d).number)
    → IsStrictlyIncreasing (numbers_of ms)
ascend_told [] n all told k inside = absurd (omega (arith, inside))
ascend_told (m ∷ ms) n all told k inside =
    let long = length-map (m ∷ ms) number in
    let here = told k m (omega (arith, inside, long, all)) in
    omega (
      arith,
      here,
      get_or-map number (m ∷ ms) k m 0 (omega (arith, inside, long)),
      get_or-map number (m ∷ ms) (k + 1) m 0 (omega (arith, inside, long)),
    )

pub not_ascending : (ms : List Member) (i : ℕ) (m n : Member) → 0 < i → i < length ms
    → (get_or ms i n).number ≤ (get_or ms (i - 1) m).number → IsStrictlyIncreasing (numbers_of ms) → ⊥
not_ascending ms i m n some inside low up =
    let long = length-map ms number in
    let next : i - 1 + 1 ≡ i = omega arith in
    let P : ℕ → Type 0 = λ k. get_or (numbers_of ms) (i - 1) 0 < get_or (numbers_of ms) k 0 in
    let pair = subst P next (up (i - 1) (omega (arith, long))) in
    omega (
      arith,
      pair,
      low,
      get_or-map number ms (i - 1) m 0 (omega arith),
      get_or-map number ms i n 0 inside,
    )
