-- Lists of members that strictly ascend by number: two with the same members are one list (`same_members`).
use Rattle.std.proofs.Common.{◌≡◌, ℕ, suc, ◌+◌, ◌<◌, ◌≤◌, List, [], ◌∷◌, length, get_or, refl, sym, ap, ◌∙◌, inl, inr, arith}
use Rattle.std.specs.List.Sorted.{IsNonDecreasingBy}
use Rattle.list_totals.specs.Standing.{In}
use Rattle.isax_word.specs.declared.member.Member.{Member}

-- each member of the list has at least this number
abbrev pub AllFrom : ℕ → List Member → Type 0
AllFrom n [] = Unit {0}
AllFrom n (x ∷ xs) = (n ≤ x.number) × AllFrom n xs

-- no member is followed by one of a smaller number
abbrev pub IsOrdered : List Member → Type 0
IsOrdered [] = Unit {0}
IsOrdered (x ∷ xs) = AllFrom x.number xs × IsOrdered xs

-- each member is followed by such of greater numbers alone
abbrev pub IsAscending : List Member → Type 0
IsAscending [] = Unit {0}
IsAscending (x ∷ xs) = AllFrom (x.number + 1) xs × IsAscending xs

-- what stands in a list of numbers from n on has such a number
pub from_there : (n : ℕ) (m : Member) (xs : List Member) → AllFrom n xs → In m xs → n ≤ m.number
from_there n m [] all h = absurd h
from_there n m (x ∷ xs) all (inl same) = omega (arith, all.0, ap (λ (y : Member). y.number) same)
from_there n m (x ∷ xs) all (inr behind) = from_there n m xs all.1 behind

-- numbers from n on are numbers from a lesser one on
pub from_less : (n k : ℕ) (xs : List Member) → n ≤ k → AllFrom k xs → AllFrom n xs
from_less n k [] less all = tt
from_less n k (x ∷ xs) less all = (omega (arith, all.0), from_less n k xs less all.1)

-- each member of a list is in another
abbrev pub Among : List Member → List Member → Type 0
Among xs ys = (m : Member) → In m xs → In m ys

-- the least members of two ascending lists with the same members are one
first_same : (x y : Member) (xs ys : List Member) → IsAscending (x ∷ xs) → IsAscending (y ∷ ys)
    → In x (y ∷ ys) → In y (x ∷ xs) → x ≡ y
first_same x y xs ys up_x up_y (inl same) h = same
first_same x y xs ys up_x up_y (inr behind) (inl same) = sym same
first_same x y xs ys up_x up_y (inr behind) (inr there) =
    absurd (omega (
      arith,
      from_there (y.number + 1) x ys up_y.0 behind,
      from_there (x.number + 1) y xs up_x.0 there,
    ))

-- what stands in the rest of an ascending list and in another of the same first member stands in the other's rest
rest_among : (x y : Member) (xs ys : List Member) → AllFrom (x.number + 1) xs → x ≡ y
    → Among (x ∷ xs) (y ∷ ys) → Among xs ys
rest_among x y xs ys above same all m h = by_place (all m (inr h))
  where
    by_place : In m (y ∷ ys) → In m ys
    by_place (inl first) =
        absurd (omega (
          arith,
          from_there (x.number + 1) m xs above h,
          ap (λ (z : Member). z.number) first,
          ap (λ (z : Member). z.number) same,
        ))
    by_place (inr behind) = behind

-- two ascending lists with the same members are one list
pub same_members : (xs ys : List Member) → IsAscending xs → IsAscending ys → Among xs ys → Among ys xs
    → xs ≡ ys
same_members [] [] up_x up_y into from = refl
same_members [] (y ∷ ys) up_x up_y into from = absurd (from y (inl refl))
same_members (x ∷ xs) [] up_x up_y into from = absurd (into x (inl refl))
same_members (x ∷ xs) (y ∷ ys) up_x up_y into from =
    let same : x ≡ y = first_same x y xs ys up_x up_y (into x (inl refl)) (from y (inl refl)) in
    let rest : xs ≡ ys
    = same_members xs ys up_x.1 up_y.1
    (rest_among x y xs ys up_x.0 same into)
    (rest_among y x ys xs up_y.0 (sym same) from) in
    ap (λ (z : Member). z ∷ xs) same ∙ ap (λ (zs : List Member). y ∷ zs) rest

-- a list whose numbers do not fall is ordered
pub ordered_from_sort : (xs : List Member) → IsNonDecreasingBy (λ (m : Member). m.number) xs → IsOrdered xs
ordered_from_sort [] up = tt
ordered_from_sort (x ∷ xs) up = (
  behind xs (λ k d inside. up 0 (suc k) d (omega arith) (omega arith)),
  ordered_from_sort xs (λ i j d before inside. up (suc i) (suc j) d (omega arith) (omega arith)),
)
  where
    -- none of what is behind has a smaller number
    behind : (ys : List Member)
        → ((k : ℕ) (d : Member) → k < length ys → x.number ≤ (get_or ys k d).number)
        → AllFrom x.number ys
    behind [] all = tt
    behind (y ∷ ys) all =
        (all 0 y (omega arith), behind ys (λ k d inside. all (suc k) d (omega arith)))
