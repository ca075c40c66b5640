-- Rows of members, one behind another: how long they are (`values_long`), where the row of a member lies (`row_there`, `own_row`), and
-- so what its means are (`part_means`).
use Rattle.std.proofs.Common.{◌≡◌, ℕ, ℤ, zero, suc, ◌+◌, ◌-◌, ◌*◌, ◌<◌, ◌≤◌, arith, sym, ap, ◌∙◌, List, [], ◌∷◌, ◌++◌, length, take, drop, get_or, All, append-nil, length-append}
use Rattle.std.proofs.Math.Nat.{mul-le-mul_right}
use Rattle.std.proofs.Math.Seq.{drop-append-add, take-append_seam}
use Rattle.std.proofs.lemmas.List.{get_or_default, length-drop, length-take-le}
use Rattle.std.proofs.lemmas.List.Elements.{All-head, All-tail}
use Rattle.series_core.specs.Collection.{Collection, IsCollection}
use Rattle.isax_word.specs.declared.layout.Layout.{Layout}
use Rattle.isax_word.specs.declared.member.Member.{Member}
use Rattle.mean_bound.specs.Means.{row_means}
use Rattle.subtree_build.specs.Means.{all_means, all_values}
use Rattle.subtree_build.specs.Members.{series_at}
use Rattle.subtree_build.proofs.Meaning.{means_there}

-- members that are series of a collection
abbrev pub AreSeries : Collection → List Member → Type 0
AreSeries c members = All (λ m. m.number < length c.series) members

-- a series has the length of all
pub series_long : (c : Collection) (i : ℕ) → IsCollection c → i < length c.series → length (series_at c i) ≡ c.points
series_long c i sound inside = (sound.each i [] inside).points

-- so rows, one behind another, are as long as all of them
pub values_long : (c : Collection) (members : List Member) → IsCollection c → AreSeries c members
    → length (all_values c members) ≡ length members * c.points
values_long c [] sound are = omega arith
values_long c (x ∷ xs) sound are =
    let long = series_long c x.number sound (All-head (λ y. y.number < length c.series) x xs are) in
    let rest = values_long c xs sound (All-tail (λ y. y.number < length c.series) x xs are) in
    omega (arith, length-append (series_at c x.number) (all_values c xs), long, rest)

-- the row of member i lies behind i rows
pub row_there : (c : Collection) (members : List Member) (i : ℕ) (m : Member) → IsCollection c → AreSeries c members
    → i < length members → m ≡ get_or members i m
    → take c.points (drop (i * c.points) (all_values c members)) ≡ series_at c m.number
row_there c [] i m sound are inside item = absurd (omega (arith, inside))
row_there c (x ∷ xs) zero m sound are inside item =
    let n = c.points in
    let rest = all_values c xs in
    let none : zero * n ≡ 0 = omega arith in
    let long = series_long c x.number sound (All-head (λ y. y.number < length c.series) x xs are) in
    ap (λ k. take n (drop k (series_at c x.number ++ rest))) none
    ∙ ap (λ k. take k (series_at c x.number ++ rest)) (sym long)
    ∙ take-append_seam (series_at c x.number) rest
    ∙ ap (λ y. series_at c y.number) (sym item)
row_there c (x ∷ xs) (suc i) m sound are inside item =
    let n = c.points in
    let rest = all_values c xs in
    let long = series_long c x.number sound (All-head (λ y. y.number < length c.series) x xs are) in
    let behind : suc i * n ≡ length (series_at c x.number) + i * n = omega (arith, long) in
    ap (λ k. take n (drop k (series_at c x.number ++ rest))) behind
    ∙ ap (take n) (drop-append-add (series_at c x.number) rest (i * n))
    ∙ row_there c xs i m sound (All-tail (λ y. y.number < length c.series) x xs are) (omega (arith, inside)) item

-- a place of a list has an element
pub element : {X : Type 0} (xs : List X) (i : ℕ) → i < length xs → (x : X) × (x ≡ get_or xs i x)
element [] i inside = absurd (omega (arith, inside))
element (x ∷ xs) i inside = (get_or (x ∷ xs) i x, get_or_default (x ∷ xs) i x (get_or (x ∷ xs) i x) inside)

-- the values of member i are a part of the values of all, and so are the means of that part those of the member
pub record IsPart (c : Collection) (members : List Member) (values : List ℤ) (i l : ℕ) : Type 0 where
  pub sound : IsCollection c
  pub series : AreSeries c members
  pub inside : i < length members
  pub are : values ≡ all_values c members
  pub long : l ≡ c.points

pub part_is : (c : Collection) (members : List Member) (values : List ℤ) (i l : ℕ) → IsCollection c → AreSeries c members
    → i < length members → values ≡ all_values c members → l ≡ c.points → IsPart c members values i l
part_is c members values i l sound series inside are long =
    record { sound = sound; series = series; inside = inside; are = are; long = long }

module _ (c : Collection) (members : List Member) (values : List ℤ) (i l : ℕ) (is : IsPart c members values i l) where
  -- the part ends within the values
  pub part_ends : i * l + l ≤ length values
  part_ends =
      let all = ap (λ (vs : List ℤ). length vs) is.are ∙ values_long c members is.sound is.series in
      let up_to : (i + 1) * l ≤ length members * l = mul-le-mul_right l (omega (arith, is.inside)) in
      omega (arith, all, up_to, ap (λ n. length members * n) is.long)

  -- and is the row of the member
  pub own_row : (m : Member) → m ≡ get_or members i m → take (i * l + l - i * l) (drop (i * l) values) ≡ series_at c m.number
  own_row m item =
      let size : i * l + l - i * l ≡ c.points = omega (arith, is.long) in
      ap (λ n. take n (drop (i * l) values)) size
      ∙ ap (λ n. take c.points (drop (i * n) values)) is.long
      ∙ ap (λ (vs : List ℤ). take c.points (drop (i * c.points) vs)) is.are
      ∙ row_there c members i m is.sound is.series is.inside item

  -- which is as long
  pub part_long : length (take (i * l + l - i * l) (drop (i * l) values)) ≡ l
  part_long =
      let size : i * l + l - i * l ≡ l = omega arith in
      length-take-le (i * l + l - i * l) (drop (i * l) values) (omega (arith, length-drop (i * l) values, part_ends)) ∙ size

  -- so its means are those of the member
  pub part_means : (layout : Layout) → row_means layout.cuts (take (i * l + l - i * l) (drop (i * l) values))
      ≡ get_or (all_means c layout members) i []
  part_means layout =
      let some = element members i is.inside in
      ap (row_means layout.cuts) (own_row some.0 some.1) ∙ means_there c layout members i some.0 is.inside some.1

-- the values of a member alone are its row
pub one_row : (c : Collection) (members : List Member) (m : Member) (row : List ℤ) → length members ≡ 1
    → m ≡ get_or members 0 m → row ≡ series_at c m.number → row ≡ all_values c members
one_row c [] m row alone item is = absurd (omega (arith, alone))
one_row c (x ∷ []) m row alone item is =
    is ∙ ap (λ (y : Member). series_at c y.number) item ∙ sym (append-nil (series_at c x.number))
one_row c (x ∷ y ∷ xs) m row alone item is = absurd (omega (arith, alone))
