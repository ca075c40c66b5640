-- Lanes of 16 bits without a sign: what is selected by a comparison is the greater (`greater_are`)
-- or the lesser (`lesser_are`) of two, and the greater of two less the second is the excess (`excess_are`).
use Rattle.std.proofs.Common.{◌≡◌, ℕ, ◌+◌, ◌-◌, ◌%◌, ◌<◌, refl, Bool, true, false, cond, arith, List, [], ◌∷◌, map}
use Rattle.std.specs.Prelude.{min, max}
use lib.Lanes.{zip2, sel_l, top, Each1}
use lib.Dec.{ltb}

-- what a lane holds of a comparison
abbrev pub mask_of : Bool → ℕ
mask_of b = cond b 65535 0

-- the comparisons of the lanes of two vectors
abbrev pub masks : List ℕ → List ℕ → List Bool
masks xs ys = map (top 15) (zip2 (λ a b. mask_of (ltb a b)) xs ys)

-- one lane of the greater
greater_is : (x y : ℕ) (less : Bool) → less ≡ ltb x y → cond (top 15 (mask_of less)) y x ≡ max x y
greater_is x y true is = grind arith
greater_is x y false is = grind arith

-- one lane of the lesser
lesser_is : (x y : ℕ) (less : Bool) → less ≡ ltb x y → cond (top 15 (mask_of less)) x y ≡ min x y
lesser_is x y true is = grind arith
lesser_is x y false is = grind arith

-- the greater of each two numbers
pub greater_are : (xs ys : List ℕ) → sel_l (masks xs ys) ys xs ≡ zip2 max xs ys
greater_are [] ys = refl
greater_are (x ∷ xs) [] = refl
greater_are (x ∷ xs) (y ∷ ys) = λ i. greater_is x y (ltb x y) refl i ∷ greater_are xs ys i

-- the lesser of each two numbers
pub lesser_are : (xs ys : List ℕ) → sel_l (masks xs ys) xs ys ≡ zip2 min xs ys
lesser_are [] ys = refl
lesser_are (x ∷ xs) [] = refl
lesser_are (x ∷ xs) (y ∷ ys) = λ i. lesser_is x y (ltb x y) refl i ∷ lesser_are xs ys i

-- one lane of the excess
excess_is : (x y : ℕ) (less : Bool) → less ≡ ltb x y → x < 65536 → y < 65536
    → (cond (top 15 (mask_of less)) y x + (65536 - y)) % 65536 ≡ x - y
excess_is x y true is fx fy = grind arith
excess_is x y false is fx fy = grind arith

-- how far each number lies above the other
pub excess_are : (xs ys : List ℕ) → Each1 (λ n. n < 65536) xs → Each1 (λ n. n < 65536) ys
    → zip2 (λ a b. (a + (65536 - b)) % 65536) (sel_l (masks xs ys) ys xs) ys ≡ zip2 (λ a b. a - b) xs ys
excess_are [] ys fx fy = refl
excess_are (x ∷ xs) [] fx fy = refl
excess_are (x ∷ xs) (y ∷ ys) fx fy =
    let first = excess_is x y (ltb x y) refl fx.0 fy.0 in
    let rest = excess_are xs ys fx.1 fy.1 in
    λ i. first i ∷ rest i
