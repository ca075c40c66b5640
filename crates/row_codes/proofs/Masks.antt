-- Codes out of words: masks and shifts are remainders and quotients, lane by lane.
use Rattle.std.proofs.Common.{◌≡◌, ℕ, ◌/◌, ◌%◌, ◌<◌, ap, arith, ◌∙◌, List, [], ◌∷◌, map, length, replicate, refl}
use Rattle.std.specs.Prelude.{bit_and}
use Rattle.std.proofs.lemmas.Nat.{and_mask}
use Rattle.std.proofs.lemmas.Simd.{map-map, zip2_splat}
use Rattle.std.proofs.lemmas.List.{length-map}
use lib.Lanes.{zip2, Each1}
use mir.Val.{Fits}
use mir.Syntax.{w16}

-- lanes under a mask
pub low_are : (ws : List ℕ) → length ws ≡ 16 → zip2 bit_and ws (replicate 16 15) ≡ map (λ w. w % 16) ws
low_are ws long = zip2_splat bit_and ws 16 15 long ∙ (λ i. map (λ w. and_mask w 4 i) ws)

-- shifted lanes
pub shifted_are : (shift : ℕ → ℕ → ℕ) (s k : ℕ) → ((w : ℕ) → shift w s ≡ w / k) → (ws : List ℕ) → length ws ≡ 16
    → zip2 shift ws (replicate 16 s) ≡ map (λ w. w / k) ws
shifted_are shift s k is ws long = zip2_splat shift ws 16 s long ∙ (λ i. map (λ w. is w i) ws)

-- shifted lanes under a mask
pub shifted_low_are : (shift : ℕ → ℕ → ℕ) (s k : ℕ) → ((w : ℕ) → shift w s ≡ w / k) → (ws : List ℕ) → length ws ≡ 16
    → zip2 bit_and (zip2 shift ws (replicate 16 s)) (replicate 16 15) ≡ map (λ w. w / k % 16) ws
shifted_low_are shift s k is ws long =
    ap (λ l. zip2 bit_and l (replicate 16 15)) (shifted_are shift s k is ws long)
    ∙ low_are (map (λ w. w / k) ws) (length-map ws (λ w. w / k) ∙ long)
    ∙ map-map (λ w. w % 16) (λ w. w / k) ws

-- the highest four bits of words of 16 are below 16 anyhow
pub highest_are : (ws : List ℕ) → Each1 (Fits w16) ws → map (λ w. w / 4096) ws ≡ map (λ w. w / 4096 % 16) ws
highest_are [] fits = refl
highest_are (w ∷ ws) fits =
    let small : w < 65536 = fits.0.fits in
    let first : w / 4096 ≡ w / 4096 % 16 = omega (arith, small) in
    let rest = highest_are ws fits.1 in
    λ i. first i ∷ rest i
