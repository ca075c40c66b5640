-- What lanes hold while sixteen words after sixteen words are added: nothing at first (`held_none`), more at each step (`held_more`), the
-- same when they are handed on (`held_on`), and in the end the whole sum of products (`held_all`).
use Rattle.std.proofs.Common.{◌≡◌, ℕ, ◌+◌, ◌*◌, ◌≤◌, ap, sym, subst, add-one, ◌∙◌, arith, refl, List, map, length, replicate, to_z, of_z}
use Rattle.std.specs.Prelude.{ℤ, pos, ◌+ℤ◌, FitsSigned, unsigned_abs}
use Rattle.std.specs.List.{All}
use Rattle.std.specs.Simd.Lanes.{chunk}
use Rattle.std.proofs.lemmas.Int.{fits_signed_from_abs, SFits-int_wrap, to_z-of_z}
use Rattle.std.proofs.lemmas.List.Elements.{All-replicate}
use mir.Syntax.{w32}
use Rattle.row_codes.specs.Lanes.{AreBlockValues, HoldSixteens, IsBlockDot, lane_total, sixteens_dot, words_dot, wrapped}
use Rattle.row_codes.proofs.LaneSums.{both, handed_back}
use Rattle.row_codes.proofs.Dots.{dot_of_sixteens, dot_small, dot_whole}

-- nothing at first
pub held_none : (ws : List ℕ) (qs : List ℤ) → HoldSixteens 0 ws qs (map (to_z w32) (replicate 8 0))
held_none ws qs = record {
  value = refl;
  lanes = refl;
  fits = All-replicate (FitsSigned w32) 8 (pos 0) (fits_signed_from_abs w32 (pos 0) (omega arith));
}

-- lanes that are handed on hold the same
pub held_on : {n : ℕ} {ws : List ℕ} {qs sums : List ℤ} → HoldSixteens n ws qs sums
    → HoldSixteens n ws qs (map (to_z w32) (map (of_z w32) sums))
held_on {n} {ws} {qs} {sums} held = subst (HoldSixteens n ws qs) (sym (handed_back sums held.fits)) held

-- sixteen words more
pub held_more : (n : ℕ) (ws : List ℕ) (qs : List ℤ) (codes : List ℕ) (sums passed more sum : List ℤ) → HoldSixteens n ws qs sums
    → codes ≡ chunk (16 * n) 16 ws → wrapped (lane_total more) ≡ wrapped (words_dot codes (16 * n) qs) → passed ≡ more
    → wrapped (lane_total sum) ≡ wrapped (lane_total sums +ℤ lane_total passed)
    → length sum ≡ 8 → All (FitsSigned w32) sum → HoldSixteens (n + 1) ws qs sum
held_more n ws qs codes sums passed more sum held is_codes is_more is_passed is_sum lanes_sum fits_sum =
    let own = ap (λ l. wrapped (lane_total l)) is_passed ∙ is_more ∙ ap (λ l. wrapped (words_dot l (16 * n) qs)) is_codes in
    record {
      value = is_sum
          ∙ both (lane_total sums) (lane_total passed) (sixteens_dot n ws qs) (words_dot (chunk (16 * n) 16 ws) (16 * n) qs) held.value own
          ∙ ap (λ m. wrapped (sixteens_dot m ws qs)) (sym (add-one n));
      lanes = lanes_sum;
      fits = fits_sum;
    }

-- and in the end all
pub held_all : (n : ℕ) (ws : List ℕ) (qs sums : List ℤ) (r : ℤ) → n ≡ 4 → HoldSixteens n ws qs sums → length ws ≡ 64
    → AreBlockValues qs → r ≡ wrapped (lane_total sums) → IsBlockDot ws qs (to_z w32 (of_z w32 r))
held_all n ws qs sums r last held long values is =
    let fits : FitsSigned w32 r = subst (FitsSigned w32) (sym is) (SFits-int_wrap w32 (lane_total sums)) in
    let value = to_z-of_z w32 r fits ∙ is ∙ held.value ∙ ap (λ m. wrapped (sixteens_dot m ws qs)) last
    ∙ ap wrapped (dot_of_sixteens ws qs long) ∙ dot_whole ws qs long values.fits in
    record {
      value = value;
      small = subst (λ z. unsigned_abs z ≤ 125829120) (sym value) (dot_small ws qs long values.fits);
    }
