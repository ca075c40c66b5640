-- A closure that heeds nothing, called for each number below a count, makes one thing so many times (`made_alike`).
use denote.Param.Members.{Mut}
use Rattle.std.specs.declared.iter.Map.{Map}
use Rattle.std.specs.declared.ops.Range.{Range}
use Rattle.std.proofs.Common.{◌≡◌, ℕ, zero, suc, ◌+◌, ◌∷◌, Result, Vec, map, replicate, refl, ap, subst, arith}
use Rattle.std.proofs.iter.Yields.{nat_range_steps}
use Rattle.std.proofs.lemmas.Iterator.{IsCollectResult, YieldsList-from_map, YieldsList-from_range, items_from_collect, maps}
use Rattle.std.specs.Fn.{Called}
use Rattle.std.specs.Iterator.Adapters.{map_callee, map_source}
use Rattle.std.specs.List.{range_with_len}
use Rattle.std.specs.Result.{IfOk}
use Rattle.std.specs.Vec.{vec_items}

-- a function that heeds nothing gives copies
all_alike : {Y : Type 0} (y : Y) (n first : ℕ) → map (λ (i : ℕ). y) (range_with_len first n) ≡ replicate n y
all_alike y zero first = refl
all_alike y (suc n) first = ap (λ ys. y ∷ ys) (all_alike y n (first + 1))

pub made_alike : {F Y Z E : Type 0} {f : F} {s : Map (Range ℕ) F} (g : Mut F (ℕ × Unit {0}) Y) (y : Y) (n : ℕ)
    (r : Result (Vec Y Z) E) → IsCollectResult (maps nat_range_steps g) s r → map_source s ≡ record { start = 0; end = n }
    → map_callee s ≡ f → ((x : ℕ) (z : Y) (q : F) → Called g f (x, tt) z q → (q ≡ f) × (z ≡ y))
    → IfOk r (λ w. vec_items w ≡ replicate n y)
made_alike g y n r ran source callee made =
    subst (λ ys. IfOk r (λ w. vec_items w ≡ ys)) (all_alike y n 0)
    (items_from_collect r ran
    (YieldsList-from_map g (λ i. y) (YieldsList-from_range 0 n n source (omega arith)) callee made))
