-- Taking the first pass of each row, row by row (`fronts_more`).
use Rattle.std.proofs.Common.{◌≡◌, ℕ, ◌<◌, ◌≤◌, List, [], ◌∷◌, ◌++◌, Some, length, set, refl, sym, ap, ◌∙◌, subst, ⊎_elim, length-append, get_or, take, drop, arith}
use Rattle.std.specs.Prelude.{slice_get}
use Rattle.std.proofs.lemmas.Option.{none-some, same_Some, slice_get_within}
use Rattle.search_machine.proofs.Places.{get_set_other, get_set_same}
use Rattle.query_core.proofs.Pushes.{at_push}
use Rattle.live_query.specs.LockedQueues.{QueuePass}
use Rattle.live_query.specs.LockParts.{AreFronts, Row}
use Rattle.live_query.proofs.FillTies.{set_length}

-- the first passes of the first rows were taken
pub record FrontsTo (old : List Row) (fronts : List QueuePass) (new : List Row) : Type 0 where
  pub same : length new ≡ length old
  pub each : (j : ℕ) (p : QueuePass) (rest : Row) (row : Row) → slice_get old j ≡ Some row
      → slice_get fronts j ≡ Some p → slice_get new j ≡ Some rest → row.items ≡ p ∷ rest.items
  pub behind : (j : ℕ) → length fronts ≤ j → slice_get new j ≡ slice_get old j

pub none_taken : (rows : List Row) → FrontsTo rows [] rows
none_taken rows = record {
  same = refl;
  each = λ j p rest row at_row at_p at_rest. absurd (none-some p at_p);
  behind = λ j low. refl;
}

pub fronts_more : (old : List Row) (fronts : List QueuePass) (new : List Row) (p : QueuePass) (row rest : Row)
    → FrontsTo old fronts new → slice_get new (length fronts) ≡ Some row → row.items ≡ p ∷ rest.items
    → FrontsTo old (fronts ++ p ∷ []) (set new (length fronts) rest)
fronts_more old fronts new p row rest f at is = record {
  same = set_length new (length fronts) rest ∙ f.same;
  each = λ j q last from at_old at_q at_new. ⊎_elim
      (λ (taken : slice_get fronts j ≡ Some q).
      let low = slice_get_within fronts j q taken in
      f.each j q last from at_old taken
      (sym (get_set_other new (length fronts) j rest (λ e. absurd (omega arith))) ∙ at_new))
      (λ (here : (j ≡ length fronts) × (p ≡ q)).
      let was : slice_get new j ≡ slice_get old j = f.behind j (omega (arith, here.0)) in
      let row_is : row ≡ from
      = same_Some row from (sym at ∙ ap (slice_get new) (sym here.0) ∙ was ∙ at_old) in
      let rest_is : rest ≡ last
      = written new (length fronts) j rest last here.0 at_new in
      ap (λ (r : Row). r.items) (sym row_is) ∙ is
      ∙ ap (λ (x : QueuePass). x ∷ rest.items) here.1 ∙ ap (λ (r : Row). q ∷ r.items) rest_is)
      (at_push fronts p q j at_q);
  behind = λ j low.
      let long = length-append fronts (p ∷ []) in
      get_set_other new (length fronts) j rest (λ e. absurd (omega arith)) ∙ f.behind j (omega arith);
}
  where
    written : (xs : List Row) (i j : ℕ) (x y : Row) → j ≡ i → slice_get (set xs i x) j ≡ Some y → x ≡ y
    written xs i j x y e at =
        get_set_same xs i y x
        (subst (λ (k : ℕ). slice_get (set xs i x) k ≡ Some y) e at)

pub fronts_all : (old : List Row) (fronts : List QueuePass) (new : List Row) → FrontsTo old fronts new
    → length fronts ≡ length old → AreFronts old fronts new
fronts_all old fronts new f count = record { count = count; same = f.same; each = f.each }

-- a row whose first pass was taken
pub front_rest : (xs : List QueuePass) (p : QueuePass) (ys : List QueuePass) → 0 < length xs → p ≡ get_or xs 0 p
    → ys ≡ take 0 xs ++ drop 1 xs → xs ≡ p ∷ ys
front_rest [] p ys low v e = absurd (omega arith)
front_rest (x ∷ xs) p ys low v e =
    ap (λ (z : QueuePass). z ∷ xs) (sym v) ∙ ap (λ (zs : List QueuePass). p ∷ zs) (sym (e ∙ rest x xs))
  where
    rest : (x : QueuePass) (xs : List QueuePass) → take 0 (x ∷ xs) ++ drop 1 (x ∷ xs) ≡ xs
    rest x [] = refl
    rest x (y ∷ ys) = refl
