-- The opening of a search does not hang on how many workers and queues there are (`opening_same`, `limit_same`, `start_same`), and its
-- limit is not below the last distance (`limit_is_high`).
use Rattle.std.proofs.Common.{◌≡◌, ℕ, ◌≤◌, List, None, Option, Some, ap, refl, arith}
use Rattle.std.specs.Option.{option_map}
use Rattle.series_core.specs.declared.pair.Pair.{Pair}
use Rattle.subtree_build.specs.Index.{IndexParts}
use Rattle.search_machine.specs.Ground.{opening, opening_of, start_limit, worst}
use Rattle.search_machine.specs.Basics.{start_of}
use Rattle.search_machine.proofs.Opening.{opening_sound}
use Rattle.search_task.specs.Questions.{CanBeSearched, Question, last_of, search_over}
use Rattle.search_task.proofs.OfIndex.{last_is, search_fits}

-- The opening does not hang on how many workers and queues there are.
module _ (a : Question) (ix : IndexParts) where
  opening_of_same : (n m v q : ℕ) (o : Option ℕ)
      → opening_of (search_over a ix n m) o ≡ opening_of (search_over a ix v q) o
  opening_of_same n m v q None = refl
  opening_of_same n m v q (Some l) = refl

  -- the list is the same
  pub opening_same : (n m v q : ℕ) → opening (search_over a ix n m) ≡ opening (search_over a ix v q)
  opening_same n m v q = opening_of_same n m v q (search_over a ix n m).start

  -- the limit is the same
  pub limit_same : (n m v q : ℕ) → start_limit (search_over a ix n m) ≡ start_limit (search_over a ix v q)
  limit_same n m v q = ap (λ (ps : List Pair). worst (search_over a ix n m) ps) (opening_same n m v q)

  -- the start is the same
  pub start_same : (n m v q : ℕ) → start_of (search_over a ix n m) ≡ start_of (search_over a ix v q)
  start_same n m v q =
      ap (λ (limit : ℕ). option_map (λ (l : ℕ). record { leaf = l; limit = limit }) (search_over a ix n m).start)
      (limit_same n m v q)

-- the starting limit is not below the last distance
pub limit_is_high : (a : Question) (ix : IndexParts) (n m : ℕ) → CanBeSearched a ix
    → last_of a ≤ start_limit (search_over a ix n m)
limit_is_high a ix n m searched =
    let low = (opening_sound (search_over a ix 1 1)
    (search_fits a ix 1 1 searched (omega arith) (omega arith))).word.0 in
    let last = last_is a ix 1 1 searched.question in
    let same = limit_same a ix 1 1 n m in
    omega arith
