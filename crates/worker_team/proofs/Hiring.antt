-- One worker more is hired: its number and its turns stand behind those before (`numbers_more`, `turns_more`).
use Rattle.std.proofs.Common.{◌≡◌, All, refl, subst, length-append, ℕ, zero, suc, ◌+◌, ◌<◌, List, [], ◌∷◌, ◌++◌, length, get_or, map, take, sym, ap, ◌∙◌, zero-add, arith}
use Rattle.std.specs.List.{range_with_len}
use Rattle.std.proofs.lemmas.List.{append-nil, map-append, nil_from_length, take_more}
use Rattle.std.proofs.lemmas.List.Elements.{All-get_or}
use Rattle.worker_team.specs.declared.worker.TeamWorker.{TeamWorker}

-- the item in the middle of a list
at_middle : {X : Type 0} (xs ys : List X) (y d : X) → get_or (xs ++ y ∷ ys) (length xs) d ≡ y
at_middle [] ys y d = refl
at_middle (x ∷ xs) ys y d = at_middle xs ys y d

-- what holds of all items holds of the one in the middle
pub All-middle : {X : Type 0} (P : X → Type 0) (xs ys : List X) (y : X) → All P (xs ++ y ∷ ys) → P y
All-middle P xs ys y all =
    subst P (at_middle xs ys y y)
    (All-get_or P (xs ++ y ∷ ys) (length xs) y
    (let long = length-append xs (y ∷ ys) in omega arith) all)

-- where one more comes, fewer were there than in all
pub still_fewer : {X : Type 0} (done : List X) (x : X) (rest left all : List X) → left ≡ x ∷ rest → done ++ left ≡ all
    → length done < length all
still_fewer done x rest left all next whole =
    omega (arith, ap length whole, length-append done left, ap length next)

-- where none is left all were yielded
pub all_yielded : {X : Type 0} (done left all : List X) → length left ≡ 0 → done ++ left ≡ all → done ≡ all
all_yielded done left all none whole =
    sym (append-nil done) ∙ (ap (λ xs. done ++ xs) (sym (nil_from_length left none)) ∙ whole)

-- the numbers below one more
range_more : (a n : ℕ) → range_with_len a (n + 1) ≡ range_with_len a n ++ (a + n) ∷ []
range_more a zero = ap (λ k. k ∷ []) (let e : a ≡ a + 0 = omega arith in e)
range_more a (suc n) =
    let more : suc n + 1 ≡ suc (n + 1) = omega arith in
    let end : a + 1 + n ≡ a + suc n = omega arith in
    ap (range_with_len a) more
    ∙ ap (λ xs. a ∷ xs) (range_more (a + 1) n ∙ ap (λ k. range_with_len (a + 1) n ++ k ∷ []) end)

module _ {M : Type 0} where
  -- a worker numbered by the length of the team goes behind it
  pub numbers_more : (team : List (TeamWorker M)) (w : TeamWorker M) (n : ℕ)
      → map (λ x. x.number) team ≡ range_with_len 0 n → w.number ≡ n
      → map (λ x. x.number) (team ++ w ∷ []) ≡ range_with_len 0 (n + 1)
  numbers_more team w n numbers same =
      map-append (λ (x : TeamWorker M). x.number) team (w ∷ [])
      ∙ ap (λ xs. xs ++ w.number ∷ []) numbers
      ∙ ap (λ k. range_with_len 0 n ++ k ∷ []) (same ∙ sym (zero-add n))
      ∙ sym (range_more 0 n)

  -- a worker with the turns at its place goes behind the team
  pub turns_more : (team : List (TeamWorker M)) (w : TeamWorker M) (turns : List ℕ) (n : ℕ)
      → map (λ x. x.turn) team ≡ take n turns → n < length turns → w.turn ≡ get_or turns n 0
      → map (λ x. x.turn) (team ++ w ∷ []) ≡ take (n + 1) turns
  turns_more team w turns n taken inside same =
      map-append (λ (x : TeamWorker M). x.turn) team (w ∷ [])
      ∙ ap (λ xs. xs ++ w.turn ∷ []) taken
      ∙ ap (λ k. take n turns ++ k ∷ []) same
      ∙ sym (take_more turns n 0 inside)
