-- The loop that closes the runs from the last to the first: what is left of runs and passes, and which lines stand.
use Rattle.std.proofs.Common.{◌≡◌, ℕ, zero, suc, ◌+◌, ◌<◌, List, [], ◌∷◌, ◌++◌, length, get_or, take, map, All, refl, sym, ap, ◌∙◌, subst, arith, add-zero}
use Rattle.std.proofs.lemmas.List.{get_or-take, length-take-le}
use Rattle.std.proofs.lemmas.List.Elements.{All-map}
use Rattle.std.proofs.Math.Seq.{get_or-append_seam, take-append_seam, take-length}
use Rattle.std.proofs.Math.Numerals.{add-one}
use Rattle.sealed_runs.specs.Entries.{Run, no_run, run_at}
use Rattle.sealed_runs.specs.Visits.{Visit, no_visit, visit_at, column, IsVisit, IsPass}
use Rattle.sealed_runs.specs.Closed.{Line, line_at, IsLine, AreLines}

-- a map changes nothing where each item is mapped to itself
map_same : {X : Type 0} (f : X → X) (xs : List X) → All (λ x. f x ≡ x) xs → map f xs ≡ xs
map_same f [] all = refl
map_same f (x ∷ xs) all =
    ap (λ y. y ∷ map f xs) (all 0 x (omega arith))
    ∙ ap (λ ys. x ∷ ys) (map_same f xs (λ k d in_list. all (suc k) d (omega arith)))

-- two maps in a row agree with one where they agree on each item
map_agree : {X Y Z : Type 0} (f : X → Y) (g : Y → Z) (h : X → Z) (xs : List X)
    → All (λ x. g (f x) ≡ h x) xs
    → map g (map f xs) ≡ map h xs
map_agree f g h [] all = refl
map_agree f g h (x ∷ xs) all =
    ap (λ z. z ∷ map g (map f xs)) (all 0 x (omega arith))
    ∙ ap (λ zs. h x ∷ zs) (map_agree f g h xs (λ k d in_list. all (suc k) d (omega arith)))

-- a prefix of a longer prefix is the prefix
take_less : {X : Type 0} (n : ℕ) (xs : List X) → take n (take (n + 1) xs) ≡ take n xs
take_less n xs = ap (λ k. take n (take k xs)) (add-one n) ∙ inner n xs
  where
    inner : {X : Type 0} (n : ℕ) (xs : List X) → take n (take (suc n) xs) ≡ take n xs
    inner zero xs = refl
    inner (suc n) [] = refl
    inner (suc n) (x ∷ xs) = ap (λ ys. x ∷ ys) (inner n xs)

-- what is left of a prefix without its last run, and the last run
pub prefix_last : (all rest : List Run) (run : Run) (n : ℕ) → take (n + 1) all ≡ rest ++ run ∷ []
    → length rest ≡ n → (run ≡ run_at all n) × (rest ≡ take n all)
prefix_last all rest run n is count =
    let last = sym (get_or-append_seam rest run [] no_run)
    ∙ ap (run_at (rest ++ run ∷ [])) count
    ∙ ap (λ rs. run_at rs n) (sym is)
    ∙ get_or-take (n + 1) all n no_run (omega arith) in
    let before = sym (take-append_seam rest (run ∷ []))
    ∙ ap (λ k. take k (rest ++ run ∷ [])) count
    ∙ ap (take n) (sym is)
    ∙ take_less n all in
    (last, before)

module _ (runs : List Run) (passes : List (List Visit)) (own : All (IsPass runs) passes) (n : ℕ)
    (low : n < length runs) where
  -- the passes with one visit for each run up to n
  abbrev pub left : List (List Visit)
  left = map (take (n + 1)) passes

  -- each has n + 1 visits
  pub left_count : All (λ vs. length vs ≡ n + 1) left
  left_count = All-map (λ (vs : List Visit). length vs ≡ n + 1) (take (n + 1)) passes
      (λ k d in_list. let count = (own k d in_list).count in
      length-take-le (n + 1) (get_or passes k d) (omega arith))

  -- the last is of run n
  pub left_own : All (λ vs. IsVisit (run_at runs n) (visit_at vs n)) left
  left_own = All-map (λ (vs : List Visit). IsVisit (run_at runs n) (visit_at vs n)) (take (n + 1))
      passes
      (λ k d in_list. subst (IsVisit (run_at runs n))
      (sym (get_or-take (n + 1) (get_or passes k d) n no_visit (omega arith)))
      ((own k d in_list).each n low))

  -- the last visits are those of run n
  pub left_column : column left n ≡ column passes n
  left_column = map_agree (take (n + 1)) (λ vs. visit_at vs n) (λ vs. visit_at vs n) passes
      (λ k d in_list. get_or-take (n + 1) (get_or passes k d) n no_visit (omega arith))

  -- without the last, the passes have one visit for each run below n
  pub left_rest : map (take n) left ≡ map (take n) passes
  left_rest = map_agree (take (n + 1)) (take n) (take n) passes
      (λ k d in_list. take_less n (get_or passes k d))

-- at the start the passes have all their visits
pub all_left : (runs : List Run) (passes : List (List Visit)) (n : ℕ) → n ≡ length runs
    → All (IsPass runs) passes
    → passes ≡ map (take n) passes
all_left runs passes n is own = sym (map_same (take n) passes (λ k d in_list.
    let count = (own k d in_list).count in
    ap (λ j. take j (get_or passes k d)) (is ∙ sym count) ∙ take-length (get_or passes k d)))

-- the lines of the runs from n on
abbrev pub LinesFrom : List Run → List (List Visit) → ℕ → List Line → Type 0
LinesFrom runs passes n lines =
    (j : ℕ) → j < length lines
    → IsLine (run_at runs (n + j)) (column passes (n + j)) (line_at lines j)

-- one line more stands in front
pub line_more : (runs : List Run) (passes : List (List Visit)) (n : ℕ) (line : Line)
    (lines : List Line)
    → IsLine (run_at runs n) (column passes n) line → LinesFrom runs passes (n + 1) lines
    → LinesFrom runs passes n (line ∷ lines)
line_more runs passes n line lines new old zero in_list =
    subst (λ k. IsLine (run_at runs k) (column passes k) line) (sym (add-zero n)) new
line_more runs passes n line lines new old (suc j) in_list =
    let shifted : (n + 1) + j ≡ n + suc j = omega arith in
    subst (λ k. IsLine (run_at runs k) (column passes k) (line_at lines j)) shifted
    (old j (omega arith))

-- the lines from 0 on are all lines
pub all_lines : (runs : List Run) (passes : List (List Visit)) (n : ℕ) (lines : List Line) → n ≡ 0
    → n + length lines ≡ length runs → LinesFrom runs passes n lines → AreLines runs passes lines
all_lines runs passes n lines none count from = record {
  count = omega arith;
  each = λ m in_list.
      let same : n + m ≡ m = omega arith in
      subst (λ k. IsLine (run_at runs k) (column passes k) (line_at lines m)) same
      (from m (omega arith));
}

-- the run that is closed next is run n, and the passes still have one visit for each run up to it
pub record Next (runs : List Run) (passes now : List (List Visit)) (rest : List Run) (run : Run)
    (n : ℕ) : Type 0 where
  pub low : n < length runs
  pub run_is : run ≡ run_at runs n
  pub rest_is : rest ≡ take n runs
  pub passes_are : now ≡ map (take (n + 1)) passes

-- what the last of the runs that are left is
pub next : (runs : List Run) (passes now : List (List Visit)) (was rest : List Run) (run : Run)
    (before n lines : ℕ)
    → was ≡ take before runs → was ≡ rest ++ run ∷ [] → n + 1 ≡ before
    → before + lines ≡ length runs
    → length rest ≡ n → now ≡ map (take before) passes → Next runs passes now rest run n
next runs passes now was rest run before n lines was_is popped one_less count rest_count
    passes_are =
    let prefix = ap (λ k. take k runs) one_less ∙ sym was_is ∙ popped in
    let last = prefix_last runs rest run n prefix rest_count in
    record {
      low = omega arith;
      run_is = last.0;
      rest_is = last.1;
      passes_are = passes_are ∙ ap (λ k. map (take k) passes) (sym one_less);
    }
