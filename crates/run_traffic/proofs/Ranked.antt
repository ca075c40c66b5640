-- The lines of a list by rank, one more at its end (`ranked_step`).
use Rattle.std.proofs.Common.{◌≡◌, ℕ, suc, ◌+◌, ◌<◌, List, [], ◌∷◌, ◌++◌, length, take, get_or, sym, ap, ◌∙◌, arith, append_assoc, append-nil}
use Rattle.std.proofs.lemmas.List.{take_more, length-take-le}
use Rattle.run_traffic.specs.Lines.{ranked}

-- the lines of two lists
ranked-append : {A : Type 0} (line : ℕ → A → List ℕ) (r : ℕ) (xs ys : List A)
    → ranked line r (xs ++ ys) ≡ ranked line r xs ++ ranked line (r + length xs) ys
ranked-append line r [] ys = let same : r ≡ r + 0 = omega arith in ap (λ m. ranked line m ys) same
ranked-append line r (x ∷ xs) ys =
    let same : r + 1 + length xs ≡ r + suc (length xs) = omega arith in
    ap (λ rest. line r x ++ rest)
    (ranked-append line (r + 1) xs ys ∙ ap (λ m. ranked line (r + 1) xs ++ ranked line m ys) same)
    ∙ sym (append_assoc (line r x) (ranked line (r + 1) xs) (ranked line (r + suc (length xs)) ys))

-- one more line
ranked-more : {A : Type 0} (line : ℕ → A → List ℕ) (r i : ℕ) (xs : List A) (d : A) → i < length xs
    → ranked line r (take (i + 1) xs) ≡ ranked line r (take i xs) ++ line (r + i) (get_or xs i d)
ranked-more line r i xs d low =
    ap (ranked line r) (take_more xs i d low)
    ∙ ranked-append line r (take i xs) (get_or xs i d ∷ [])
    ∙ ap (λ m. ranked line r (take i xs) ++ ranked line m (get_or xs i d ∷ [])) (ap (λ m. r + m) (length-take-le i xs (omega arith)))
    ∙ ap (λ rest. ranked line r (take i xs) ++ rest) (append-nil (line (r + i) (get_or xs i d)))

-- one turn of a loop over the items
pub ranked_step : {A : Type 0} (line : ℕ → A → List ℕ) (old text next : List ℕ) (rank i : ℕ) (xs : List A) (d : A)
    → i < length xs → rank ≡ i + 1 → text ≡ old ++ ranked line 1 (take i xs)
    → next ≡ text ++ line rank (get_or xs i d) → next ≡ old ++ ranked line 1 (take (i + 1) xs)
ranked_step line old text next rank i xs d low place before grown =
    let same : rank ≡ 1 + i = omega arith in
    grown ∙ ap (λ front. front ++ line rank (get_or xs i d)) before
    ∙ append_assoc old (ranked line 1 (take i xs)) (line rank (get_or xs i d))
    ∙ ap (λ m. old ++ (ranked line 1 (take i xs) ++ line m (get_or xs i d))) same
    ∙ ap (λ rest. old ++ rest) (sym (ranked-more line 1 i xs d low))
