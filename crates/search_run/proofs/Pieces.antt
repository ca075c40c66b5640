-- Texts piece by piece: one more piece makes a longer text (`text_next`), and each beginning has an end (`text_finish`).
use Rattle.std.proofs.Common.{◌≡◌, ℕ, zero, suc, ◌+◌, ◌<◌, ◌≤◌, List, [], ◌∷◌, ◌++◌, length, take, get_or, sym, ap, subst, ◌∙◌, refl, arith, append_assoc, append-nil}
use Rattle.std.specs.Prelude.{ℤ}
use Rattle.std.specs.List.{All}
use Rattle.std.proofs.lemmas.List.Elements.{All-head, All-tail}
use Rattle.std.proofs.lemmas.List.{take_all, take_more, length-take-le}
use Rattle.search_run.specs.Texts.{IsTextFrom, IsTextOf}

-- the text of these queries and of one more
text_more : (P : ℕ → List ℤ → List ℕ → Type 0) (i : ℕ) (qs : List (List ℤ)) (q : List ℤ) (text piece : List ℕ)
    → IsTextFrom P i qs text → P (i + length qs) q piece → IsTextFrom P i (qs ++ q ∷ []) (text ++ piece)
text_more P i [] q text piece before new =
    let same : i + 0 ≡ i = omega arith in
    (piece, [], subst (λ n. P n q piece) same new, refl, ap (λ xs. xs ++ piece) before ∙ sym (append-nil piece))
text_more P i (p ∷ qs) q text piece before new =
    let same : i + suc (length qs) ≡ i + 1 + length qs = omega arith in
    let later = text_more P (i + 1) qs q before.1 piece before.3 (subst (λ n. P n q piece) same new) in
    (before.0, before.1 ++ piece, before.2, later, ap (λ xs. xs ++ piece) before.4 ∙ append_assoc before.0 before.1 piece)

-- the text of the first queries, and of the one behind them
pub text_next : (P : ℕ → List ℤ → List ℕ → Type 0) (i : ℕ) (qs : List (List ℤ)) (d : List ℤ) (text piece : List ℕ)
    → i < length qs → IsTextOf P (take i qs) text → P i (get_or qs i d) piece → IsTextOf P (take (i + 1) qs) (text ++ piece)
text_next P i qs d text piece h before new =
    let place : i ≡ 0 + length (take i qs) = omega (arith, length-take-le i qs (omega arith)) in
    subst (λ front. IsTextOf P front (text ++ piece)) (sym (take_more qs i d h))
    (text_more P 0 (take i qs) (get_or qs i d) text piece before (subst (λ n. P n (get_or qs i d) piece) place new))

-- pieces of one kind that are of another
pub text_map : (P Q : ℕ → List ℤ → List ℕ → Type 0)
    → ((i : ℕ) (q : List ℤ) (piece : List ℕ) → P i q piece → Q i q piece)
    → (i : ℕ) (qs : List (List ℤ)) (text : List ℕ) → IsTextFrom P i qs text → IsTextFrom Q i qs text
text_map P Q each i [] text is = is
text_map P Q each i (q ∷ qs) text is =
    (is.0, is.1, each i q is.0 is.2, text_map P Q each (i + 1) qs is.1 is.3, is.4)

-- where each of these queries has a piece there is a text
text_exists : (P : ℕ → List ℤ → List ℕ → Type 0) (Asked : List ℤ → Type 0)
    → ((i : ℕ) (q : List ℤ) → Asked q → (piece : List ℕ) × P i q piece)
    → (i : ℕ) (qs : List (List ℤ)) → All Asked qs → (text : List ℕ) × IsTextFrom P i qs text
text_exists P Asked each i [] all = ([], refl)
text_exists P Asked each i (q ∷ qs) all =
    let piece = each i q (All-head Asked q qs all) in
    let rest = text_exists P Asked each (i + 1) qs (All-tail Asked q qs all) in
    (piece.0 ++ rest.0, (piece.0, rest.0, piece.1, rest.1, refl))

-- and what was written of the first queries begins one
pub text_finish : (P : ℕ → List ℤ → List ℕ → Type 0) (Asked : List ℤ → Type 0)
    → ((i : ℕ) (q : List ℤ) → Asked q → (piece : List ℕ) × P i q piece)
    → (i : ℕ) (qs : List (List ℤ)) (n : ℕ) (text : List ℕ) → All Asked qs → IsTextFrom P i (take n qs) text
    → (rest : List ℕ) × IsTextFrom P i qs (text ++ rest)
text_finish P Asked each i qs zero text all before =
    let whole = text_exists P Asked each i qs all in
    (whole.0, subst (IsTextFrom P i qs) (sym (ap (λ xs. xs ++ whole.0) before)) whole.1)
text_finish P Asked each i [] (suc n) text all before = ([], append-nil text ∙ before)
text_finish P Asked each i (q ∷ qs) (suc n) text all before =
    let more = text_finish P Asked each (i + 1) qs n before.1 (All-tail Asked q qs all) before.3 in (
      more.0,
      (
        before.0,
        before.1 ++ more.0,
        before.2,
        more.1,
        ap (λ xs. xs ++ more.0) before.4 ∙ append_assoc before.0 before.1 more.0,
      ),
    )

-- the text of the first queries is that of all, where there are no more
pub text_all : (P : ℕ → List ℤ → List ℕ → Type 0) (n : ℕ) (qs : List (List ℤ)) (text : List ℕ) → length qs ≤ n
    → IsTextOf P (take n qs) text → IsTextOf P qs text
text_all P n qs text all is = subst (λ front. IsTextOf P front text) (take_all n qs all) is
