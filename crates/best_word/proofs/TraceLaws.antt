-- Laws of traces: a number within reach of every offer, which is the start or was offered, is the least of them.
use Rattle.std.proofs.Common.{◌≡◌, ◌⊎◌, ℕ, suc, ◌≤◌, List, [], ◌∷◌, ◌++◌, get_or, All, AllPairs, inl, inr, ⊎_elim, arith}
use Rattle.std.proofs.lemmas.List.Elements.{All-append}
use Rattle.std.proofs.lemmas.List.Kept.{AllPairs-cons}
use Rattle.best_word.specs.declared.rule.Event.{Event}
use Rattle.best_word.specs.declared.rule.Event.TheVariants.{Read, Offer}
use Rattle.best_word.specs.Traces.{AtMost, Crosses, Offered, least}
use Rattle.best_word.specs.Rule.{CrossAll}

-- what is at most a read or an offer, is so for anything less
at_most_less : (m n : ℕ) (e : Event) → m ≤ n → AtMost n e → AtMost m e
at_most_less m n (Read r) le h = omega arith
at_most_less m n (Offer v r) le h = (omega arith, omega arith)

-- the same for a whole trace
pub all_less : (m n : ℕ) (es : List Event) → m ≤ n → All (AtMost n) es → All (AtMost m) es
all_less m n es le h k d in_list = at_most_less m n (get_or es k d) le (h k d in_list)

-- what was offered in the first of two traces in a row was offered
pub offered_left : (n : ℕ) (es fs : List Event) → Offered n es → Offered n (es ++ fs)
offered_left n [] fs h = absurd h
offered_left n (Read r ∷ es) fs h = offered_left n es fs h
offered_left n (Offer v r ∷ es) fs h =
    ⊎_elim (λ (e : v ≡ n). inl e) (λ (t : Offered n es). inr (offered_left n es fs t)) h

-- what was offered in the second was offered
pub offered_right : (n : ℕ) (es fs : List Event) → Offered n fs → Offered n (es ++ fs)
offered_right n [] fs h = h
offered_right n (Read r ∷ es) fs h = offered_right n es fs h
offered_right n (Offer v r ∷ es) fs h = inr (offered_right n es fs h)

-- what is within reach of the start and of each offer is at most the least
least_le : (n start : ℕ) (es : List Event) → n ≤ start → All (AtMost n) es → n ≤ least start es
least_le n start [] le below = le
least_le n start (Read r ∷ es) le below =
    least_le n start es le (λ k d in_list. below (suc k) d (omega arith))
least_le n start (Offer v r ∷ es) le below =
    let here : (n ≤ r) × (n ≤ v) = below 0 (Read 0) (omega arith) in
    let rest = least_le n start es le (λ k d in_list. below (suc k) d (omega arith)) in
    omega arith

-- the least is at most the start
pub least_start : (start : ℕ) (es : List Event) → least start es ≤ start
least_start start [] = omega arith
least_start start (Read r ∷ es) = least_start start es
least_start start (Offer v r ∷ es) = let rest = least_start start es in omega arith

-- the least is at most each offer
pub least_offered : (n start : ℕ) (es : List Event) → Offered n es → least start es ≤ n
least_offered n start [] h = absurd h
least_offered n start (Read r ∷ es) h = least_offered n start es h
least_offered n start (Offer v r ∷ es) h = ⊎_elim
    (λ (e : v ≡ n). omega arith)
    (λ (t : Offered n es). let rest = least_offered n start es t in omega arith)
    h

-- what is within reach of all, and is the start or was offered, is the least
pub least_is : (n start : ℕ) (es : List Event) → n ≤ start → All (AtMost n) es → (n ≡ start)
    ⊎ Offered n es
    → n ≡ least start es
least_is n start es le below met =
    let up = least_le n start es le below in
    let down : least start es ≤ n = ⊎_elim
    (λ (e : n ≡ start). let s = least_start start es in omega arith)
    (λ (t : Offered n es). least_offered n start es t)
    met in
    omega arith

-- offers cross in two traces in a row where they cross in each and between both
pub pairs_append : (xs ys : List Event) → AllPairs Crosses xs → AllPairs Crosses ys → CrossAll xs ys
    → AllPairs Crosses (xs ++ ys)
pairs_append [] ys a b both = b
pairs_append (x ∷ xs) ys a b both =
    let head = All-append (Crosses x) xs ys
    (λ k d in_list. a 0 (suc k) d (omega arith) (omega arith)) (both 0 x (omega arith)) in
    let inner : AllPairs Crosses xs =
    λ i j d lt in_list. a (suc i) (suc j) d (omega arith) (omega arith) in
    let across : CrossAll xs ys = λ k d in_list. both (suc k) d (omega arith) in
    AllPairs-cons Crosses x (xs ++ ys) head (pairs_append xs ys inner b across)
