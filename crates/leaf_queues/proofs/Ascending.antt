-- The ascending list of entries does not depend on the order in which they are kept.
use Rattle.std.proofs.Common.{◌≡◌, ℕ, Bool, zero, suc, ◌<◌, List, [], ◌∷◌, true, false, cond, length, get_or, set, refl, sym, ap, ◌∙◌, arith}
use Rattle.std.proofs.lemmas.Bool.{cond_both}
use Rattle.std.proofs.lemmas.List.Elements.{All-head}
use Rattle.std.proofs.lemmas.List.Sorted.{IsPermutation-refl, IsPermutation-cons, IsPermutation-middle, IsPermutation-trans, IsPermutation-keeps, All-permutation}
use Rattle.std.specs.List.{swap}
use Rattle.std.specs.List.Sorted.{IsPermutation}
use Rattle.series_core.specs.EntryOrder.{NotAfter, entry_before}
use Rattle.series_core.specs.declared.queue_words.Entry.{Entry}
use Rattle.leaf_queues.specs.PlainQueue.{place}
use Rattle.leaf_queues.specs.Lines.{IsLeast, ascending}
use Rattle.series_core.proofs.EntryOrder.{before_one_way, before_along, before_neither}

-- a test is true or false
either_way : (b : Bool) (P : Type 0) → (b ≡ true → P) → (b ≡ false → P) → P
either_way true P t f = t refl
either_way false P t f = f refl

-- an entry is placed behind one that comes before it
place_behind : (e d : Entry) (ds : List Entry) → entry_before d e ≡ true
    → place e (d ∷ ds) ≡ d ∷ place e ds
place_behind e d ds h = ap (λ b. cond b (d ∷ place e ds) (e ∷ d ∷ ds)) h

-- an entry is placed before one that does not come before it
place_before : (e d : Entry) (ds : List Entry) → NotAfter e d → place e (d ∷ ds) ≡ e ∷ d ∷ ds
place_before e d ds h = ap (λ b. cond b (d ∷ place e ds) (e ∷ d ∷ ds)) h

-- two entries that both stand before a list may be placed in either order
place_both : (a b : Entry) (es : List Entry) → place a es ≡ a ∷ es → place b es ≡ b ∷ es
    → place a (b ∷ es) ≡ place b (a ∷ es)
place_both a b es ea eb = either_way (entry_before b a) (place a (b ∷ es) ≡ place b (a ∷ es))
    (λ (t : entry_before b a ≡ true). place_behind a b es t
    ∙ (ap (λ l. b ∷ l) ea ∙ sym (place_before b a es (before_one_way b a t))))
    (λ (f : NotAfter a b). either_way (entry_before a b) (place a (b ∷ es) ≡ place b (a ∷ es))
    (λ (t : entry_before a b ≡ true). place_before a b es f
    ∙ (sym (ap (λ l. a ∷ l) eb) ∙ sym (place_behind b a es t)))
    (λ (g : NotAfter b a). let same : a ≡ b = before_neither a b f g in
    place_before a b es f
    ∙ ((λ i. same i ∷ sym same i ∷ es) ∙ sym (place_before b a es g))))

-- where d comes before b alone, a and b may be placed in either order
place_around : (a b d : Entry) (ds : List Entry) → entry_before d b ≡ true → NotAfter a d
    → place a (d ∷ place b ds) ≡ place b (a ∷ d ∷ ds)
place_around a b d ds db ad =
    let ab : entry_before a b ≡ true = either_way (entry_before a b) (entry_before a b ≡ true)
    (λ (t : entry_before a b ≡ true). t)
    (λ (f : NotAfter b a).
    let bd : NotAfter b d = before_along b a d f ad in absurd (cc (db, bd))) in
    place_before a d (place b ds) ad
    ∙ (sym (ap (λ l. a ∷ l) (place_behind b d ds db)) ∙ sym (place_behind b a (d ∷ ds) ab))

-- two entries may be placed in either order
place-place : (a b : Entry) (es : List Entry) → place a (place b es) ≡ place b (place a es)
place-place a b [] = place_both a b [] refl refl
place-place a b (d ∷ ds) =
    let Goal : Type 0 = place a (place b (d ∷ ds)) ≡ place b (place a (d ∷ ds)) in
    either_way (entry_before d b) Goal
    (λ (db : entry_before d b ≡ true). either_way (entry_before d a) Goal
    (λ (da : entry_before d a ≡ true).
    ap (place a) (place_behind b d ds db) ∙ (place_behind a d (place b ds) da
    ∙ (ap (λ l. d ∷ l) (place-place a b ds) ∙ (sym (place_behind b d (place a ds) db)
    ∙ sym (ap (place b) (place_behind a d ds da))))))
    (λ (ad : NotAfter a d).
    ap (place a) (place_behind b d ds db) ∙ (place_around a b d ds db ad
    ∙ sym (ap (place b) (place_before a d ds ad)))))
    (λ (bd : NotAfter b d). either_way (entry_before d a) Goal
    (λ (da : entry_before d a ≡ true).
    ap (place a) (place_before b d ds bd) ∙ (sym (place_around b a d ds da bd)
    ∙ sym (ap (place b) (place_behind a d ds da))))
    (λ (ad : NotAfter a d).
    ap (place a) (place_before b d ds bd)
    ∙ (place_both a b (d ∷ ds) (place_before a d ds ad) (place_before b d ds bd)
    ∙ sym (ap (place b) (place_before a d ds ad)))))

-- an entry for another: with both put in, the ascending lists are the same
ascending_set : (xs : List Entry) (i : ℕ) (y d : Entry) → i < length xs
    → place (get_or xs i d) (ascending (set xs i y)) ≡ place y (ascending xs)
ascending_set [] i y d l = absurd (omega arith)
ascending_set (x ∷ xs) zero y d l = place-place x y (ascending xs)
ascending_set (x ∷ xs) (suc i) y d l =
    place-place (get_or xs i d) x (ascending (set xs i y))
    ∙ (ap (place x) (ascending_set xs i y d (omega arith)) ∙ place-place x y (ascending xs))

-- the entries at i and j change places
abbrev swapped : List Entry → ℕ → ℕ → Entry → List Entry
swapped xs i j d = set (set xs i (get_or xs j d)) j (get_or xs i d)

-- the ascending list stays where two entries change places
ascending_swapped : (xs : List Entry) (i j : ℕ) (d : Entry) → i < length xs → j < length xs
    → ascending (swapped xs i j d) ≡ ascending xs
ascending_swapped [] i j d l m = absurd (omega arith)
ascending_swapped (x ∷ xs) zero zero d l m = refl
ascending_swapped (x ∷ xs) zero (suc j) d l m = ascending_set xs j x d (omega arith)
ascending_swapped (x ∷ xs) (suc i) zero d l m = ascending_set xs i x d (omega arith)
ascending_swapped (x ∷ xs) (suc i) (suc j) d l m =
    ap (place x) (ascending_swapped xs i j d (omega arith) (omega arith))

-- the same for the swap of a vector
ascending_swap : (xs : List Entry) (i j : ℕ) → i < length xs → j < length xs
    → ascending (swap xs i j) ≡ ascending xs
ascending_swap [] i j l m = refl
ascending_swap (x ∷ xs) i j l m = ascending_swapped (x ∷ xs) i j x l m

-- entries in another order have the same ascending list
pub ascending_permutation : (xs ys : List Entry) → IsPermutation xs ys → ascending ys ≡ ascending xs
ascending_permutation xs ys p = IsPermutation-keeps xs (λ l. ascending l ≡ ascending xs) refl
    (λ l i j li lj h. ascending_swap l i j li lj ∙ h) ys p

-- to place an entry adds it
place_adds : (e : Entry) (es : List Entry) → IsPermutation (e ∷ es) (place e es)
place_adds e [] = IsPermutation-refl (e ∷ [])
place_adds e (d ∷ ds) = cond_both (entry_before d e) (d ∷ place e ds) (e ∷ d ∷ ds)
    (IsPermutation (e ∷ d ∷ ds))
    (λ _. IsPermutation-trans (e ∷ d ∷ ds) (d ∷ e ∷ ds) (d ∷ place e ds)
    (IsPermutation-middle (e ∷ []) d ds)
    (IsPermutation-cons d (e ∷ ds) (place e ds) (place_adds e ds)))
    (λ _. IsPermutation-refl (e ∷ d ∷ ds))

-- the ascending list has each entry once
pub ascending_entries : (xs : List Entry) → IsPermutation xs (ascending xs)
ascending_entries [] = IsPermutation-refl []
ascending_entries (x ∷ xs) =
    IsPermutation-trans (x ∷ xs) (x ∷ ascending xs) (place x (ascending xs))
    (IsPermutation-cons x xs (ascending xs) (ascending_entries xs)) (place_adds x (ascending xs))

-- an entry before which none comes is placed first
place_least : (e : Entry) (es : List Entry) → IsLeast e es → place e es ≡ e ∷ es
place_least e [] h = refl
place_least e (d ∷ ds) h = place_before e d ds (All-head (NotAfter e) d ds h)

-- the least entry is the first of the ascending list
pub ascending_least : (e : Entry) (es : List Entry) → IsLeast e es
    → ascending (e ∷ es) ≡ e ∷ ascending es
ascending_least e es h = place_least e (ascending es)
    (All-permutation (NotAfter e) es (ascending es) (ascending_entries es) h)
