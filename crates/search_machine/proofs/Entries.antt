-- Entries of a queue: what stands in a list after a put, in which order, and how often.
use Rattle.std.proofs.Common.{List, [], arith, false, length, refl, subst, suc, sym, true, ℕ, ⊎_elim, ◌++◌, ◌+◌, ◌∷◌, ◌≡◌, ◌≤◌, ◌⊎◌}
use Rattle.std.proofs.lemmas.Bool.{cond_both}
use Rattle.std.proofs.lemmas.Bool.Decides.{nat_tests}
use Rattle.list_totals.specs.Totals.{one_if_same}
use Rattle.series_core.specs.declared.queue_words.Entry.{Entry}
use Rattle.leaf_queues.specs.PlainQueue.{entry_before, place}
use Rattle.list_totals.specs.Standing.{In}
use Rattle.search_machine.specs.Basics.{Ordered, entered}
use Rattle.list_totals.proofs.Standing.{in_front, in_put}

-- what stands in the list after an entry was placed is that entry or stood there
pub in_placed : (x e : Entry) (es : List Entry) → In x (place e es) → (x ≡ e) ⊎ In x es
in_placed x e [] = λ h. h
in_placed x e (d ∷ ds) = in_put (entry_before d e) x e d ds (place e ds) (in_placed x e ds)

-- a leaf stands once more where its entry was placed
pub entered_place : (l : ℕ) (e : Entry) (es : List Entry)
    → entered l (place e es) ≡ one_if_same l e.leaf + entered l es
entered_place l e [] = refl
entered_place l e (d ∷ ds) =
    cond_both (entry_before d e) (d ∷ place e ds) (e ∷ d ∷ ds)
    (λ r. entered l r ≡ one_if_same l e.leaf + entered l (d ∷ ds))
    (λ _. let h = entered_place l e ds in omega arith)
    (λ _. refl)

-- a list is longer by one where an entry was placed
pub length_place : (e : Entry) (es : List Entry) → length (place e es) ≡ suc (length es)
length_place e [] = refl
length_place e (d ∷ ds) =
    cond_both (entry_before d e) (d ∷ place e ds) (e ∷ d ∷ ds)
    (λ r. length r ≡ suc (length (d ∷ ds)))
    (λ _. let h = length_place e ds in omega arith)
    (λ _. refl)

-- of two entries that differ in order, only one comes before the other
one_way : (d e : Entry) → entry_before d e ≡ true → entry_before e d ≡ false
one_way d e h = grind (arith, nat_tests)

-- what does not come before goes along
goes_along : (x d e : Entry) → entry_before x d ≡ false → entry_before d e ≡ false
    → entry_before x e ≡ false
goes_along x d e h i = grind (arith, nat_tests)

-- an entry that does not come before another has no lesser bound
pub bound_order : (d e : Entry) → entry_before d e ≡ false → e.bound ≤ d.bound
bound_order d e h = grind (arith, nat_tests)

-- a list in order stays in order where an entry is placed
pub ordered_place : (e : Entry) (es : List Entry) → Ordered es → Ordered (place e es)
ordered_place e [] h = (λ d t. absurd t, tt)
ordered_place e (d ∷ ds) h =
    cond_both (entry_before d e) (d ∷ place e ds) (e ∷ d ∷ ds) Ordered
    (λ b. (
      λ x t. ⊎_elim
          (λ (same : x ≡ e).
          subst (λ (y : Entry). entry_before y d ≡ false) (sym same) (one_way d e b))
          (λ (u : In x ds). h.0 x u)
          (in_placed x e ds t),
      ordered_place e ds h.1,
    ))
    (λ b. (
      λ x t. ⊎_elim
          (λ (same : x ≡ d). subst (λ (y : Entry). entry_before y e ≡ false) (sym same) b)
          (λ (u : In x ds). goes_along x d e (h.0 x u) b)
          t,
      h,
    ))

-- the front of a list in order is in order
pub ordered_front : (xs ys : List Entry) → Ordered (xs ++ ys) → Ordered xs
ordered_front [] ys h = tt
ordered_front (x ∷ xs) ys h =
    (λ d t. h.0 d (in_front d xs ys t), ordered_front xs ys h.1)
