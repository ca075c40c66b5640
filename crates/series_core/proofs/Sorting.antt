-- Lists put into ascending order, and their k smallest pairs: what a change of the list changes in them.
use Rattle.std.proofs.Common.{◌≡◌, ℕ, zero, suc, List, [], ◌∷◌, take, true, false, refl, ap, ◌∙◌}
use Rattle.std.proofs.lemmas.Bool.{cond_both, cond-true, cond-false}
use Rattle.series_core.specs.Pairs.{is_before, insert, ascending, smallest}
use Rattle.series_core.specs.declared.pair.Pair.{Pair}
use Rattle.series_core.proofs.Order.{not_after, not_before_trans}

-- each pair of the list is so
abbrev pub Each : (Pair → Type 0) → List Pair → Type 0
Each So [] = Unit {0}
Each So (q ∷ qs) = So q × Each So qs

-- no pair of the list is smaller than p
abbrev pub NoneBefore : Pair → List Pair → Type 0
NoneBefore p qs = Each (λ q. is_before q p ≡ false) qs

-- no pair is followed by a smaller one
abbrev pub IsSorted : List Pair → Type 0
IsSorted [] = Unit {0}
IsSorted (p ∷ ps) = NoneBefore p ps × IsSorted ps

-- p goes to the front of a list that begins with no smaller pair
pub insert_front : (p q : Pair) (qs : List Pair) → is_before q p ≡ false → insert p (q ∷ qs) ≡ p ∷ q ∷ qs
insert_front p q qs h = cond-false (is_before q p) (q ∷ insert p qs) (p ∷ q ∷ qs) h

-- p goes behind a smaller first pair
pub insert_behind : (p q : Pair) (qs : List Pair) → is_before q p ≡ true → insert p (q ∷ qs) ≡ q ∷ insert p qs
insert_behind p q qs h = cond-true (is_before q p) (q ∷ insert p qs) (p ∷ q ∷ qs) h

-- what is said of each pair of a list, and so of a pair that is inserted, is said of all of them
pub said_insert : (Said : List Pair → Type 0) (So : Pair → Type 0) → Said []
    → ((q : Pair) (qs : List Pair) → So q → Said qs → Said (q ∷ qs))
    → ((q : Pair) (qs : List Pair) → Said (q ∷ qs) → So q × Said qs)
    → (x : Pair) (qs : List Pair) → So x → Said qs → Said (insert x qs)
said_insert Said So none join part x [] here said = join x [] here none
said_insert Said So none join part x (q ∷ qs) here said =
    let parts = part q qs said in
    cond_both (is_before q x) (q ∷ insert x qs) (x ∷ q ∷ qs) Said
    (λ _. join q (insert x qs) parts.0 (said_insert Said So none join part x qs here parts.1))
    (λ _. join x (q ∷ qs) here said)

-- what is said of each pair and those behind it is said of the first n pairs, where no pair behind is needed for it
pub said_take : (Said : List Pair → Type 0) (Leads : Pair → List Pair → Type 0) → Said []
    → ((q : Pair) (qs : List Pair) → Leads q qs → Said qs → Said (q ∷ qs))
    → ((q : Pair) (qs : List Pair) → Said (q ∷ qs) → Leads q qs × Said qs)
    → ((n : ℕ) (q : Pair) (qs : List Pair) → Leads q qs → Leads q (take n qs))
    → (n : ℕ) (qs : List Pair) → Said qs → Said (take n qs)
said_take Said Leads none join part front zero qs said = none
said_take Said Leads none join part front (suc n) [] said = none
said_take Said Leads none join part front (suc n) (q ∷ qs) said =
    let parts = part q qs said in
    join q (take n qs) (front n q qs parts.0) (said_take Said Leads none join part front n qs parts.1)

-- what has no smaller pair in a list has none before a pair that is not smaller
none_before_trans : (p q : Pair) (qs : List Pair) → is_before q p ≡ false → NoneBefore q qs → NoneBefore p qs
none_before_trans p q [] h n = tt
none_before_trans p q (r ∷ rs) h n = (not_before_trans p q r h n.0, none_before_trans p q rs h n.1)

-- a pair that is not smaller may be inserted
none_before_insert : (p x : Pair) (qs : List Pair) → is_before x p ≡ false → NoneBefore p qs → NoneBefore p (insert x qs)
none_before_insert p =
    said_insert (NoneBefore p) (λ q. is_before q p ≡ false) tt (λ q qs here rest. (here, rest)) (λ q qs all. all)

-- an insert keeps a list in order
pub sorted_insert : (x : Pair) (qs : List Pair) → IsSorted qs → IsSorted (insert x qs)
sorted_insert x [] s = (tt, tt)
sorted_insert x (q ∷ qs) s =
    cond_both (is_before q x) (q ∷ insert x qs) (x ∷ q ∷ qs) IsSorted
    (λ before. (none_before_insert q x qs (not_after q x before) s.0, sorted_insert x qs s.1))
    (λ not. ((not, none_before_trans x q qs not s.0), s))

-- the pairs in ascending order are in order
pub sorted_ascending : (ps : List Pair) → IsSorted (ascending ps)
sorted_ascending [] = tt
sorted_ascending (p ∷ ps) = sorted_insert p (ascending ps) (sorted_ascending ps)

-- p goes to the front where no pair is smaller
pub insert_first : (p : Pair) (qs : List Pair) → NoneBefore p qs → insert p qs ≡ p ∷ qs
insert_first p [] n = refl
insert_first p (q ∷ qs) n = insert_front p q qs n.0

-- a list in order is its own ascending order
pub ascending_sorted : (ps : List Pair) → IsSorted ps → ascending ps ≡ ps
ascending_sorted [] s = refl
ascending_sorted (p ∷ ps) s = ap (insert p) (ascending_sorted ps s.1) ∙ insert_first p ps s.0

-- the first n of a list in order
none_before_take : (n : ℕ) (p : Pair) (qs : List Pair) → NoneBefore p qs → NoneBefore p (take n qs)
none_before_take n p =
    said_take (NoneBefore p) (λ q qs. is_before q p ≡ false) tt (λ q qs here rest. (here, rest)) (λ q qs all. all) (λ n q qs here. here) n

pub sorted_take : (n : ℕ) (qs : List Pair) → IsSorted qs → IsSorted (take n qs)
sorted_take = said_take IsSorted NoneBefore tt (λ q qs here rest. (here, rest)) (λ q qs all. all) none_before_take

-- the k smallest are in order
pub ascending_smallest : (k : ℕ) (ps : List Pair) → ascending (smallest k ps) ≡ smallest k ps
ascending_smallest k ps = ascending_sorted (smallest k ps) (sorted_take k (ascending ps) (sorted_ascending ps))
