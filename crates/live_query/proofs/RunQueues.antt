-- What a sealed run leaves: the entries that were not taken. Each leaf stands among the entries of a run once at most
-- (`once_entered`), and is either left or taken (`left_or_taken`).
use Rattle.std.proofs.Common.{◌≡◌, ℕ, zero, suc, ◌+◌, ◌-◌, ◌*◌, ◌/◌, ◌%◌, ◌<◌, ◌≤◌, ◌⊎◌, List, [], ◌∷◌, None, Some, Option, Bool, true, false, All, refl, sym, ap, ◌∙◌, subst, inl, inr, ⊎_elim, arith}
use Rattle.std.specs.Prelude.{is_some, not, nat_lt, slice_get, min}
use Rattle.std.specs.List.{filter}
use Rattle.std.proofs.Math.Nat.{mod-lt, mod-add-div'}
use Rattle.std.proofs.lemmas.Nat.{mod-mul-add}
use Rattle.std.proofs.lemmas.Bool.{cases_lt, cond_both, true≢false}
use Rattle.std.proofs.lemmas.Bool.Decides.{nat_tests}
use Rattle.std.proofs.lemmas.Option.{none-some, same_Some}
use Rattle.list_totals.specs.Totals.{one_if_same}
use Rattle.list_totals.specs.Standing.{In}
use Rattle.list_totals.proofs.Standing.{in_all, in_total}
use Rattle.series_core.specs.declared.queue_words.Entry.{Entry}
use Rattle.series_core.specs.EntryOrder.{Before, IsAscending, entry_before}
use Rattle.sealed_runs.specs.Closed.{least_limit, lesser}
use Rattle.sealed_runs.specs.Visits.{Visit}
use Rattle.search_machine.specs.Basics.{Ordered, entered}
use Rattle.search_machine.proofs.Counts.{counts_or_not, same_counts}
use Rattle.search_machine.proofs.Ending.{entered_some}

-- the first of an ascending list comes before all others, and they ascend
first_before : (e : Entry) (es : List Entry) → IsAscending (e ∷ es) → All (Before e) es
first_before e es h k d low = h 0 (suc k) d (omega arith) (omega arith)

rest_ascends : (e : Entry) (es : List Entry) → IsAscending (e ∷ es) → IsAscending es
rest_ascends e es h i j d less low = h (suc i) (suc j) d (omega arith) (omega arith)

not_before : (d e : Entry) → Before d e → entry_before e d ≡ false
not_before d e h = by d.bound d.leaf e.bound e.leaf h
  where
    by : (a l b m : ℕ) → Before (record { bound = a; leaf = l }) (record { bound = b; leaf = m })
        → entry_before (record { bound = b; leaf = m }) (record { bound = a; leaf = l }) ≡ false
    by a l b m h = grind (arith, nat_tests)

-- an ascending list is ordered
pub ascending_ordered : (es : List Entry) → IsAscending es → Ordered es
ascending_ordered [] h = tt
ascending_ordered (e ∷ es) h = (
  λ d i. not_before e d (in_all (Before e) es d (first_before e es h) i),
  ascending_ordered es (rest_ascends e es h),
)

-- what passes stands in the list
pub in_filter : (p : Entry → Bool) (es : List Entry) (d : Entry) → In d (filter p es) → In d es × (p d ≡ true)
in_filter p [] d i = absurd i
in_filter p (e ∷ es) d there = cond_both (p e) (e ∷ filter p es) (filter p es)
    (λ l. In d l → In d (e ∷ es) × (p d ≡ true))
    (λ passes i. ⊎_elim
    (λ (same : d ≡ e). (inl same, ap p same ∙ passes))
    (λ (more : In d (filter p es)). let r = in_filter p es d more in (inr r.0, r.1))
    i)
    (λ _ i. let r = in_filter p es d i in (inr r.0, r.1))
    there

pub ordered_filter : (p : Entry → Bool) (es : List Entry) → Ordered es → Ordered (filter p es)
ordered_filter p [] h = tt
ordered_filter p (e ∷ es) h = cond_both (p e) (e ∷ filter p es) (filter p es) Ordered
    (λ _. (λ d i. h.0 d (in_filter p es d i).0, ordered_filter p es h.1))
    (λ _. ordered_filter p es h.1)

-- what stands in the list is entered by its leaf
pub entered_in : (e : Entry) (es : List Entry) → In e es → 0 < entered e.leaf es
entered_in e es i =
    let a = in_total (λ (d : Entry). one_if_same e.leaf d.leaf) e es i in
    let b = same_counts e.leaf in
    omega arith

-- of ascending entries with the bounds of their leaves, each leaf has one at most
pub once_entered : (bound : ℕ → ℕ) (es : List Entry) → IsAscending es → ((e : Entry) → In e es → e.bound ≡ bound e.leaf)
    → (l : ℕ) → entered l es ≤ 1
once_entered bound [] h right l = omega arith
once_entered bound (e ∷ es) h right l =
    let rest = once_entered bound es (rest_ascends e es h) (λ d i. right d (inr i)) l in
    ⊎_elim
    (λ (is : (one_if_same l e.leaf ≡ 1) × (l ≡ e.leaf)). ⊎_elim
    (λ (some : 0 < entered l es).
    let r = entered_some l es some in
    let leaf : r.0.leaf ≡ e.leaf = sym r.2 ∙ is.1 in
    let same : r.0.bound ≡ e.bound = right r.0 (inr r.1) ∙ ap bound leaf ∙ sym (right e (inl refl)) in
    absurd (no_two e r.0 same leaf (in_all (Before e) es r.0 (first_before e es h) r.1)))
    (λ (none : entered l es ≤ 0). omega (arith, is.0))
    (cases_lt 0 (entered l es)))
    (λ (not_here : one_if_same l e.leaf ≡ 0). omega arith)
    (counts_or_not l e.leaf)
  where
    no_two : (e d : Entry) → d.bound ≡ e.bound → d.leaf ≡ e.leaf → Before e d → ⊥
    no_two e d b l before = by e.bound e.leaf d.bound d.leaf b l before
      where
        by : (a l b m : ℕ) → b ≡ a → m ≡ l → Before (record { bound = a; leaf = l }) (record { bound = b; leaf = m }) → ⊥
        by a l b m same leaf h = grind (arith, nat_tests)

-- whether an entry's leaf is not among those taken
abbrev pub is_left : List Entry → Entry → Bool
is_left taken e = not (nat_lt 0 (entered e.leaf taken))

-- the entries whose leaves were not taken
abbrev pub left_of : List Entry → List Entry → List Entry
left_of es taken = filter (is_left taken) es

-- a leaf that was taken is not left, and any other is left as often as it was there
left_taken : (l : ℕ) (es taken : List Entry) → 0 < entered l taken → entered l (left_of es taken) ≡ 0
left_taken l [] taken some = refl
left_taken l (e ∷ es) taken some =
    let rest = left_taken l es taken some in
    cond_both (is_left taken e) (e ∷ left_of es taken) (left_of es taken) (λ r. entered l r ≡ 0)
    (λ left. ⊎_elim
    (λ (is : (one_if_same l e.leaf ≡ 1) × (l ≡ e.leaf)).
    let gone : nat_lt 0 (entered e.leaf taken) ≡ true
    = ap (λ k. nat_lt 0 (entered k taken)) (sym is.1) ∙ positive (entered l taken) some in
    absurd (true≢false (sym left ∙ ap not gone)))
    (λ (not_here : one_if_same l e.leaf ≡ 0). omega arith)
    (counts_or_not l e.leaf))
    (λ _. rest)
  where
    positive : (n : ℕ) → 0 < n → nat_lt 0 n ≡ true
    positive n low = grind (arith, nat_tests)

left_other : (l : ℕ) (es taken : List Entry) → entered l taken ≡ 0 → entered l (left_of es taken) ≡ entered l es
left_other l [] taken none = refl
left_other l (e ∷ es) taken none =
    let rest = left_other l es taken none in
    cond_both (is_left taken e) (e ∷ left_of es taken) (left_of es taken) (λ r. entered l r ≡ entered l (e ∷ es))
    (λ _. omega arith)
    (λ gone. ⊎_elim
    (λ (is : (one_if_same l e.leaf ≡ 1) × (l ≡ e.leaf)).
    let stays : nat_lt 0 (entered e.leaf taken) ≡ false
    = ap (λ k. nat_lt 0 (entered k taken)) (sym is.1) ∙ nothing (entered l taken) none in
    absurd (true≢false (sym (ap not stays) ∙ gone)))
    (λ (not_here : one_if_same l e.leaf ≡ 0). omega arith)
    (counts_or_not l e.leaf))
  where
    nothing : (n : ℕ) → n ≡ 0 → nat_lt 0 n ≡ false
    nothing n none = grind (arith, nat_tests)

-- each leaf of the entries is left or was taken, where what was taken is of the entries and no leaf stands twice in either
pub left_or_taken : (l : ℕ) (es taken : List Entry) → entered l es ≤ 1 → entered l taken ≤ 1
    → ((e : Entry) → In e taken → In e es)
    → entered l (left_of es taken) + entered l taken ≡ entered l es
left_or_taken l es taken once once_taken from = ⊎_elim
    (λ (some : 0 < entered l taken).
    let none = left_taken l es taken some in
    let r = entered_some l taken some in
    let there = subst (λ k. 0 < entered k es) (sym r.2) (entered_in r.0 es (from r.0 r.1)) in
    omega arith)
    (λ (none : entered l taken ≤ 0). let same = left_other l es taken (omega arith) in omega arith)
    (cases_lt 0 (entered l taken))

-- where some visit was closed there is a least limit, and it is that of a visit
pub least_some : (vs : List Visit) (i : ℕ) (v : Visit) → slice_get vs i ≡ Some v → is_some v.closed ≡ true
    → (k : ℕ) × (least_limit vs ≡ Some k)
least_some [] i v at shut = absurd (none-some v at)
least_some (w ∷ vs) zero v at shut =
    first w.closed (least_limit vs) (ap (λ (x : Visit). is_some x.closed) (same_Some w v at) ∙ shut)
  where
    first : (a b : Option ℕ) → is_some a ≡ true → (k : ℕ) × (lesser a b ≡ Some k)
    first None b s = absurd (true≢false (sym s))
    first (Some x) None s = (x, refl)
    first (Some x) (Some y) s = (min x y, refl)
least_some (w ∷ vs) (suc i) v at shut =
    let r = least_some vs i v at shut in more w.closed (least_limit vs) r.0 r.1
  where
    more : (a b : Option ℕ) (y : ℕ) → b ≡ Some y → (k : ℕ) × (lesser a b ≡ Some k)
    more None b y e = (y, e)
    more (Some x) b y e = (min x y, ap (lesser (Some x)) e)

pub least_from : (vs : List Visit) (k : ℕ) → least_limit vs ≡ Some k
    → (i : ℕ) × (v : Visit) × (slice_get vs i ≡ Some v) × (v.closed ≡ Some k)
least_from [] k e = absurd (none-some k e)
least_from (w ∷ vs) k e = ⊎_elim
    (λ (here : w.closed ≡ Some k). (0, w, refl, here))
    (λ (there : least_limit vs ≡ Some k). let r = least_from vs k there in (suc r.0, r.1, r.2, r.3))
    (either w.closed (least_limit vs) k e)
  where
    either : (a b : Option ℕ) (k : ℕ) → lesser a b ≡ Some k → (a ≡ Some k) ⊎ (b ≡ Some k)
    either None b k e = inr e
    either (Some x) None k e = inl e
    either (Some x) (Some y) k e = ⊎_elim
        (λ (low : x ≤ y). inl (ap Some (least_left x y low) ∙ e))
        (λ (high : y ≤ x). inr (ap Some (least_right x y high) ∙ e))
        (either_way x y)
      where
        least_left : (x y : ℕ) → x ≤ y → x ≡ min x y
        least_left x y low = omega arith

        least_right : (x y : ℕ) → y ≤ x → y ≡ min x y
        least_right x y low = omega arith

        either_way : (x y : ℕ) → (x ≤ y) ⊎ (y ≤ x)
        either_way x y = grind arith

-- each queue is at some place of a round, whoever begins it
pub round_covers : (i m j : ℕ) → j < m → (x : ℕ) × (x < m) × ((i + x) % m ≡ j)
round_covers i m j low =
    let near = mod-lt i (let a : 0 < m = omega arith in a) in
    let parts = mod-add-div' i m in
    ⊎_elim
    (λ (before : i % m ≤ j).
    let same : i + (j - i % m) ≡ i / m * m + j = omega (arith, parts) in
    (j - i % m, omega arith, ap (λ k. k % m) same ∙ mod-mul-add (i / m) m j low))
    (λ (behind : j < i % m).
    let same : i + (m + j - i % m) ≡ (i / m + 1) * m + j = next i m j near parts behind in
    (m + j - i % m, omega arith, ap (λ k. k % m) same ∙ mod-mul-add (i / m + 1) m j low))
    (either_way (i % m) j)
  where
    either_way : (x y : ℕ) → (x ≤ y) ⊎ (y < x)
    either_way x y = grind arith

    next : (i m j : ℕ) → i % m < m → i % m + i / m * m ≡ i → j < i % m → i + (m + j - i % m) ≡ (i / m + 1) * m + j
    next i m j near parts behind =
        let more : (i / m + 1) * m ≡ i / m * m + m = omega arith in
        omega arith
