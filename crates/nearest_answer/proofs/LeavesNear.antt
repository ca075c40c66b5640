-- Leaves that were looked at, as entries: the next is added where it is near (`next_near`) and is not where it is far (`next_far`),
-- leaves in a row that are far are not (`far_up_to`), and entries may be put into another order (`in_order`).
use Rattle.std.proofs.Common.{◌≡◌, ℕ, ◌+◌, ◌<◌, ◌≤◌, List, [], ◌∷◌, ◌++◌, Bool, cond, length, take, drop, get_or, sum_by, refl, sym, ap, subst, ◌∙◌, ⊎_elim, ◌⊎◌, inl, inr, append-nil, arith}
use Rattle.std.specs.Prelude.{min, nat_le}
use Rattle.std.specs.List.{All}
use Rattle.std.specs.List.Sorted.{IsPermutation}
use Rattle.std.proofs.lemmas.Bool.{cases_lt, le-leb, lt-leb}
use Rattle.std.proofs.lemmas.List.{map-append, take-append-drop, take_more}
use Rattle.std.proofs.lemmas.List.Elements.{All-append, All-cons, All-head, All-nil, All-tail, filter-append}
use Rattle.std.proofs.lemmas.List.Sums.{sum_by-cons}
use Rattle.std.proofs.lemmas.List.Sorted.{All-permutation, IsPermutation-map, sum_by-IsPermutation}
use Rattle.list_totals.specs.Totals.{once_below, one_if_same, times}
use Rattle.list_totals.proofs.Totals.{once_below_low, once_below_more, once_below_most, once_below_yes, times_append, times_push}
use Rattle.series_core.specs.declared.queue_words.Entry.{Entry}
use Rattle.search_machine.specs.Ground.{Ground}
use Rattle.search_machine.proofs.Counts.{counts_or_not, equal_counts, times_cons}
use Rattle.search_task.specs.LeafBounds.{IsBelowLeaf}
use Rattle.nearest_answer.specs.NearLeaves.{AreNear, AreNearBelow, IsFar, IsLeafEntry, leaves_in, within_bound}

-- the leaves of entries and of one more
pub leaves_more : (es : List Entry) (e : Entry) → leaves_in (es ++ e ∷ []) ≡ leaves_in es ++ e.leaf ∷ []
leaves_more es e = map-append (λ (d : Entry). d.leaf) es (e ∷ [])

-- the leaves of the entries so far and of the next
pub leaves_next : (es : List Entry) (i : ℕ) (d : Entry) → i < length es
    → leaves_in (take (i + 1) es) ≡ leaves_in (take i es) ++ (get_or es i d).leaf ∷ []
leaves_next es i d inside = ap leaves_in (take_more es i d inside) ∙ leaves_more (take i es) (get_or es i d)

-- the leaf of the next entry stands once more in all entries than in those so far
pub leaf_once_more : (es : List Entry) (i : ℕ) (d : Entry) → i < length es
    → times (get_or es i d).leaf (leaves_in (take i es)) + 1 ≤ times (get_or es i d).leaf (leaves_in es)
leaf_once_more es i d inside =
    let l = (get_or es i d).leaf in
    let parts : times l (leaves_in (take (i + 1) es)) + times l (leaves_in (drop (i + 1) es)) ≡ times l (leaves_in es)
    = sym (times_append l (leaves_in (take (i + 1) es)) (leaves_in (drop (i + 1) es)))
    ∙ ap (times l) (sym (map-append (λ (e : Entry). e.leaf) (take (i + 1) es) (drop (i + 1) es)))
    ∙ ap (λ (ds : List Entry). times l (leaves_in ds)) (take-append-drop (i + 1) es) in
    let more : times l (leaves_in (take (i + 1) es)) ≡ times l (leaves_in (take i es)) + one_if_same l l
    = ap (times l) (leaves_next es i d inside) ∙ times_push l (leaves_in (take i es)) l in
    let one = equal_counts l l refl in
    omega arith

-- numbers stand as often in another order
pub same_times : (ms ns : List ℕ) → IsPermutation ms ns → (l : ℕ) → times l ns ≡ times l ms
same_times ms ns moved l =
    sym (total_is ns) ∙ sum_by-IsPermutation (one_if_same l) ms ns moved ∙ total_is ms
  where
    total_is : (ls : List ℕ) → sum_by (one_if_same l) ls ≡ times l ls
    total_is [] = refl
    total_is (m ∷ ms) = sum_by-cons (one_if_same l) m ms ∙ ap (λ n. one_if_same l m + n) (total_is ms)

-- and so do leaves in entries in another order
pub same_count : (es ds : List Entry) → IsPermutation es ds → (l : ℕ) → times l (leaves_in ds) ≡ times l (leaves_in es)
same_count es ds moved =
    same_times (leaves_in es) (leaves_in ds) (IsPermutation-map (λ (e : Entry). e.leaf) es ds moved)

-- the first entry is within the limit
first_within : (v : ℕ) (e : Entry) (es : List Entry) → e.bound ≤ v → within_bound v (e ∷ es) ≡ e ∷ within_bound v es
first_within v e es low =
    ap (λ (b : Bool). cond b (e ∷ within_bound v es) (within_bound v es)) (le-leb e.bound v low)

-- the first entry is not
first_beyond : (v : ℕ) (e : Entry) (es : List Entry) → v < e.bound → within_bound v (e ∷ es) ≡ within_bound v es
first_beyond v e es above =
    ap (λ (b : Bool). cond b (e ∷ within_bound v es) (within_bound v es)) (lt-leb e.bound v above)

-- of the entries so far and the next
within_more : (v : ℕ) (es : List Entry) (i : ℕ) (d : Entry) → i < length es
    → within_bound v (take (i + 1) es) ≡ within_bound v (take i es) ++ within_bound v (get_or es i d ∷ [])
within_more v es i d inside =
    ap (within_bound v) (take_more es i d inside)
    ∙ filter-append (λ (e : Entry). nat_le e.bound v) (take i es) (get_or es i d ∷ [])

-- one more entry is within the limit
pub one_within : (v : ℕ) (es : List Entry) (i : ℕ) (d : Entry) → i < length es → (get_or es i d).bound ≤ v
    → within_bound v (take (i + 1) es) ≡ within_bound v (take i es) ++ get_or es i d ∷ []
one_within v es i d inside low =
    within_more v es i d inside
    ∙ ap (λ (ds : List Entry). within_bound v (take i es) ++ ds) (first_within v (get_or es i d) [] low)

-- one more entry is not
pub none_within : (v : ℕ) (es : List Entry) (i : ℕ) (d : Entry) → i < length es → v < (get_or es i d).bound
    → within_bound v (take (i + 1) es) ≡ within_bound v (take i es)
none_within v es i d inside above =
    within_more v es i d inside
    ∙ ap (λ (ds : List Entry). within_bound v (take i es) ++ ds) (first_beyond v (get_or es i d) [] above)
    ∙ append-nil (within_bound v (take i es))

-- a leaf stands no more often in the entries within a limit than in all
pub within_times : (v l : ℕ) (es : List Entry) → times l (leaves_in (within_bound v es)) ≤ times l (leaves_in es)
within_times v l [] = omega arith
within_times v l (e ∷ es) = ⊎_elim
    (λ (above : v < e.bound).
    let same = ap (λ (ds : List Entry). times l (leaves_in ds)) (first_beyond v e es above) in
    let rest = within_times v l es in
    omega arith)
    (λ (low : e.bound ≤ v).
    let same = ap (λ (ds : List Entry). times l (leaves_in ds)) (first_within v e es low) in
    let rest = within_times v l es in
    omega arith)
    (cases_lt v e.bound)

-- what holds of all entries holds of those within a limit
pub within_all : (g : Ground) (v : ℕ) (es : List Entry) → All (IsLeafEntry g) es → All (IsLeafEntry g) (within_bound v es)
within_all g v [] all = All-nil (IsLeafEntry g)
within_all g v (e ∷ es) all =
    let rest = within_all g v es (All-tail (IsLeafEntry g) e es all) in
    ⊎_elim
    (λ (above : v < e.bound). subst (All (IsLeafEntry g)) (sym (first_beyond v e es above)) rest)
    (λ (low : e.bound ≤ v). subst (All (IsLeafEntry g)) (sym (first_within v e es low))
    (All-cons (IsLeafEntry g) e (within_bound v es) (All-head (IsLeafEntry g) e es all) rest))
    (cases_lt v e.bound)

module _ (g : Ground) (v : ℕ) where
  -- members of a leaf whose bound is above the limit are far
  beyond_far : (l bound : ℕ) → IsBelowLeaf g l bound → v < bound → (m : ℕ) → m ≡ l → IsFar g v m
  beyond_far l bound low above m e s member =
      let most = low s (subst (λ (n : ℕ). 0 < times s (g.members n)) e member) in omega arith

  -- a leaf of entries is one of those within the limit, or is far
  pub within_or_far : (l : ℕ) (es : List Entry) → All (IsLeafEntry g) es → 0 < times l (leaves_in es)
      → (0 < times l (leaves_in (within_bound v es))) ⊎ IsFar g v l
  within_or_far l [] all there = absurd (omega arith)
  within_or_far l (e ∷ es) all there = ⊎_elim
      (λ (above : v < e.bound). ⊎_elim
      (λ (h : l ≡ e.leaf). inr (beyond_far e.leaf e.bound (All-head (IsLeafEntry g) e es all).low above l h))
      (λ (t : 0 < times l (leaves_in es)).
      subst (λ (ds : List Entry). (0 < times l (leaves_in ds)) ⊎ IsFar g v l) (sym (first_beyond v e es above))
      (within_or_far l es (All-tail (IsLeafEntry g) e es all) t))
      (times_cons l e.leaf (leaves_in es) there))
      (λ (low : e.bound ≤ v).
      let same = ap (λ (ds : List Entry). times l (leaves_in ds)) (first_within v e es low) in ⊎_elim
      (λ (h : l ≡ e.leaf). inl (let one = equal_counts l e.leaf h in omega arith))
      (λ (t : 0 < times l (leaves_in es)). ⊎_elim
      (λ (k : 0 < times l (leaves_in (within_bound v es))). inl (omega arith))
      (λ (far : IsFar g v l). inr far)
      (within_or_far l es (All-tail (IsLeafEntry g) e es all) t))
      (times_cons l e.leaf (leaves_in es) there))
      (cases_lt v e.bound)

  -- no leaf was looked at yet
  pub none_looked : AreNearBelow g v 0 []
  none_looked = record {
    entries = All-nil (IsLeafEntry g);
    once = λ l. omega arith;
    whole = λ l some. absurd (let low = once_below_low l (min 0 g.leaves) some in omega arith);
  }

  -- the same leaves were looked at
  pub as_looked : (a b : ℕ → ℕ) (es : List Entry) → ((l : ℕ) → a l ≡ b l) → AreNear g v a es → AreNear g v b es
  as_looked a b es same are = record {
    entries = are.entries;
    once = λ l. let e = same l in let most = are.once l in omega arith;
    whole = λ l some. let e = same l in are.whole l (omega arith);
  }

  -- one more leaf is near
  pub one_near : (looked : ℕ → ℕ) (es : List Entry) (e : Entry) → IsLeafEntry g e → AreNear g v looked es
      → AreNear g v (λ l. looked l + one_if_same l e.leaf) (es ++ e ∷ [])
  one_near looked es e is are = record {
    entries = All-append (IsLeafEntry g) es (e ∷ []) are.entries
        (All-cons (IsLeafEntry g) e [] is (All-nil (IsLeafEntry g)));
    once = λ l. let most = are.once l in let more = push l in omega arith;
    whole = λ l some. ⊎_elim
        (λ (h : l ≡ e.leaf). inl (let more = push l in let one = itself l h in omega arith))
        (λ (h : 0 < looked l). ⊎_elim
        (λ (t : 0 < times l (leaves_in es)). inl (let more = push l in omega arith))
        (λ (far : IsFar g v l). inr far)
        (are.whole l h))
        (either l some);
  }
    where
      push : (l : ℕ) → times l (leaves_in (es ++ e ∷ [])) ≡ times l (leaves_in es) + one_if_same l e.leaf
      push l = ap (times l) (leaves_more es e) ∙ times_push l (leaves_in es) e.leaf

      itself : (l : ℕ) → l ≡ e.leaf → one_if_same l e.leaf ≡ 1
      itself l h = equal_counts l e.leaf h

      either : (l : ℕ) → 0 < looked l + one_if_same l e.leaf → (l ≡ e.leaf) ⊎ (0 < looked l)
      either l some = ⊎_elim
          (λ (c : (one_if_same l e.leaf ≡ 1) × (l ≡ e.leaf)). inl c.1)
          (λ (c : one_if_same l e.leaf ≡ 0). inr (omega arith))
          (counts_or_not l e.leaf)

  -- the leaves before number b were looked at where those before a were, and the others are far
  pub far_up_to : (a b : ℕ) (es : List Entry) → a ≤ b → ((l : ℕ) → a ≤ l → l < b → l < g.leaves → IsFar g v l)
      → AreNearBelow g v a es → AreNearBelow g v b es
  far_up_to a b es order far are = record {
    entries = are.entries;
    once = λ l.
        let most = are.once l in
        let more = below_more l (min a g.leaves) (min b g.leaves) (omega arith) in
        omega arith;
    whole = λ l some.
        let real = once_below_low l (min b g.leaves) some in
        ⊎_elim
        (λ (before : l < a). are.whole l (let one = once_below_yes l (min a g.leaves) (omega arith) in omega arith))
        (λ (behind : a ≤ l). inr (far l behind (omega arith) (omega arith)))
        (cases_lt l a);
  }
    where
      below_more : (l m n : ℕ) → m ≤ n → once_below l m ≤ once_below l n
      below_more l m n low = ⊎_elim
          (λ (some : 0 < once_below l m).
          let before = once_below_low l m some in
          let one = once_below_yes l n (omega arith) in
          let most = once_below_most l m in
          omega arith)
          (λ (none : once_below l m ≤ 0). omega arith)
          (cases_lt 0 (once_below l m))

  -- the next leaf is far
  pub next_far : (l bound : ℕ) (es : List Entry) → IsBelowLeaf g l bound → v < bound
      → AreNearBelow g v l es → AreNearBelow g v (l + 1) es
  next_far l bound es low above are =
      far_up_to l (l + 1) es (omega arith)
      (λ m from to real. beyond_far l bound low above m (omega arith)) are

  -- the next leaf is near
  pub next_near : (e : Entry) (es : List Entry) → IsLeafEntry g e → AreNearBelow g v e.leaf es
      → AreNearBelow g v (e.leaf + 1) (es ++ e ∷ [])
  next_near e es is are =
      as_looked (λ m. once_below m (min e.leaf g.leaves) + one_if_same m e.leaf)
      (λ m. once_below m (min (e.leaf + 1) g.leaves)) (es ++ e ∷ [])
      (λ m. let real = is.leaf in
      once_below_more m e.leaf (min e.leaf g.leaves) (omega arith)
      ∙ ap (once_below m) {x = e.leaf + 1} {y = min (e.leaf + 1) g.leaves} (omega arith))
      (one_near (λ m. once_below m (min e.leaf g.leaves)) es e is are)

  -- all leaves were looked at
  pub all_looked : (m : ℕ) (es : List Entry) → g.leaves ≤ m → AreNearBelow g v m es
      → AreNear g v (λ l. once_below l g.leaves) es
  all_looked m es whole are =
      as_looked (λ l. once_below l (min m g.leaves)) (λ l. once_below l g.leaves) es
      (λ l. ap (once_below l) {x = min m g.leaves} {y = g.leaves} (omega arith)) are

  -- entries in another order
  pub in_order : (looked : ℕ → ℕ) (es ds : List Entry) → IsPermutation es ds → AreNear g v looked es
      → AreNear g v looked ds
  in_order looked es ds moved are = record {
    entries = All-permutation (IsLeafEntry g) es ds moved are.entries;
    once = λ l. let most = are.once l in let e = same_count es ds moved l in omega arith;
    whole = λ l some. ⊎_elim
        (λ (h : 0 < times l (leaves_in es)). inl (let e = same_count es ds moved l in omega arith))
        (λ (far : IsFar g v l). inr far)
        (are.whole l some);
  }
