-- A bucket in front that is sorted is a run, and so is a run that takes in an entry behind it.
use Rattle.std.proofs.Common.{◌≡◌, ◌≢◌, ◌⊎◌, ℕ, zero, suc, ◌+◌, ◌-◌, ◌/◌, ◌^◌, ◌<◌, ◌≤◌, List, ◌++◌, length, take, drop, get_or, is_lt, nat_cmp, true, false, IsPermutation, sym, ap, ◌∙◌, subst, arith, ⊎_elim, All, length-append}
use Rattle.std.specs.Ordering.{ordering_then}
use Rattle.std.specs.List.{SwappedAt}
use Rattle.std.proofs.Math.Numerals.{add-one}
use Rattle.std.proofs.lemmas.Bool.Decides.{nat_tests}
use Rattle.std.proofs.lemmas.List.{get_or-take, get_or-drop, get_or_append_left, get_or-append_right, get_or_default, length-take-le, length-drop, take-append-drop}
use Rattle.std.proofs.lemmas.List.Elements.{All-get_or, All-from_get_or}
use Rattle.std.proofs.lemmas.List.Sorted.{All-permutation, length_permutation, IsPermutation-append_left}
use Rattle.std.proofs.lemmas.Nat.{le-div, pow_pos}
use Rattle.std.proofs.Math.Nat.{div-mul-le_self}
use mathlib.Core.Logic.{dite}
use native.Mathlib.Decide.{ℕ_discrete}
use Rattle.series_core.specs.EntryOrder.{NotAfter, entry_before}
use Rattle.series_core.specs.declared.queue_words.Entry.{Entry}
use Rattle.series_core.proofs.EntryOrder.{before_itself, before_one_way, before_along}
use Rattle.leaf_queues.specs.declared.line.Buckets.{Buckets}
use Rattle.leaf_queues.specs.Lines.{bucket_of, IsDealt, IsCut, IsRun, IsLeast}

-- the entry at one place does not come after the one at another
abbrev pub InOrder : List Entry → ℕ → ℕ → Type 0
InOrder xs i j = (d : Entry) → NotAfter (get_or xs i d) (get_or xs j d)

-- the order at two places goes along with equal entries
in_order_at : (xs ys : List Entry) (i j k l : ℕ)
    → ((d : Entry) → get_or ys i d ≡ get_or xs k d) → ((d : Entry) → get_or ys j d ≡ get_or xs l d)
    → InOrder xs k l → InOrder ys i j
in_order_at xs ys i j k l e f h d =
    subst (λ (x : Entry × Entry). NotAfter x.0 x.1) (λ n. (sym (e d) n, sym (f d) n)) (h d)

-- and along a third
in_order_along : (xs : List Entry) (i j k : ℕ) → InOrder xs i j → InOrder xs j k → InOrder xs i k
in_order_along xs i j k h l d =
    before_along (get_or xs i d) (get_or xs j d) (get_or xs k d) (h d) (l d)

-- a lesser bound comes first
lesser_bound : (d e : Entry) → d.bound < e.bound → NotAfter d e
lesser_bound d e l = grind (arith, nat_tests)

-- what a sort leaves at two places next to one another
not_after_next : (a b l m : ℕ) → is_lt (ordering_then (nat_cmp b a) (nat_cmp m l)) ≡ false
    → NotAfter (record { bound = a; leaf = l }) (record { bound = b; leaf = m })
not_after_next a b l m not_less = grind (arith, nat_tests)

-- of two places in a list, the second is that of the first or comes later
less_or_same : (i j : ℕ) → i ≤ j → (i < j) ⊎ (i ≡ j)
less_or_same i j most = grind arith

-- what a sort of entries ensures
abbrev pub Sorts : List Entry → Type 0
Sorts es = (k : ℕ) (d : Entry) → 0 ≤ k → k + 1 < length es
    → is_lt (ordering_then (nat_cmp (get_or es (k + 1) d).bound (get_or es k d).bound)
    (nat_cmp (get_or es (k + 1) d).leaf (get_or es k d).leaf)) ≡ false

-- each sorted entry comes after none of the later ones
sorted_along : (es : List Entry) → Sorts es → (j i : ℕ) → i ≤ j → j < length es → InOrder es i j
sorted_along es h zero i l inside d =
    let same : i ≡ 0 = omega arith in
    subst (λ (n : ℕ). NotAfter (get_or es n d) (get_or es 0 d)) (sym same) (before_itself (get_or es 0 d))
sorted_along es h (suc j) i l inside d = ⊎_elim
    (λ (less : i < suc j).
    before_along (get_or es i d) (get_or es j d) (get_or es (suc j) d)
    (sorted_along es h j i (omega arith) (omega arith) d)
    (subst (λ (n : ℕ). NotAfter (get_or es j d) (get_or es n d)) (add-one j)
    (not_after_next (get_or es j d).bound (get_or es (j + 1) d).bound (get_or es j d).leaf
    (get_or es (j + 1) d).leaf (h j d (omega arith) (omega arith)))))
    (λ (same : i ≡ suc j). subst (λ (n : ℕ). NotAfter (get_or es n d) (get_or es (suc j) d)) (sym same)
    (before_itself (get_or es (suc j) d)))
    (less_or_same i (suc j) l)

module _ (n : ℕ) (xs front : List Entry) (inside : n ≤ length xs)
    (moved : IsPermutation (take n xs) front) where
  -- the list with the front moved
  abbrev fronted : List Entry
  fronted = front ++ drop n xs

  -- the front has its length still
  long : length front ≡ n
  long = length_permutation (take n xs) front moved ∙ length-take-le n xs inside

  -- and so has the whole
  whole : length fronted ≡ length xs
  whole = omega (arith, length-append front (drop n xs), length-drop n xs, long)

  -- the whole has the entries of before
  pub front_moves : IsPermutation xs fronted
  front_moves = subst (λ (l : List Entry). IsPermutation l fronted) (take-append-drop n xs)
      (IsPermutation-append_left (drop n xs) (take n xs) front moved)

  -- behind the front all stands where it stood
  kept_behind : (j : ℕ) (d : Entry) → n ≤ j → get_or fronted j d ≡ get_or xs j d
  kept_behind j d behind =
      let there : n + (j - n) ≡ j = omega arith in
      get_or-append_right front (drop n xs) n j d long behind
      ∙ (get_or-drop n xs (j - n) d ∙ ap (λ (k : ℕ). get_or xs k d) there)

  -- none of the entries in front comes after one behind
  front_before : IsCut n xs → IsCut n fronted
  front_before cut i j d i_in j_in inside' =
      let y = get_or xs j d in
      let j_old : j < length xs = omega (arith, whole) in
      let old : All (λ (e : Entry). NotAfter e y) (take n xs)
      = All-from_get_or (λ (e : Entry). NotAfter e y) (take n xs) d
      (λ k k_in. let k_low : k < n = omega (arith, length-take-le n xs inside) in
      subst (λ (e : Entry). NotAfter e y) (sym (get_or-take n xs k d k_low))
      (cut k j d k_low j_in j_old)) in
      let new : NotAfter (get_or front i d) y
      = All-get_or (λ (e : Entry). NotAfter e y) front i d (omega (arith, long))
      (All-permutation (λ (e : Entry). NotAfter e y) (take n xs) front moved old) in
      subst (λ (x : Entry × Entry). NotAfter x.0 x.1)
      (λ m. (
        sym (get_or_append_left front (drop n xs) d i (omega (arith, long))) m,
        sym (kept_behind j d j_in) m,
      )) new

  -- a front that is cut and sorted is a run
  pub sorted_front : Sorts front → IsCut n xs → IsRun n fronted
  sorted_front sorts cut i j d i_in later inside' = ⊎_elim
      (λ (near : j < n).
      let left : (k : ℕ) → k < n → get_or fronted k d ≡ get_or front k d
      = λ k l. get_or_append_left front (drop n xs) d k (omega (arith, long)) in
      subst (λ (x : Entry × Entry). NotAfter x.0 x.1)
      (λ m. (sym (left i i_in) m, sym (left j near) m))
      (sorted_along front sorts j i later (omega (arith, long)) d))
      (λ (far : n ≤ j). front_before cut i j d i_in far inside')
      (near_or_far j n)
    where
      near_or_far : (j n : ℕ) → (j < n) ⊎ (n ≤ j)
      near_or_far j n = grind arith

-- a bound in an earlier bucket is less
earlier_bucket : (b : Buckets) (x y : ℕ) → bucket_of b x < bucket_of b y → x < y
earlier_bucket b x y less = ⊎_elim
    (λ (l : x < y). l)
    (λ (m : y ≤ x).
    let falls : (y - b.least) / 2 ^ b.shift ≤ (x - b.least) / 2 ^ b.shift
    = le-div ((y - b.least) / 2 ^ b.shift) (x - b.least) (2 ^ b.shift) some
    (omega (arith, div-mul-le_self (y - b.least) (2 ^ b.shift))) in absurd (omega arith))
    (either x y)
  where
    either : (x y : ℕ) → (x < y) ⊎ (y ≤ x)
    either x y = grind arith

    some : 0 < 2 ^ b.shift
    some = pow_pos b.shift

-- where the bucket changes, dealt entries are cut
pub cut_at_bucket : (b : Buckets) (n k : ℕ) (xs : List Entry) (x : Entry) → IsDealt b 0 xs
    → ((i : ℕ) (d : Entry) → i < n → bucket_of b (get_or xs i d).bound ≡ k)
    → n < length xs → bucket_of b (get_or xs n x).bound ≢ k → IsCut n xs
cut_at_bucket b n k xs x dealt same inside other i j d i_in j_in j_inside =
    let mine = same i d i_in in
    let up = dealt.rises i n d (omega arith) (omega arith) inside in
    let on = dealt.rises n j d (omega arith) j_in j_inside in
    let apart : bucket_of b (get_or xs n d).bound ≢ k
    = λ e. other (ap (λ (e : Entry). bucket_of b e.bound) (get_or_default xs n x d inside) ∙ e) in
    let less : bucket_of b (get_or xs i d).bound < bucket_of b (get_or xs j d).bound
    = grind (arith, mine, up, on, apart) in
    lesser_bound (get_or xs i d) (get_or xs j d)
    (earlier_bucket b (get_or xs i d).bound (get_or xs j d).bound less)

-- what a comparison of the entries at two places says
pub compared : (xs : List Entry) (i j : ℕ) (x y : Entry) → i < length xs → j < length xs
    → NotAfter (get_or xs i x) (get_or xs j y) → InOrder xs i j
compared xs i j x y i_in j_in h d =
    subst (λ (z : Entry × Entry). NotAfter z.0 z.1)
    (λ m. (get_or_default xs i x d i_in m, get_or_default xs j y d j_in m)) h

-- and where it says that the first comes before the second
pub compared_before : (xs : List Entry) (i j : ℕ) (x y : Entry) → i < length xs → j < length xs
    → entry_before (get_or xs i x) (get_or xs j y) ≡ true → InOrder xs i j
compared_before xs i j x y i_in j_in h =
    compared xs i j x y i_in j_in (before_one_way (get_or xs i x) (get_or xs j y) h)

-- entries that are dealt from the first on are dealt from any place on
pub dealt_behind : (b : Buckets) (n : ℕ) (xs ys : List Entry) → IsDealt b 0 xs
    → length ys ≡ length xs → drop n ys ≡ drop n xs → IsDealt b n ys
dealt_behind b n xs ys dealt long same = record {
  shift = dealt.shift;
  rises = λ i j d i_in later inside.
      let at : (k : ℕ) → n ≤ k → get_or ys k d ≡ get_or xs k d
      = λ k l. let there : n + (k - n) ≡ k = omega arith in
      ap (λ (m : ℕ). get_or ys m d) (sym there) ∙ (sym (get_or-drop n ys (k - n) d)
      ∙ (ap (λ (es : List Entry). get_or es (k - n) d) same ∙ (get_or-drop n xs (k - n) d
      ∙ ap (λ (m : ℕ). get_or xs m d) there))) in
      subst (λ (x : Entry × Entry). bucket_of b x.0.bound ≤ bucket_of b x.1.bound)
      (λ m. (sym (at i i_in) m, sym (at j (omega arith)) m))
      (dealt.rises i j d (omega arith) later (omega arith));
}

module _ (n : ℕ) (xs : List Entry) (inside : n < length xs)
    (run : IsRun n (take (length xs - 1) xs)) where
  -- the run of all but the last, in the whole list
  old_run : (i j : ℕ) → i < n → i ≤ j → j < length xs - 1 → InOrder xs i j
  old_run i j i_in later j_in d =
      let at : (k : ℕ) → k < length xs - 1 → get_or (take (length xs - 1) xs) k d ≡ get_or xs k d
      = λ k l. get_or-take (length xs - 1) xs k d l in
      subst (λ (x : Entry × Entry). NotAfter x.0 x.1)
      (λ m. (at i (omega arith) m, at j j_in m))
      (run i j d i_in later (omega (arith, length-take-le (length xs - 1) xs (omega arith))))

  -- a last entry that does not come before the last of the run stays behind it
  pub stays_behind : (n ≡ 0) ⊎ InOrder xs (n - 1) (length xs - 1) → IsRun n xs
  stays_behind late i j d i_in later j_in = ⊎_elim
      (λ (before : j < length xs - 1). old_run i j i_in later before d)
      (λ (last : length xs - 1 ≤ j). ⊎_elim
      (λ (none : n ≡ 0). absurd (omega arith))
      (λ (behind : InOrder xs (n - 1) (length xs - 1)).
      let same : length xs - 1 ≡ j = omega arith in
      subst (λ (m : ℕ). NotAfter (get_or xs i d) (get_or xs m d)) same
      (in_order_along xs i (n - 1) (length xs - 1)
      (old_run i (n - 1) i_in (omega arith) (omega arith)) behind d))
      late)
      (either j (length xs - 1))
    where
      either : (x y : ℕ) → (x < y) ⊎ (y ≤ x)
      either x y = grind arith

  -- a last entry that comes before the last of the run changes places with the first behind the run
  pub joins : (ys : List Entry) → 0 < n → InOrder xs (length xs - 1) (n - 1)
      → length ys ≡ length xs → SwappedAt xs ys n (length xs - 1) → IsCut (n + 1) ys
  joins ys some early long swapped i j d i_in j_in inside' =
      let last : ℕ = length xs - 1 in
      let behind : (k : ℕ) → n ≤ k → k < last → InOrder xs last k
      = λ k k_in k_low. in_order_along xs last (n - 1) k early
      (old_run (n - 1) k (omega arith) (omega arith) k_low) in
      let from : (m k : ℕ) → ((e : Entry) → get_or ys j e ≡ get_or xs k e) → n ≤ k → k < last
      → InOrder ys i j
      = λ m k at k_in k_low. dite (ℕ_discrete i n)
      (λ (new : i ≡ n). in_order_at xs ys i j last k
      (λ e. ap (λ (z : ℕ). get_or ys z e) new ∙ swapped.0 e) at (behind k k_in k_low))
      (λ (old : i ≢ n). in_order_at xs ys i j i k
      (λ e. swapped.2 i e old (λ (z : i ≡ last). omega arith)) at
      (old_run i k (omega arith) (omega arith) k_low)) in
      dite (ℕ_discrete j last)
      (λ (moved : j ≡ last). from j n
      (λ e. ap (λ (z : ℕ). get_or ys z e) moved ∙ swapped.1 e) (omega arith) (omega arith) d)
      (λ (stayed : j ≢ last). from j j
      (λ e. swapped.2 j e (λ (z : j ≡ n). omega arith) stayed) (omega arith) (omega arith) d)

-- the first of a run is least in the whole
pub run_least : (n : ℕ) (xs : List Entry) (x : Entry) → IsRun n xs → 0 < n → x ≡ get_or xs 0 x
    → IsLeast x xs
run_least n xs x run some first = λ k d inside.
    subst (λ (e : Entry). NotAfter e (get_or xs k d)) (get_or_default xs 0 d x (omega arith) ∙ sym first)
    (run 0 k d some (omega arith) inside)
