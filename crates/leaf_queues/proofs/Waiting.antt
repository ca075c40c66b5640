-- What a put and a pop make of the line is what they make of the ascending list.
use Rattle.std.proofs.Common.{◌≡◌, ℕ, zero, suc, ◌+◌, ◌-◌, ◌<◌, ◌≤◌, true, false, cond, Option, None, Some, List, [], ◌∷◌, ◌++◌, nat_lt, nat_le, length, take, drop, get_or, length-append, Vec, refl, sym, ap, ◌∙◌, subst, arith}
use Rattle.std.proofs.lemmas.Bool.Decides.{nat_tests}
use Rattle.std.proofs.lemmas.List.{append-nil, drop_all, drop_at, drop_more, nil_from_length, get_or-drop, take_at, take_more, take_rest, with_items_is, length-drop, length-take-le}
use Rattle.std.proofs.lemmas.List.Elements.{All-tail}
use Rattle.std.proofs.lemmas.List.Sorted.{length_permutation}
use Rattle.std.specs.List.Sorted.{IsPermutation}
use Rattle.std.specs.Vec.{with_items}
use borrow.Rule.Slice.PartMut.{put_mid, mid_of}
use Rattle.series_core.specs.EntryOrder.{NotAfter}
use Rattle.series_core.specs.declared.queue_words.Entry.{Entry}
use Rattle.series_core.specs.declared.queue_words.PutReply.{PutReply}
use Rattle.series_core.specs.declared.queue_words.PutReply.TheVariants.{Placed, Filled}
use Rattle.series_core.specs.declared.queue_words.PopReply.{PopReply}
use Rattle.series_core.specs.declared.queue_words.PopReply.TheVariants.{Leaf, Closed}
use Rattle.leaf_queues.specs.PlainQueue.{PlainQueue, place, placed_in, put, pop, pop_open, shut_with, taken_from}
use Rattle.leaf_queues.specs.Lines.{IsRun, IsLeast, ascending, waits_within}
use Rattle.leaf_queues.proofs.Ascending.{ascending_permutation, ascending_least}
use Rattle.leaf_queues.proofs.Lines.{run_least}

-- an option that is no value is none
pub none_left : (o : Option ℕ) → ((v : ℕ) → o ≡ Some v → ⊥) → o ≡ None
none_left None h = refl
none_left (Some v) h = absurd (h v refl)

-- the test of a run's first entry is that of the least waiting one
pub first_within : (n : ℕ) (x : Entry) (xs : List Entry) (v : ℕ) → IsRun n xs → 0 < n
    → 0 < length xs → x ≡ get_or xs 0 x → nat_le x.bound v ≡ waits_within v (ascending xs)
first_within n x xs v run some more first =
    let rest : List Entry = drop 1 xs in
    let split : xs ≡ x ∷ rest
    = drop_more xs 0 x more ∙ ap (λ y. y ∷ rest) (sym first) in
    let least : IsLeast x (x ∷ rest) = subst (IsLeast x) split (run_least n xs x run some first) in
    sym (ap (waits_within v) (ap ascending split
    ∙ ascending_least x rest (All-tail (NotAfter x) x rest least)))

-- where a run has none, there are no entries
pub none_without_run : (n m : ℕ) → (0 < n → 0 < m) → m ≡ 0 → n ≡ 0
none_without_run zero m h none = refl
none_without_run (suc n) m h none = absurd (omega (arith, h (omega arith)))

-- of no entries none is within a limit
pub none_within : (xs : List Entry) (v : ℕ) → length xs ≡ 0 → waits_within v (ascending xs) ≡ false
none_within xs v none = ap (λ l. waits_within v (ascending l)) (nil_from_length xs none)

-- a bound that is at most a limit tests so, and one above it does not
pub at_most : (a v : ℕ) → a ≤ v → nat_le a v ≡ true
at_most a v l = grind (arith, nat_tests)

pub not_at_most : (a v : ℕ) → v < a → nat_le a v ≡ false
not_at_most a v l = grind (arith, nat_tests)

-- a number below another tests so
lt_true : (a b : ℕ) → a < b → nat_lt a b ≡ true
lt_true a b l = grind (arith, nat_tests)

-- a number that is not above another tests so
not_above : (a v : ℕ) → nat_le a v ≡ true → nat_lt v a ≡ false
not_above a v h = grind (arith, nat_tests)

-- and so does one that is
above : (a v : ℕ) → nat_le a v ≡ false → nat_lt v a ≡ true
above a v h = grind (arith, nat_tests)

-- a pop of a queue whose first entry is not within the limit shuts it
shuts : (v : ℕ) (q : PlainQueue) (es : List Entry) → waits_within v es ≡ false
    → pop_open v q None es ≡ (shut_with v q, Closed v)
shuts v q [] h = refl
shuts v q (e ∷ es) h =
    ap (λ b. cond b (shut_with v q, Closed v) (taken_from e es q, Leaf e)) (above e.bound v h)

-- a queue that keeps these entries, of which the first `next` were taken
abbrev pub queue_of : List Entry → ℕ → ℕ → Option ℕ → PlainQueue
queue_of entries next capacity kept = record {
  waiting = ascending (drop next entries);
  taken = take next entries;
  placed = length entries;
  capacity = capacity;
  kept = kept;
}

-- what stands behind the taken ones may be written anew
module _ (entries ys : List Entry) (next : ℕ) (inside : next ≤ length entries) where
  -- the entries, with these behind the taken ones
  abbrev pub written : List Entry
  written = take next entries ++ ys

  -- that is what a write to the slice behind the taken ones makes
  pub is_written : put_mid next (length entries - next) entries ys ≡ written
  is_written =
      ap (λ l. take next entries ++ (ys ++ l))
      (ap (drop (length entries - next)) refl
      ∙ drop_all (length entries - next) (drop next entries) (omega (arith, length-drop next entries)))
      ∙ ap (λ l. take next entries ++ l) (append-nil ys)

  -- behind the taken ones stands what was written
  pub written_behind : drop next written ≡ ys
  written_behind = drop_at (take next entries) ys next (length-take-le next entries inside)

  -- its first is the one behind the taken ones
  pub written_first : (x : Entry) → get_or written next x ≡ get_or ys 0 x
  written_first x =
      let at : next + 0 ≡ next = omega arith in
      sym (ap (λ l. get_or l 0 x) (sym written_behind) ∙ (get_or-drop next written 0 x
      ∙ ap (λ k. get_or written k x) at))

  -- how many there are
  pub written_count : length written ≡ next + length ys
  written_count = omega (arith, length-append (take next entries) ys, length-take-le next entries inside)

  -- the taken ones are those of before
  pub written_before : take next written ≡ take next entries
  written_before = take_at (take next entries) ys next (length-take-le next entries inside)

-- what a vector holds once the slice behind the taken ones was written
module _ {Z : Type 0} (v : Vec Entry Z) (now ys : List Entry) (next : ℕ) (same : now ≡ v.items)
    (inside : next ≤ length v.items) where
  -- the write as a vector takes it
  abbrev put_back : List Entry
  put_back = put_mid next (length now - next) now ys

  -- it moves the entries behind the taken ones
  pub moves : IsPermutation (mid_of next (length now - next) now) ys → IsPermutation (drop next v.items) ys
  moves p = subst (λ (l : List Entry). IsPermutation (drop next l) ys) same
      (subst (λ (l : List Entry). IsPermutation l ys) (take_rest now next) p)

  -- and the vector holds them behind those
  pub stored : IsPermutation (drop next v.items) ys
      → (with_items v put_back).items ≡ written v.items ys next inside
  stored p =
      let is : put_back ≡ written v.items ys next inside
      = ap (λ (l : List Entry). put_mid next (length l - next) l ys) same
      ∙ is_written v.items ys next inside in
      let count : length (written v.items ys next inside) ≡ length v.items
      = omega (
        arith,
        length-append (take next v.items) ys,
        length-take-le next v.items inside,
        length-drop next v.items,
        length_permutation (drop next v.items) ys p,
      ) in
      with_items_is v put_back (omega (arith, ap length is, count, v.ok.0)) ∙ is

  -- all of it at once: what was moved, what the vector holds, and how many those are
  pub record PutBack : Type 0 where
    pub moved : IsPermutation (drop next v.items) ys
    pub held : (with_items v put_back).items ≡ written v.items ys next inside
    pub count : length (written v.items ys next inside) ≡ next + length ys

  pub back : IsPermutation (mid_of next (length now - next) now) ys → PutBack
  back p = record { moved = moves p; held = stored (moves p); count = written_count v.items ys next inside }

module _ (entries : List Entry) (next capacity : ℕ) (kept : Option ℕ) (unshut : kept ≡ None)
    (inside : next ≤ length entries) where
  -- the queue
  abbrev now : PlainQueue
  now = queue_of entries next capacity kept

  -- it is not shut
  is_open : now ≡ queue_of entries next capacity None
  is_open = λ i. queue_of entries next capacity (unshut i)

  -- a put with room places the entry
  pub put_placed : (e : Entry) (ys : List Entry) → length entries < capacity
      → IsPermutation (e ∷ drop next entries) ys
      → put e now ≡ (queue_of (written entries ys next inside) next capacity kept, Placed)
  put_placed e ys room p =
      let q : PlainQueue = queue_of entries next capacity None in
      let ws : List Entry = written entries ys next inside in
      let placed_there : PlainQueue × PutReply = (placed_in e q, Placed) in
      let waits : ascending (drop next ws) ≡ place e (ascending (drop next entries))
      = ap ascending (written_behind entries ys next inside)
      ∙ ascending_permutation (e ∷ drop next entries) ys p in
      let count : length ws ≡ length entries + 1
      = omega (
        arith,
        length-append (take next entries) ys,
        length-take-le next entries inside,
        length-drop next entries,
        length_permutation (e ∷ drop next entries) ys p,
      ) in
      ap (put e) is_open
      ∙ (ap (λ b. cond b placed_there (q, Filled capacity)) (lt_true (length entries) capacity room)
      ∙ (λ i. (
        record {
          waiting = sym waits i;
          taken = sym (written_before entries ys next inside) i;
          placed = sym count i;
          capacity = capacity;
          kept = sym unshut i;
        },
        Placed,
      )))

  -- the same entries wait in another order
  module _ (ys : List Entry) (p : IsPermutation (drop next entries) ys) where
    -- the entries in that order
    abbrev pub moved : List Entry
    moved = written entries ys next inside

    -- it is the same plain queue
    pub same_queue : queue_of moved next capacity kept ≡ now
    same_queue =
        let waits : ascending (drop next moved) ≡ ascending (drop next entries)
        = ap ascending (written_behind entries ys next inside)
        ∙ ascending_permutation (drop next entries) ys p in
        let count : length moved ≡ length entries
        = omega (
          arith,
          length-append (take next entries) ys,
          length-take-le next entries inside,
          length-drop next entries,
          length_permutation (drop next entries) ys p,
        ) in λ i. record {
          waiting = waits i;
          taken = written_before entries ys next inside i;
          placed = count i;
          capacity = capacity;
          kept = kept;
        }

  -- a pop of an entry within the limit takes it
  pub pop_leaf : (v : ℕ) (x : Entry) → next < length entries → x ≡ get_or entries next x
      → IsLeast x (drop next entries) → nat_le x.bound v ≡ true
      → pop v now ≡ (queue_of entries (next + 1) capacity kept, Leaf x)
  pop_leaf v x more here least near =
      let q : PlainQueue = queue_of entries next capacity None in
      let rest : List Entry = drop (next + 1) entries in
      let split : drop next entries ≡ x ∷ rest
      = drop_more entries next x more ∙ ap (λ y. y ∷ rest) (sym here) in
      let first : ascending (drop next entries) ≡ x ∷ ascending rest
      = ap ascending split ∙ ascending_least x rest
      (All-tail (NotAfter x) x rest (subst (IsLeast x) split least)) in
      let took : take (next + 1) entries ≡ take next entries ++ x ∷ []
      = take_more entries next x more ∙ ap (λ y. take next entries ++ y ∷ []) (sym here) in
      let taken_there : PlainQueue × PopReply = (taken_from x (ascending rest) q, Leaf x) in
      ap (pop v) is_open
      ∙ (ap (pop_open v q None) first
      ∙ (ap (λ b. cond b (shut_with v q, Closed v) taken_there) (not_above x.bound v near)
      ∙ (λ i. (
        record {
          waiting = ascending rest;
          taken = sym took i;
          placed = length entries;
          capacity = capacity;
          kept = sym unshut i;
        },
        Leaf x,
      ))))

  -- a pop with no entry within the limit shuts the queue
  pub pop_shuts : (v : ℕ) → waits_within v (ascending (drop next entries)) ≡ false
      → pop v now ≡ (shut_with v now, Closed v)
  pop_shuts v beyond = ap (pop v) is_open
      ∙ shuts v (queue_of entries next capacity None) (ascending (drop next entries)) beyond
