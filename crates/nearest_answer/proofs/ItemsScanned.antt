-- Items that are scanned one after another: their series are then scanned (`none_yet`, `item_scanned`, `row_scanned`, `all_items`).
use Rattle.std.proofs.Common.{◌≡◌, ℕ, ◌+◌, ◌-◌, ◌*◌, ◌≤◌, List, [], ◌∷◌, ◌++◌, min, ap, sym, subst, ◌∙◌, append-nil, append_assoc, arith}
use Rattle.std.specs.List.{flat_map, range_with_len}
use Rattle.std.proofs.lemmas.List.Concat.{flat_map-append}
use Rattle.series_core.specs.Best.{Best, IsBest}
use Rattle.series_core.specs.declared.pair.Pair.{Pair}
use Rattle.series_core.proofs.Sorting.{ascending_smallest}
use Rattle.search_machine.specs.Ground.{Ground, ShortList, near, scan, scan_one}
use Rattle.search_machine.proofs.ScanSteps.{scan_begins, scan_next}
use Rattle.nearest_answer.specs.Stretches.{items_in}
use Rattle.nearest_answer.proofs.Nearest.{scan_size}
use Rattle.nearest_answer.proofs.Ranges.{range_next}
use Rattle.search_task.specs.Questions.{Question, search_over}
use Rattle.search_task.specs.Scanning.{AreScanned, IsScannedOne, MayAdd}
use Rattle.search_task.proofs.Meeting.{IsScanning, one_scanned}

module _ (g : Ground) (v : ℕ) where
  -- what a scan leaves is in order and no more than k
  scan_short : (xs : List ℕ) (ps : List Pair) → ShortList g (scan g v xs ps)
  scan_short xs ps = record {
    order = ascending_smallest g.k (near g v xs ++ ps);
    size = scan_size g v xs ps;
  }

  -- series are scanned all at once or some after others
  scan_parts : (ys xs : List ℕ) (ps : List Pair) → scan g v (xs ++ ys) ps ≡ scan g v ys (scan g v xs ps)
  scan_parts [] xs ps =
      ap (λ (zs : List ℕ). scan g v zs ps) (append-nil xs) ∙ sym (scan_begins g v (scan g v xs ps) (scan_short xs ps))
  scan_parts (y ∷ ys) xs ps =
      let before = scan g v xs ps in
      let one : scan g v (xs ++ y ∷ []) ps ≡ scan g v (y ∷ []) before
      = scan_next g v y xs ps
      ∙ ap (scan_one g v y) (sym (scan_begins g v before (scan_short xs ps)))
      ∙ sym (scan_next g v y [] before) in
      ap (λ (zs : List ℕ). scan g v zs ps) (sym (append_assoc xs (y ∷ []) ys))
      ∙ scan_parts ys (xs ++ y ∷ []) ps
      ∙ ap (scan g v ys) one
      ∙ sym (scan_parts ys (y ∷ []) before)

module _ (a : Question) (v : ℕ) where
  -- before any was scanned
  pub none_yet : (best : Best) → IsBest best → best.k ≡ a.k → AreScanned a v [] best.pairs best.pairs
  none_yet best is k ix workers queues =
      sym (scan_begins (search_over a ix workers queues) v best.pairs
      (record { order = is.ordered; size = omega (arith, is.size, k) }))

  -- some were scanned after others
  then_scanned : (xs ys : List ℕ) (first next last : List Pair) → AreScanned a v xs first next
      → AreScanned a v ys next last → AreScanned a v (xs ++ ys) first last
  then_scanned xs ys first next last one two ix workers queues =
      let g = search_over a ix workers queues in
      two ix workers queues ∙ ap (scan g v ys) (one ix workers queues) ∙ sym (scan_parts g v ys xs first)

  -- the series of items in a row, and of one more
  pub items_more : (f : ℕ → List ℕ) (from i : ℕ) → from ≤ i
      → flat_map f (range_with_len from (i + 1 - from)) ≡ flat_map f (range_with_len from (i - from)) ++ f i
  items_more f from i low =
      ap (flat_map f) (range_next from i low)
      ∙ flat_map-append f (range_with_len from (i - from)) (i ∷ [])
      ∙ ap (λ (xs : List ℕ). flat_map f (range_with_len from (i - from)) ++ xs) (append-nil (f i))

  -- one item more was scanned
  pub item_scanned : (f : ℕ → List ℕ) (from i : ℕ) (first next last : List Pair) → from ≤ i
      → AreScanned a v (flat_map f (range_with_len from (i - from))) first next → AreScanned a v (f i) next last
      → AreScanned a v (flat_map f (range_with_len from (i + 1 - from))) first last
  item_scanned f from i first next last low was step =
      subst (λ (xs : List ℕ). AreScanned a v xs first last) (sym (items_more f from i low))
      (then_scanned (flat_map f (range_with_len from (i - from))) (f i) first next last was step)

  -- one row more was scanned
  pub row_scanned : (from i most next : ℕ) (first : List Pair) (before after : Best) → from ≤ i
      → IsScanning a v (flat_map (λ (n : ℕ). n ∷ []) (range_with_len from (i - from))) first before most
      → MayAdd a v after next → IsScannedOne a v i before.pairs after.pairs
      → IsScanning a v (flat_map (λ (n : ℕ). n ∷ []) (range_with_len from (i + 1 - from))) first after next
  row_scanned from i most next first before after low was list step =
      subst (λ (xs : List ℕ). IsScanning a v xs first after next) (sym (items_more (λ (n : ℕ). n ∷ []) from i low))
      (one_scanned i was list step)

-- the numbers from the first of a stretch up to its end are its items
pub all_items : (size count n first i : ℕ) → first ≡ n * size → i ≡ first + min size (count - first)
    → range_with_len first (i - first) ≡ items_in size count n
all_items size count n first i at end =
    let long : i - first ≡ min size (count - first) = omega (arith, end) in
    ap (range_with_len first) long ∙ ap (λ (m : ℕ). range_with_len m (min size (count - m))) at
