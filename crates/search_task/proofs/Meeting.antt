-- What one member makes of a list: one whose distance is above the limit or above the k-th pair leaves it (`meet_far`), and any
-- other is added (`meet_near`); so series are scanned one by one
-- (`IsScanning`, `one_scanned`, `member_scanned`), and members that are all farther leave a list as it is (`far_scanned`), as do
-- those of a leaf whose bound is above (`beyond_members`).
use Rattle.std.proofs.Common.{◌≡◌, ℕ, zero, suc, ◌<◌, ◌≤◌, ℤ, List, [], ◌∷◌, ◌++◌, ◌+◌, length, take, get_or, refl, sym, ap, ◌∙◌, subst, arith}
use Rattle.std.specs.Prelude.{Some, slice_get, nat_le}
use Rattle.std.proofs.lemmas.Bool.{cond-true, cond_both, leb-true, le-leb}
use Rattle.std.proofs.lemmas.List.{append-nil, append_assoc, get_or-map, length-map, map-append, take_all, take_more}
use Rattle.std.proofs.lemmas.List.Elements.{All-head, All-tail}
use Rattle.std.specs.List.{All}
use Rattle.std.proofs.lemmas.Option.{get_or_from_slice_get}
use Rattle.list_totals.specs.Totals.{times}
use Rattle.list_totals.proofs.Places.{times_at}
use Rattle.series_core.specs.Answer.{distance_or_none}
use Rattle.series_core.specs.Best.{Best}
use Rattle.series_core.specs.Distance.{squared_distance}
use Rattle.series_core.specs.Order.{distance_at}
use Rattle.series_core.specs.Pairs.{smallest}
use Rattle.series_core.specs.declared.pair.Pair.{Pair}
use Rattle.isax_word.specs.FullWord.{full_word}
use Rattle.isax_word.specs.declared.member.Member.{Member}
use Rattle.subtree_build.specs.Index.{IndexParts, leaf_at}
use Rattle.subtree_build.specs.Members.{numbers_of, series_at}
use Rattle.search_machine.specs.Ground.{pair_of, scan_one}
use Rattle.search_task.specs.LeafBounds.{IsBelowLeaf}
use Rattle.search_task.specs.Questions.{Question, IsQuestion, IsMemberOf, search_over}
use Rattle.search_task.specs.Scanning.{AreScanned, IsScannedOne, MayAdd}
use Rattle.search_task.proofs.OfIndex.{distance_small}
use Rattle.search_machine.proofs.ScanSteps.{passed_over, scan_next}

-- the distance of the pair at a place, or NONE where there is none
pub distance_there : (n : ℕ) (ps : List Pair) → distance_or_none (slice_get ps n) ≡ distance_at n ps
distance_there n [] = refl
distance_there zero (p ∷ ps) = refl
distance_there (suc n) (p ∷ ps) = distance_there n ps

-- how far a series is
abbrev pub far_is : Question → ℕ → ℕ
far_is a s = squared_distance (series_at a.collection s) a.query

-- a series as a member, with its own word
abbrev pub member_of : Question → ℕ → Member
member_of a s = record { number = s; full = full_word a.layout (series_at a.collection s) }

module _ (a : Question) (m : Member) (best : Best) (limit most : ℕ) (question : IsQuestion a) (member : IsMemberOf a m)
    (may : MayAdd a limit best most) where
  -- a member that is farther is passed over
  pub meet_far : most < far_is a m.number → IsScannedOne a limit m.number best.pairs best.pairs
  meet_far far ix workers queues =
      let g = search_over a ix workers queues in
      let p : Pair = pair_of g m.number in
      cond_both (nat_le (far_is a m.number) limit) (smallest a.k (p ∷ best.pairs)) best.pairs
      (λ (ps : List Pair). best.pairs ≡ ps)
      (λ within. sym (subst (λ k. smallest k (p ∷ best.pairs) ≡ best.pairs) may.wanted
      (passed_over best.k p best.pairs may.is_best.some may.is_best.ordered may.is_best.size
      (distance_small a m.number question member.series)
      (omega (arith, far, may.most_is, leb-true (far_is a m.number) limit within)))))
      (λ _. refl)

  -- any other is added
  pub meet_near : (d : ℕ) (more : List Pair) → d ≡ far_is a m.number → d ≤ most
      → more ≡ smallest best.k (record { distance = d; number = m.number } ∷ best.pairs)
      → IsScannedOne a limit m.number best.pairs more
  meet_near d more distance near added ix workers queues =
      let g = search_over a ix workers queues in
      let within : far_is a m.number ≤ limit = omega (arith, distance, near, may.most_is) in
      added
      ∙ ap (λ k. smallest k (record { distance = d; number = m.number } ∷ best.pairs)) may.wanted
      ∙ ap (λ n. smallest a.k (record { distance = n; number = m.number } ∷ best.pairs)) distance
      ∙ sym (cond-true (nat_le (far_is a m.number) limit)
      (smallest a.k (pair_of g m.number ∷ best.pairs)) best.pairs
      (le-leb (far_is a m.number) limit within))

-- a row that is lent for series s: it is as long as the query, and as far from it as the series is
pub record IsLent (a b : Question) (s : ℕ) (row : List ℤ) : Type 0 where
  pub as_long : length row ≡ length b.query
  pub short : length row ≤ 65536
  pub distance : squared_distance row b.query ≡ far_is a s

-- the row that is lent by the number of a series
pub row_is_lent : (a b : Question) (s : ℕ) (row : List ℤ) → b ≡ a → IsQuestion a
    → s < length a.collection.series → slice_get b.collection.series s ≡ Some row → IsLent a b s row
row_is_lent a b s row same is low lent =
    let there : slice_get a.collection.series s ≡ Some row =
    ap (λ (q : Question). slice_get q.collection.series s) (sym same) ∙ lent in
    let series : series_at a.collection s ≡ row =
    get_or_from_slice_get a.collection.series s row [] there in
    let long : length row ≡ a.collection.points =
    ap (λ (xs : List ℤ). length xs) (sym series) ∙ (is.collection.each s [] low).points in
    record {
      as_long = long ∙ is.points ∙ sym is.query ∙ ap (λ (q : Question). length q.query) (sym same);
      short = omega (arith, long, is.collection.length_limit);
      distance =
          ap (λ (q : Question). squared_distance row q.query) same
          ∙ ap (λ (xs : List ℤ). squared_distance xs a.query) (sym series);
    }

-- what a loop keeps that scans series: what may still be added, and the pairs after the scan of the series so far
pub record IsScanning (a : Question) (limit : ℕ) (numbers : List ℕ) (first : List Pair) (best : Best) (most : ℕ) : Type 0 where
  pub list : MayAdd a limit best most
  pub pairs : AreScanned a limit numbers first best.pairs

-- the scan of one series more
pub one_scanned : {a : Question} {limit most next : ℕ} {numbers : List ℕ} {first : List Pair} {before after : Best} (n : ℕ)
    → IsScanning a limit numbers first before most → MayAdd a limit after next
    → IsScannedOne a limit n before.pairs after.pairs → IsScanning a limit (numbers ++ n ∷ []) first after next
one_scanned {a} {limit} {numbers = numbers} {first = first} n was list step = record {
  list = list;
  pairs = λ ix workers queues.
      let g = search_over a ix workers queues in
      step ix workers queues
      ∙ ap (λ (ps : List Pair). scan_one g limit n ps) (was.pairs ix workers queues)
      ∙ sym (scan_next g limit n numbers first);
}

module _ {a : Question} {limit most : ℕ} {first : List Pair} (items : List Member) (i : ℕ) {before : Best}
    (was : IsScanning a limit (numbers_of (take i items)) first before most) where
  -- the scan of one member more
  pub member_scanned : {m : Member} {after : Best} {next : ℕ} → i < length items → m ≡ get_or items i m
      → MayAdd a limit after next → IsScannedOne a limit m.number before.pairs after.pairs
      → IsScanning a limit (numbers_of (take (i + 1) items)) first after next
  member_scanned {m} {after} {next} inside item list step =
      let numbers : numbers_of (take (i + 1) items) ≡ numbers_of (take i items) ++ m.number ∷ [] =
      ap numbers_of (take_more items i m inside)
      ∙ ap (λ (x : Member). numbers_of (take i items ++ x ∷ [])) (sym item)
      ∙ map-append (λ (x : Member). x.number) (take i items) (m ∷ []) in
      subst (λ (ns : List ℕ). IsScanning a limit ns first after next) (sym numbers) (one_scanned m.number was list step)

  -- all members were scanned
  pub all_scanned : length items ≤ i → AreScanned a limit (numbers_of items) first before.pairs
  all_scanned end =
      subst (λ (ms : List Member). AreScanned a limit (numbers_of ms) first before.pairs) (take_all i items end) was.pairs

-- where nothing is scanned, nothing is added
none_scanned : (a : Question) (limit most : ℕ) (best : Best) → MayAdd a limit best most
    → IsScanning a limit [] best.pairs best most
none_scanned a limit most best may = record {
  list = may;
  pairs = λ ix workers queues.
      sym (ap (take a.k) may.is_best.ordered ∙ take_all a.k best.pairs (omega (arith, may.is_best.size, may.wanted)));
}

-- members that are farther are passed over, one after another
far_from_here : (a : Question) (limit most : ℕ) (best : Best) (done items : List Member) → IsQuestion a
    → All (IsMemberOf a) items → All (λ (m : Member). most < far_is a m.number) items
    → IsScanning a limit (numbers_of done) best.pairs best most
    → IsScanning a limit (numbers_of (done ++ items)) best.pairs best most
far_from_here a limit most best done [] question members far was =
    subst (λ (ms : List Member). IsScanning a limit (numbers_of ms) best.pairs best most) (sym (append-nil done)) was
far_from_here a limit most best done (m ∷ items) question members far was =
    let far_one = λ (x : Member). most < far_is a x.number in
    let member = All-head (IsMemberOf a) m items members in
    let step = meet_far a m best limit most question member was.list (All-head far_one m items far) in
    let next : IsScanning a limit (numbers_of (done ++ m ∷ [])) best.pairs best most
    = subst (λ (ns : List ℕ). IsScanning a limit ns best.pairs best most)
    (sym (map-append (λ (x : Member). x.number) done (m ∷ []))) (one_scanned m.number was was.list step) in
    subst (λ (ms : List Member). IsScanning a limit (numbers_of ms) best.pairs best most) (append_assoc done (m ∷ []) items)
    (far_from_here a limit most best (done ++ m ∷ []) items question (All-tail (IsMemberOf a) m items members)
    (All-tail far_one m items far) next)

-- members that are all farther leave a list as it is
pub far_scanned : (a : Question) (limit most : ℕ) (best : Best) (items : List Member) → IsQuestion a
    → All (IsMemberOf a) items → All (λ (m : Member). most < far_is a m.number) items → MayAdd a limit best most
    → AreScanned a limit (numbers_of items) best.pairs best.pairs
far_scanned a limit most best items question members far may =
    (far_from_here a limit most best [] items question members far (none_scanned a limit most best may)).pairs

-- the members of a leaf whose bound is above are all farther
pub beyond_members : (a : Question) (ix : IndexParts) (l bound most : ℕ) → IsBelowLeaf (search_over a ix 1 1) l bound
    → most < bound → All (λ (m : Member). most < far_is a m.number) (leaf_at ix.leaves l).members
beyond_members a ix l bound most below above k d inside =
    let items = (leaf_at ix.leaves l).members in
    let number : Member → ℕ = λ m. m.number in
    let there : 0 < times (get_or items k d).number (numbers_of items)
    = times_at (get_or items k d).number (numbers_of items) k 0 (omega (arith, inside, length-map items number))
    (get_or-map number items k d 0 inside) in
    let low = below (get_or items k d).number there in
    omega (arith, above, low)
