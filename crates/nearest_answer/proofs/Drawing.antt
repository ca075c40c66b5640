-- What is found of stretches, listed or all: before any is drawn (`none_found`), with one more (`listed_found`, `whole_found`), how far its
-- k-th pair lies at least (`found_enough`), and by workers who drew all of them (`all_met`).
use Rattle.std.proofs.Common.{◌≡◌, ℕ, ◌-◌, ◌<◌, ◌≤◌, List, [], ◌∷◌, ◌++◌, All, length, map, true, sym, ap, subst, arith}
use Rattle.std.specs.Borrow.{Bor}
use Rattle.std.proofs.lemmas.List.Elements.{All-map}
use Rattle.list_totals.specs.Totals.{times}
use Rattle.claim_word.specs.Passes.{Pass, EachDrawnOnce}
use Rattle.claim_word.proofs.Draws.{all_drawn}
use Rattle.series_core.specs.Best.{Best}
use Rattle.series_core.specs.Order.{distance_at}
use Rattle.series_core.specs.declared.pair.Pair.{Pair}
use Rattle.series_core.specs.declared.queue_words.Entry.{Entry}
use Rattle.search_machine.specs.Ground.{last, worst}
use Rattle.search_machine.specs.Sound.{ListSound}
use Rattle.list_team.specs.Searchers.{merged}
use Rattle.list_team.specs.declared.searcher.Searcher.{Searcher}
use Rattle.search_task.specs.Questions.{CanBeSearched, Searched, ground_of, last_of}
use Rattle.search_task.specs.Scanning.{AreScanned}
use Rattle.search_task.proofs.Grounds.{ground_fits, ground_last}
use Rattle.nearest_answer.specs.Listed.{entries_of, leaves_drawn}
use Rattle.nearest_answer.specs.NearLeaves.{leaves_in}
use Rattle.nearest_answer.specs.Stretches.{IsCut, by_stretches, stretch}
use Rattle.nearest_answer.specs.Team.{AreCut, HasAll, HasFound, IsDone}
use Rattle.nearest_answer.specs.declared.telling.ApartBy.{ApartBy}
use Rattle.nearest_answer.specs.declared.team.Drawn.{Drawn}
use Rattle.nearest_answer.specs.declared.team.Drawn.TheVariants.{Listed, Whole}
use Rattle.nearest_answer.proofs.LeavesLeft.{Scans}
use Rattle.nearest_answer.proofs.ListedLeaves.{all_found, drawn_more, next_once}
use Rattle.nearest_answer.proofs.Nearest.{next_scanned, none_met, worst_enough}
use Rattle.nearest_answer.proofs.StretchLeaves.{stretches_fit}
use Rattle.nearest_answer.proofs.TeamLists.{all_answer, not_drawn}

-- the passes of some workers are some
some_passes : (ws : List Searcher) → 0 < length ws → 0 < length (map (λ (w : Searcher). w.pass) ws)
some_passes [] some = some
some_passes (w ∷ ws) some = omega arith

-- before any stretch is drawn
pub none_found : (s : Searched) (what : Drawn) (count : ℕ) → HasFound s what count [] []
none_found s (Listed es) count = (λ l. omega arith, none_met (ground_of s))
none_found s (Whole by) count = none_met (by_stretches s by count)

-- a step that finds what is in stretch n too does so of what is drawn, where it does so of what this is
pub found_by : (s : Searched) {what kind : Drawn} → what ≡ kind → (count n : ℕ) (ns : List ℕ) (ps qs : List Pair)
    → (AreCut s kind count → HasFound s kind count ns ps → HasFound s kind count (ns ++ n ∷ []) qs)
    → AreCut s what count → HasFound s what count ns ps → HasFound s what count (ns ++ n ∷ []) qs
found_by s is count n ns ps qs step cut found =
    subst (λ (w : Drawn). HasFound s w count (ns ++ n ∷ []) qs) (sym is)
    (step (subst (λ (w : Drawn). AreCut s w count) is cut) (subst (λ (w : Drawn). HasFound s w count ns ps) is found))

-- one stretch of listed leaves more was scanned
pub listed_found : (s : Searched) (es : Bor (List Entry)) (count : ℕ) → AreCut s (Listed es) count → (n : ℕ) (ns : List ℕ)
    (ps qs : List Pair) → All (λ x. x < n) ns → Scans (ground_of s) (leaves_in (entries_of es.now n)) ps qs
    → HasFound s (Listed es) count ns ps → HasFound s (Listed es) count (ns ++ n ∷ []) qs
listed_found s es count listed n ns ps qs above scanned found =
    let more = sym (drawn_more es.now ns n) in
    let new = next_once es.now listed.once n ns above found.0 in (
      subst (λ (ls : List ℕ). (l : ℕ) → times l ls ≤ 1) more new,
      subst (λ (ls : List ℕ). ListSound (ground_of s) ls qs) more (scanned (leaves_drawn es.now ns) new found.1),
    )

module _ (s : Searched) (searched : CanBeSearched s.question s.index) where
  -- one stretch of all more was scanned
  pub whole_found : (by : ApartBy) (count : ℕ) → IsCut s by count → (n v : ℕ) (ns : List ℕ) (ps qs : List Pair) → n < count
      → All (λ x. x < n) ns → last_of s.question ≤ v → AreScanned s.question v (stretch s by n) ps qs
      → HasFound s (Whole by) count ns ps → HasFound s (Whole by) count (ns ++ n ∷ []) qs
  whole_found by count cut n v ns ps qs real above enough scanned found =
      let g = by_stretches s by count in
      let low : last g ≤ v = omega (arith, ground_last s searched, enough) in
      subst (ListSound g (ns ++ n ∷ [])) (sym (scanned s.index 1 1))
      (next_scanned g (stretches_fit s by count searched cut) ns n v ps real (not_drawn n ns above) low found)

  -- the k-th pair of what is found is no nearer than the last of the answer
  pub found_enough : (what : Drawn) (count : ℕ) → AreCut s what count → (ns : List ℕ) (best : Best) → best.k ≡ s.question.k
      → HasFound s what count ns best.pairs → last_of s.question ≤ distance_at (best.k - 1) best.pairs
  found_enough what count cut ns best wanted found =
      let least = enough what cut found in
      let kth = ap (λ (k : ℕ). distance_at (k - 1) best.pairs) wanted in
      omega (arith, least, kth, ground_last s searched)
    where
      enough : (what : Drawn) → AreCut s what count → HasFound s what count ns best.pairs
          → last (ground_of s) ≤ worst (ground_of s) best.pairs
      enough (Listed es) cut found =
          worst_enough (ground_of s) (ground_fits s searched) (leaves_drawn es.now ns) best.pairs found.1
      enough (Whole by) cut found =
          worst_enough (by_stretches s by count) (stretches_fit s by count searched cut) ns best.pairs found

  -- workers who drew all stretches have found all
  pub all_met : (what : Drawn) (count : ℕ) → AreCut s what count → (ws : List Searcher) → 0 < length ws
      → All (λ w. IsDone s what count w.pass w.list) ws → EachDrawnOnce count (map (λ (w : Searcher). w.pass) ws)
      → HasAll s what (merged s.question.k [] ws)
  all_met what count cut ws some done each =
      joined what cut (λ n d low. (done n d low).found)
    where
      passes : List Pass
      passes = map (λ (w : Searcher). w.pass) ws

      whole : each.drawn ≡ count
      whole = all_drawn count passes each (some_passes ws some)
          (All-map (λ (p : Pass). p.ended ≡ true) (λ (w : Searcher). w.pass) ws (λ n d low. (done n d low).ended))

      joined : (what : Drawn) → AreCut s what count → All (λ w. HasFound s what count w.pass.draws w.list.pairs) ws
          → HasAll s what (merged s.question.k [] ws)
      joined (Listed es) cut found =
          all_found (ground_of s) (ground_fits s searched) es.now count cut ws (λ n d low. (found n d low).1) each whole
      joined (Whole by) cut found = all_answer s by count searched cut ws found each whole
