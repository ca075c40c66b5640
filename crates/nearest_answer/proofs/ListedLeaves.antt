-- Stretches of listed leaves. A stretch has no leaf of those before it (`next_once`), and its entries stand in a row (`cut_out`); and the
-- lists of workers that drew all stretches, merged, are a list of all leaves (`all_found`).
use Rattle.std.proofs.Common.{◌≡◌, ℕ, zero, suc, ◌+◌, ◌-◌, ◌*◌, ◌<◌, ◌≤◌, List, [], ◌∷◌, ◌++◌, All, length, map, min, take, drop, refl, sym, ap, subst, ◌∙◌, ⊎_elim, append-nil, append_assoc, arith}
use Rattle.std.specs.List.{range_with_len}
use Rattle.std.proofs.Math.Seq.{take-add}
use Rattle.std.proofs.lemmas.Bool.{cases_lt}
use Rattle.std.proofs.lemmas.List.{length-drop, map-append, take-append-drop, take_all}
use Rattle.std.proofs.lemmas.List.Concat.{flat_map-append}
use Rattle.std.proofs.lemmas.List.Elements.{All-head, All-tail}
use Rattle.list_totals.specs.Totals.{once_below, times}
use Rattle.list_totals.proofs.Totals.{times_append}
use Rattle.claim_word.specs.Passes.{EachDrawnOnce}
use Rattle.claim_word.proofs.Draws.{all_draws, same_pieces, times_all, times_below}
use Rattle.series_core.specs.Pairs.{smallest}
use Rattle.series_core.specs.declared.pair.Pair.{Pair}
use Rattle.series_core.specs.declared.queue_words.Entry.{Entry}
use Rattle.search_machine.specs.Ground.{Fits, Ground}
use Rattle.search_machine.specs.Sound.{ListSound}
use Rattle.list_team.specs.Searchers.{merged}
use Rattle.list_team.specs.declared.searcher.Searcher.{Searcher}
use Rattle.nearest_answer.specs.Listed.{AreListed, entries_of, leaves_drawn}
use Rattle.nearest_answer.specs.NearLeaves.{leaves_in}
use Rattle.nearest_answer.proofs.LeavesNear.{same_times}
use Rattle.nearest_answer.proofs.Nearest.{none_met, same_leaves}
use Rattle.nearest_answer.proofs.Ranges.{range_push}
use Rattle.nearest_answer.proofs.StretchLeaves.{in_item}
use Rattle.nearest_answer.proofs.TeamLists.{joined}

module _ (es : List Entry) where
  -- the leaves of a stretch
  abbrev piece : ℕ → List ℕ
  piece n = leaves_in (entries_of es n)

  -- the entries from the first of a stretch up to its end are its entries
  pub cut_out : (n m : ℕ) → n * 16 < length es → m ≡ min 16 (length es - n * 16)
      → take (n * 16 + m - n * 16) (drop (n * 16) es) ≡ entries_of es n
  cut_out n m inside size =
      let long = length-drop (n * 16) es in
      ⊎_elim
      (λ (many : 16 < length es - n * 16).
      let sixteen : n * 16 + m - n * 16 ≡ 16 = omega (arith, size, many) in
      ap (λ (k : ℕ). take k (drop (n * 16) es)) sixteen)
      (λ (few : length es - n * 16 ≤ 16).
      take_all (n * 16 + m - n * 16) (drop (n * 16) es) (omega (arith, long, size, few))
      ∙ sym (take_all 16 (drop (n * 16) es) (omega (arith, long, few))))
      (cases_lt 16 (length es - n * 16))

  -- one stretch more was drawn
  pub drawn_more : (ns : List ℕ) (n : ℕ) → leaves_drawn es (ns ++ n ∷ []) ≡ leaves_drawn es ns ++ leaves_in (entries_of es n)
  drawn_more ns n =
      flat_map-append piece ns (n ∷ [])
      ∙ ap (λ (ls : List ℕ). leaves_drawn es ns ++ ls) (append-nil (piece n))

  -- the stretches of the first numbers have the first entries
  first_stretches : (m : ℕ) → leaves_drawn es (range_with_len 0 m) ≡ leaves_in (take (m * 16) es)
  first_stretches zero = refl
  first_stretches (suc m) =
      let same : 0 + m ≡ m = omega arith in
      let more : m * 16 + 16 ≡ suc m * 16 = omega arith in
      ap (leaves_drawn es) (range_push 0 m ∙ ap (λ (n : ℕ). range_with_len 0 m ++ n ∷ []) same)
      ∙ drawn_more (range_with_len 0 m) m
      ∙ ap (λ (ls : List ℕ). ls ++ piece m) (first_stretches m)
      ∙ sym (map-append (λ (e : Entry). e.leaf) (take (m * 16) es) (entries_of es m))
      ∙ ap leaves_in (sym (take-add (m * 16) 16 es))
      ∙ ap (λ (n : ℕ). leaves_in (take n es)) more

  -- a leaf stands no more often in the first entries than in all
  first_fewer : (l n : ℕ) → times l (leaves_in (take n es)) ≤ times l (leaves_in es)
  first_fewer l n =
      let parts : times l (leaves_in (take n es)) + times l (leaves_in (drop n es)) ≡ times l (leaves_in es)
      = sym (times_append l (leaves_in (take n es)) (leaves_in (drop n es)))
      ∙ ap (times l) (sym (map-append (λ (e : Entry). e.leaf) (take n es) (drop n es)))
      ∙ ap (λ (ds : List Entry). times l (leaves_in ds)) (take-append-drop n es) in
      omega (arith, parts)

  -- a leaf of stretches with smaller numbers is one of the stretches before
  drawn_before : (l n : ℕ) (ns : List ℕ) → All (λ x. x < n) ns → 0 < times l (leaves_drawn es ns)
      → 0 < times l (leaves_drawn es (range_with_len 0 n))
  drawn_before l n [] all some = absurd (omega (arith, some))
  drawn_before l n (m ∷ ns) all some =
      let parts = times_append l (piece m) (leaves_drawn es ns) in
      ⊎_elim
      (λ (here : 0 < times l (piece m)).
      let low = All-head (λ (x : ℕ). x < n) m ns all in
      in_item piece n 0 m l (omega arith) (omega (arith, low)) here)
      (λ (none : times l (piece m) ≤ 0).
      drawn_before l n ns (All-tail (λ (x : ℕ). x < n) m ns all) (omega (arith, parts, none, some)))
      (cases_lt 0 (times l (piece m)))

  module _ (once : (l : ℕ) → times l (leaves_in es) ≤ 1) where
    -- a stretch has no leaf of those before it
    pub next_once : (n : ℕ) (ns : List ℕ) → All (λ x. x < n) ns → ((l : ℕ) → times l (leaves_drawn es ns) ≤ 1)
        → (l : ℕ) → times l (leaves_drawn es ns ++ leaves_in (entries_of es n)) ≤ 1
    next_once n ns below so_far l =
        let most = so_far l in
        let all = once l in
        let fewer = first_fewer l (suc n * 16) in
        let same : 0 + n ≡ n = omega arith in
        let both = times_append l (leaves_drawn es ns) (piece n) in
        let parts = times_append l (leaves_drawn es (range_with_len 0 n)) (piece n) in
        let first : times l (leaves_drawn es (range_with_len 0 n) ++ piece n) ≡ times l (leaves_in (take (suc n * 16) es))
        = ap (times l) (sym (drawn_more (range_with_len 0 n) n)
        ∙ ap (leaves_drawn es) (ap (λ (m : ℕ). range_with_len 0 n ++ m ∷ []) (sym same) ∙ sym (range_push 0 n))
        ∙ first_stretches (suc n)) in
        ⊎_elim
        (λ (some : 0 < times l (leaves_drawn es ns)).
        let before = drawn_before l n ns below some in
        omega (arith, most, all, fewer, both, parts, first, before))
        (λ (none : times l (leaves_drawn es ns) ≤ 0). omega (arith, none, all, fewer, both, parts, first))
        (cases_lt 0 (times l (leaves_drawn es ns)))

  -- stretches that were drawn once each have all leaves
  whole_drawn : (count : ℕ) → length es ≤ count * 16 → (ns : List ℕ) → ((n : ℕ) → times n ns ≡ once_below n count)
      → (l : ℕ) → times l (leaves_drawn es ns) ≡ times l (leaves_in es)
  whole_drawn count whole ns each l =
      sym (same_times (leaves_drawn es ns) (leaves_drawn es (range_with_len 0 count))
      (same_pieces piece ns (range_with_len 0 count) (λ n. each n ∙ sym (times_below n count))) l)
      ∙ ap (times l) (first_stretches count ∙ ap leaves_in (take_all (count * 16) es whole))

-- the stretches that these workers drew
abbrev drawn_by : List Searcher → List ℕ
drawn_by ws = all_draws (map (λ (w : Searcher). w.pass) ws)

module _ (g : Ground) (fits : Fits g) (es : List Entry) where
  -- the lists of all workers
  lists_joined : (ws : List Searcher) (ms : List ℕ) (held : List Pair) → ListSound g ms held
      → All (λ w. ListSound g (leaves_drawn es w.pass.draws) w.list.pairs) ws
      → ((l : ℕ) → times l (ms ++ leaves_drawn es (drawn_by ws)) ≤ 1)
      → ListSound g (ms ++ leaves_drawn es (drawn_by ws)) (merged g.k held ws)
  lists_joined [] ms held sound all once = subst (λ (ls : List ℕ). ListSound g ls held) (sym (append-nil ms)) sound
  lists_joined (w ∷ ws) ms held sound all once =
      let Sound : Searcher → Type 0 = λ v. ListSound g (leaves_drawn es v.pass.draws) v.list.pairs in
      let own = leaves_drawn es w.pass.draws in
      let others = leaves_drawn es (drawn_by ws) in
      let split : (ms ++ own) ++ others ≡ ms ++ leaves_drawn es (drawn_by (w ∷ ws))
      = append_assoc ms own others
      ∙ ap (λ (ls : List ℕ). ms ++ ls) (sym (flat_map-append (piece es) w.pass.draws (drawn_by ws))) in
      let each : (l : ℕ) → times l ((ms ++ own) ++ others) ≤ 1
      = subst (λ (ls : List ℕ). (l : ℕ) → times l ls ≤ 1) (sym split) once in
      let next = joined g fits own ms w.list.pairs held (All-head Sound w ws all) sound
      (λ l.
      let most = each l in
      let a = times_append l (ms ++ own) others in
      let b = times_append l ms own in
      omega (arith, most, a, b)) in
      subst (λ (ls : List ℕ). ListSound g ls (merged g.k held (w ∷ ws))) split
      (lists_joined ws (ms ++ own) (smallest g.k (w.list.pairs ++ held)) next (All-tail Sound w ws all) each)

  -- the lists of workers that drew all stretches, merged, are a list of all leaves
  pub all_found : (count : ℕ) → AreListed g es count → (ws : List Searcher)
      → All (λ w. ListSound g (leaves_drawn es w.pass.draws) w.list.pairs) ws
      → (each : EachDrawnOnce count (map (λ (w : Searcher). w.pass) ws)) → each.drawn ≡ count
      → ListSound g (leaves_in es) (merged g.k [] ws)
  all_found count listed ws sound each whole =
      same_leaves g (leaves_drawn es (drawn_by ws)) (leaves_in es) (merged g.k [] ws) same
      (lists_joined ws [] [] (none_met g) sound
      (λ l. let so = same l in let one = listed.once l in omega (arith, so, one)))
    where
      same : (l : ℕ) → times l (leaves_drawn es (drawn_by ws)) ≡ times l (leaves_in es)
      same l = whole_drawn es count listed.cut.whole (drawn_by ws)
          (λ n. times_all n (map (λ (w : Searcher). w.pass) ws) ∙ each.once n ∙ ap (once_below n) whole) l
