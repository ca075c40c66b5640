-- The lists of all workers, joined one after another, are the answer where each stretch was drawn once (`all_answer`).
use Rattle.std.proofs.Common.{◌≡◌, ℕ, ◌+◌, ◌<◌, ◌≤◌, List, [], ◌∷◌, ◌++◌, All, map, refl, sym, subst, inl, inr, ◌∙◌, ⊎_elim, arith}
use Rattle.std.proofs.lemmas.Bool.{cases_lt}
use Rattle.std.proofs.lemmas.List.Elements.{All-head, All-tail}
use Rattle.list_totals.specs.Standing.{In}
use Rattle.list_totals.specs.Totals.{total, times}
use Rattle.list_totals.proofs.Standing.{in_append}
use Rattle.list_totals.proofs.Totals.{once_below_most, once_below_yes, times_append}
use Rattle.claim_word.specs.Passes.{Pass, EachDrawnOnce}
use Rattle.series_core.specs.Answer.{answer}
use Rattle.series_core.specs.Order.{Ascending}
use Rattle.series_core.specs.Pairs.{smallest}
use Rattle.series_core.specs.declared.pair.Pair.{Pair}
use Rattle.search_machine.specs.Ground.{Fits, Ground, last}
use Rattle.search_machine.specs.Sound.{ListSound}
use Rattle.search_machine.proofs.Counts.{others_count}
use Rattle.search_machine.proofs.Pools.{Apart, Best, ascending_joined, ascending_still, best_of, has_either}
use Rattle.list_team.specs.Searchers.{merged}
use Rattle.list_team.specs.declared.searcher.Searcher.{Searcher}
use Rattle.list_team.proofs.Merging.{merged_few}
use Rattle.nearest_answer.specs.declared.telling.ApartBy.{ApartBy}
use Rattle.nearest_answer.specs.Stretches.{IsCut, by_stretches}
use Rattle.nearest_answer.proofs.Nearest.{answer_met, none_met}
use Rattle.nearest_answer.proofs.StretchLeaves.{stretches_fit}
use Rattle.search_task.specs.Questions.{CanBeSearched, Searched}
use Rattle.search_task.proofs.Grounds.{ground_answer}

-- numbers that are all smaller are others
pub not_drawn : (n : ℕ) (xs : List ℕ) → All (λ x. x < n) xs → times n xs ≡ 0
not_drawn n [] all = refl
not_drawn n (x ∷ xs) all =
    let low = All-head (λ (y : ℕ). y < n) x xs all in
    let other = others_count n x (λ (e : n ≡ x). omega (arith, e, low)) in
    let rest = not_drawn n xs (All-tail (λ (y : ℕ). y < n) x xs all) in
    omega (arith, other, rest)

-- how often a number was drawn by these workers
abbrev drawn : ℕ → List Searcher → ℕ
drawn l ws = total (λ (p : Pass). times l p.draws) (map (λ (w : Searcher). w.pass) ws)

module _ (g : Ground) (fits : Fits g) where
  -- the lists of leaves of which none is among both
  module _ (ms ns : List ℕ) (ps qs : List Pair) (first : ListSound g ms ps) (second : ListSound g ns qs)
      (once : (l : ℕ) → times l ms + times l ns ≤ 1) where
    apart : Apart ps qs
    apart p here there =
        let a = first.from p here in
        let b = second.from p there in
        let same : a.0 ≡ b.0 = fits.one_home a.0 b.0 p.number a.2 b.2 in
        let some : 0 < times a.0 ns = subst (λ (l : ℕ). 0 < times l ns) (sym same) b.1 in
        let most = once a.0 in
        absurd (omega (arith, a.1, some, most))

    best : Best g (ps ++ qs) (smallest g.k (ps ++ qs))
    best = best_of g (ps ++ qs) (record {
      different = ascending_joined ps qs first.ascending
          (subst Ascending (sym (ascending_still qs second.ascending)) second.ascending) apart;
      known = λ p has. ⊎_elim (first.known p) (second.known p) (in_append p ps qs has);
    })

    -- joined are a list of the leaves of both
    pub joined : ListSound g (ns ++ ms) (smallest g.k (ps ++ qs))
    joined = record {
      ascending = best.known.ascending;
      known = best.known.known;
      from = λ p has. ⊎_elim
          (λ (t : In p ps).
          let a = first.from p t in
          let both = times_append a.0 ns ms in
          (a.0, omega (arith, both, a.1), a.2))
          (λ (t : In p qs).
          let b = second.from p t in
          let both = times_append b.0 ns ms in
          (b.0, omega (arith, both, b.1), b.2))
          (in_append p ps qs (best.from p has));
      full = λ t p l a there member.
          let both = times_append l ns ms in
          best.full p a (has_either p ps qs (⊎_elim
          (λ (h : 0 < times l ms). inl (first.full tt p l a h member))
          (λ (h : times l ms ≤ 0). inr (second.full tt p l a (omega (arith, both, h, there)) member))
          (cases_lt 0 (times l ms))));
    }

  -- the lists of all workers
  all_joined : (ws : List Searcher) (ms : List ℕ) (held : List Pair) → ListSound g ms held
      → All (λ w. ListSound g w.pass.draws w.list.pairs) ws → ((l : ℕ) → drawn l ws + times l ms ≤ 1)
      → (ns : List ℕ) × ListSound g ns (merged g.k held ws) × ((l : ℕ) → times l ns ≡ drawn l ws + times l ms)
  all_joined [] ms held sound all once = (ms, sound, λ l. omega arith)
  all_joined (w ∷ ws) ms held sound all once =
      let Sound : Searcher → Type 0 = λ v. ListSound g v.pass.draws v.list.pairs in
      let next = joined w.pass.draws ms w.list.pairs held (All-head Sound w ws all) sound
      (λ l. let most = once l in omega (arith, most)) in
      let rest = all_joined ws (ms ++ w.pass.draws) (smallest g.k (w.list.pairs ++ held)) next
      (All-tail Sound w ws all)
      (λ l. let most = once l in let both = times_append l ms w.pass.draws in omega (arith, most, both)) in (
        rest.0,
        rest.1,
        λ l.
            let so = rest.2 l in let both = times_append l ms w.pass.draws in omega (arith, so, both),
      )

-- the lists of workers that drew all stretches, merged, are the answer
pub all_answer : (s : Searched) (by : ApartBy) (count : ℕ) → CanBeSearched s.question s.index → IsCut s by count
    → (ws : List Searcher) → All (λ w. ListSound (by_stretches s by count) w.pass.draws w.list.pairs) ws
    → (each : EachDrawnOnce count (map (λ (w : Searcher). w.pass) ws)) → each.drawn ≡ count
    → merged s.question.k [] ws ≡ answer s.question.collection s.question.query s.question.k
all_answer s by count searched cut ws sound each whole =
    let g = by_stretches s by count in
    let fits = stretches_fit s by count searched cut in
    let held = all_joined g fits ws [] [] (none_met g) sound
    (λ l. let most = once_below_most l each.drawn in let once = each.once l in omega (arith, most, once)) in
    answer_met g fits held.0 (last g) (merged g.k [] ws) (merged_few g.k [] ws (omega arith)) (omega arith) held.1
    (λ l real.
    let once = each.once l in
    let one = once_below_yes l each.drawn (omega (arith, whole, real)) in
    let so = held.2 l in
    inl (omega (arith, once, one, so)))
    ∙ ground_answer s
