-- The lists of all workers, merged, are the k smallest of all pairs (`all_top`).
use Rattle.std.proofs.Common.{◌≡◌, ℕ, ◌+◌, ◌<◌, ◌≤◌, List, [], ◌∷◌, ◌++◌, ◌⊎◌, All, length, map, take, min, true, refl, sym, ◌∙◌, subst, inl, inr, ⊎_elim, arith}
use Rattle.std.proofs.lemmas.Bool.Decides.{nat_tests}
use Rattle.std.proofs.lemmas.List.{length-take}
use Rattle.std.proofs.lemmas.List.Elements.{All-head, All-tail, All-map, All-nil, All-cons}
use Rattle.list_totals.specs.Standing.{In}
use Rattle.list_totals.specs.Totals.{total, times, once_below}
use Rattle.list_totals.proofs.Standing.{in_contains, contains_in}
use Rattle.list_totals.proofs.Places.{times_at, times_contains}
use Rattle.claim_word.specs.Passes.{Pass, EachDrawnOnce}
use Rattle.claim_word.proofs.Draws.{all_drawn}
use Rattle.series_core.specs.Collection.{Collection}
use Rattle.series_core.specs.Order.{Among, Ascending}
use Rattle.series_core.specs.Pairs.{ascending, smallest}
use Rattle.series_core.specs.declared.pair.Pair.{Pair}
use Rattle.series_core.proofs.Parts.{has_take}
use Rattle.series_core.proofs.Plain.{has_ascending}
use Rattle.discord_query.specs.Discords.{all_farness, top}
use Rattle.discord_query.specs.Done.{IsDone}
use Rattle.discord_query.specs.Groups.{group_of, IsCut}
use Rattle.list_team.specs.Searchers.{merged}
use Rattle.list_team.specs.declared.searcher.Searcher.{Searcher}
use Rattle.discord_query.proofs.Farness.{all_strict, own_piece, top_is}
use Rattle.discord_query.proofs.Joining.{joined_strict, joined_only, joined_has, whole_top}

-- what stands in a list of numbers is counted, and what is counted stands in it
counted : (x : ℕ) (xs : List ℕ) → In x xs → 0 < times x xs
counted x xs has = let place = in_contains xs x has in times_at x xs place.0 x place.1 place.2

stands : (x : ℕ) (xs : List ℕ) → 0 < times x xs → In x xs
stands x xs some = contains_in xs x (times_contains x xs some)

-- how often a number was drawn by these workers
abbrev drawn : ℕ → List Searcher → ℕ
drawn x ws = total (λ (p : Pass). times x p.draws) (map (λ (w : Searcher). w.pass) ws)

module _ (c : Collection) (k size : ℕ) where
  -- the group of the series of a pair
  abbrev group : Pair → ℕ
  group p = group_of size p.number

  -- what is held ascends, is some of all, and no more than k; what of the k smallest is of a group that was drawn is held
  record IsHeld (often : ℕ → ℕ) (held : List Pair) : Type 0 where
    strict : Ascending held
    among : Among held (all_farness c)
    few : length held ≤ k
    only : (p : Pair) → In p held → 0 < often (group p)
    has : (p : Pair) → In p (take k (ascending (all_farness c))) → 0 < often (group p) → In p held

  -- one worker's list more
  more_held : (often : ℕ → ℕ) (held : List Pair) (w : Searcher) → IsHeld often held
      → IsDone c k size w.pass w.list → ((x : ℕ) → times x w.pass.draws + often x ≤ 1)
      → IsHeld (λ x. times x w.pass.draws + often x) (smallest k (w.list.pairs ++ held))
  more_held often held w was done once = record {
    strict = joined_strict k (all_farness c) w.list.pairs held (all_strict c) done.part.strict was.strict
        done.part.among was.among apart;
    among = λ p has. ⊎_elim (done.part.among p) (was.among p) (found p has);
    few = omega (arith, length-take k (ascending (w.list.pairs ++ held)), least k (length (ascending (w.list.pairs ++ held))));
    only = λ p has. ⊎_elim
        (λ (t : In p w.list.pairs).
        let some = counted (group p) w.pass.draws (done.holds.only p t) in omega (arith, some))
        (λ (t : In p held). let some = was.only p t in omega (arith, some))
        (found p has);
    has = λ p first some. joined_has k (all_farness c) w.list.pairs held (all_strict c) done.part.strict
        was.strict done.part.among was.among apart p first
        (⊎_elim
        (λ (mine : 0 < times (group p) w.pass.draws).
        inl (done.holds.has p first (stands (group p) w.pass.draws mine)))
        (λ (before : 0 < often (group p)). inr (was.has p first before))
        (one_of_two (times (group p) w.pass.draws) (often (group p)) some));
  }
    where
      apart : (p : Pair) → In p w.list.pairs → In p held → ⊥
      apart p has had =
          let mine = counted (group p) w.pass.draws (done.holds.only p has) in
          let before = was.only p had in
          let most = once (group p) in absurd (omega (arith, mine, before, most))

      found : (p : Pair) → In p (smallest k (w.list.pairs ++ held)) → In p w.list.pairs ⊎ In p held
      found p has = joined_only k (all_farness c) w.list.pairs held (all_strict c) done.part.strict was.strict
          done.part.among was.among apart p has

      least : (a b : ℕ) → min a b ≤ a
      least a b = grind (arith, nat_tests)

      one_of_two : (a b : ℕ) → 0 < a + b → (0 < a) ⊎ (0 < b)
      one_of_two a b some = grind arith

  -- all workers' lists
  all_held : (ws : List Searcher) (often : ℕ → ℕ) (held : List Pair) → IsHeld often held
      → All (λ w. IsDone c k size w.pass w.list) ws → ((x : ℕ) → drawn x ws + often x ≤ 1)
      → IsHeld (λ x. drawn x ws + often x) (merged k held ws)
  all_held [] often held was done once = record {
    strict = was.strict;
    among = was.among;
    few = was.few;
    only = λ p has. let some = was.only p has in omega (arith, some);
    has = λ p first some. was.has p first (omega (arith, some));
  }
  all_held (w ∷ ws) often held was done once =
      let Done : Searcher → Type 0 = λ v. IsDone c k size v.pass v.list in
      let next = more_held often held w was (All-head Done w ws done)
      (λ x. let most = once x in omega (arith, most)) in
      let all = all_held ws (λ x. times x w.pass.draws + often x)
      (smallest k (w.list.pairs ++ held)) next (All-tail Done w ws done)
      (λ x. let most = once x in omega (arith, most)) in record {
        strict = all.strict;
        among = all.among;
        few = all.few;
        only = λ p has. let some = all.only p has in omega (arith, some);
        has = λ p first some. all.has p first (omega (arith, some));
      }

  -- nothing is held of what nobody drew
  none_held : IsHeld (λ x. 0) []
  none_held = record {
    strict = tt;
    among = λ p has. absurd has;
    few = omega arith;
    only = λ p has. absurd has;
    has = λ p first some. absurd (omega (arith, some));
  }

  -- a number below n is one once, and no number is more
  at_most_once : (x n : ℕ) → once_below x n ≤ 1
  at_most_once x n = grind (arith, nat_tests)

  below_once : (x n : ℕ) → x < n → once_below x n ≡ 1
  below_once x n low = grind (arith, nat_tests)

  -- the lists of workers that drew all groups, merged, are the k smallest of all
  pub all_top : (groups : ℕ) (ws : List Searcher) → IsCut size (length c.series) groups → 0 < length ws
      → All (λ w. IsDone c k size w.pass w.list) ws
      → EachDrawnOnce groups (map (λ (w : Searcher). w.pass) ws)
      → merged k [] ws ≡ top c k
  all_top groups ws cut some done each =
      let passes = map (λ (w : Searcher). w.pass) ws in
      let ended : All (λ p. p.ended ≡ true) passes
      = All-map (λ (p : Pass). p.ended ≡ true) (λ (w : Searcher). w.pass) ws
      (λ n d low. (done n d low).ended) in
      let all = all_drawn groups passes each (long ws some) ended in
      let held = all_held ws (λ x. 0) [] none_held done
      (λ x. let most = at_most_once x each.drawn in let once = each.once x in omega (arith, most, once)) in
      whole_top k (all_farness c) (merged k [] ws) (all_strict c) held.strict held.among held.few
      (λ p first.
      let mine = own_piece c p (has_ascending p (all_farness c) (has_take k p (ascending (all_farness c)) first)) in
      let once = each.once (group p) in
      let real = cut.whole p.number mine.0 in
      let one = below_once (group p) each.drawn (omega (arith, all, real)) in
      held.has p first (omega (arith, once, one)))
      ∙ sym (top_is c k)
    where
      long : (ws : List Searcher) → 0 < length ws → 0 < length (map (λ (w : Searcher). w.pass) ws)
      long [] some = some
      long (w ∷ ws) some = omega arith

-- what holds of each that stands in a list holds of all
all_in : (P : Pair → Type 0) (ps : List Pair) → ((p : Pair) → In p ps → P p) → All P ps
all_in P [] h = All-nil P
all_in P (p ∷ ps) h = All-cons P p ps (h p (inl refl)) (all_in P ps (λ q has. h q (inr has)))

-- the k smallest are of series
pub top_series : (c : Collection) (k : ℕ) → All (λ p. p.number < length c.series) (top c k)
top_series c k = subst (λ l. All (λ (p : Pair). p.number < length c.series) l) (sym (top_is c k))
    (all_in (λ (p : Pair). p.number < length c.series) (take k (ascending (all_farness c)))
    (λ p first. (own_piece c p
    (has_ascending p (all_farness c) (has_take k p (ascending (all_farness c)) first))).0))
