-- The lists of workers that scanned different leaves have no pair in common, and are a pool.
use Rattle.std.proofs.Common.{List, Some, [], ap, arith, inl, inr, refl, subst, suc, sym, zero, ℕ, ⊎_elim, ◌∷◌, ◌≡◌, ◌≤◌}
use Rattle.std.proofs.lemmas.Option.{none-some, same_Some}
use Rattle.std.specs.Prelude.{slice_get}
use Rattle.list_totals.specs.Totals.{times, total}
use Rattle.list_totals.specs.Standing.{In}
use Rattle.series_core.specs.Order.{Ascending}
use Rattle.series_core.specs.Pairs.{ascending}
use Rattle.series_core.specs.declared.pair.Pair.{Pair}
use Rattle.list_totals.proofs.Standing.{in_append}
use Rattle.search_machine.specs.Ground.{Fits, Ground}
use Rattle.search_machine.specs.Workers.{Worker}
use Rattle.search_machine.specs.Outcome.{all_pairs}
use Rattle.search_machine.specs.Sound.{ListSound, scans}
use Rattle.search_machine.proofs.Places.{total_at}
use Rattle.search_machine.proofs.Pools.{Apart, Pool, ascending_joined, has_either}

-- what stands in all lists stands in that of some worker
pub all_from : (ws : List Worker) (p : Pair) → In p (all_pairs ws)
    → (i : ℕ) × (w : Worker) × (slice_get ws i ≡ Some w) × In p w.list
all_from [] p h = absurd h
all_from (w ∷ ws) p h = ⊎_elim
    (λ (t : In p w.list). (0, w, refl, t))
    (λ (t : In p (all_pairs ws)). let f = all_from ws p t in (suc f.0, f.1, f.2, f.3))
    (in_append p w.list (all_pairs ws) h)

-- what stands in a worker's list stands in all lists
pub all_has : (ws : List Worker) (i : ℕ) (w : Worker) (p : Pair) → slice_get ws i ≡ Some w
    → In p w.list → In p (all_pairs ws)
all_has [] i w p e h = absurd (none-some w e)
all_has (x ∷ xs) zero w p e h =
    has_either p x.list (all_pairs xs)
    (inl (subst (λ (y : Worker). In p y.list) (sym (same_Some x w e)) h))
all_has (x ∷ xs) (suc i) w p e h =
    has_either p x.list (all_pairs xs) (inr (all_has xs i w p e h))

-- workers with sound lists, no two of which scanned one leaf
pub record Scanners (g : Ground) (ws : List Worker) : Type 0 where
  pub lists : (i : ℕ) (w : Worker) → slice_get ws i ≡ Some w → ListSound g w.scanned w.list
  pub once : (l : ℕ) → total (scans l) ws ≤ 1

-- the first worker's list has no pair of the other workers' lists
first_apart : (g : Ground) → Fits g → (w : Worker) (ws : List Worker) → Scanners g (w ∷ ws)
    → Apart w.list (all_pairs ws)
first_apart g fits w ws s p h i =
    let mine = s.lists 0 w refl in
    let other = all_from ws p i in
    let a = mine.from p h in
    let b = (s.lists (suc other.0) other.1 other.2).from p other.3 in
    let same = fits.one_home a.0 b.0 p.number a.2 b.2 in
    let there = total_at (scans b.0) ws other.0 other.1 other.2 in
    let most = s.once b.0 in
    let marks = ap (λ (n : ℕ). times n w.scanned) same in
    let some_here = a.1 in
    let some_there = b.1 in
    omega arith

-- the other workers alone
others : (g : Ground) (w : Worker) (ws : List Worker) → Scanners g (w ∷ ws) → Scanners g ws
others g w ws s = record {
  lists = λ i x e. s.lists (suc i) x e;
  once = λ l. let a = s.once l in omega arith;
}

-- their lists together have no pair twice
different_all : (g : Ground) → Fits g → (ws : List Worker) → Scanners g ws
    → Ascending (ascending (all_pairs ws))
different_all g fits [] s = tt
different_all g fits (w ∷ ws) s =
    ascending_joined w.list (all_pairs ws) (s.lists 0 w refl).ascending
    (different_all g fits ws (others g w ws s)) (first_apart g fits w ws s)

-- their lists together are a pool
pub all_pool : (g : Ground) → Fits g → (ws : List Worker) → Scanners g ws → Pool g (all_pairs ws)
all_pool g fits ws s = record {
  different = different_all g fits ws s;
  known = λ p h. let f = all_from ws p h in (s.lists f.0 f.1 f.2).known p f.3;
}
