-- The plain list: the pair of each series, once, ascending; and how far a part of it reaches.
use Rattle.std.proofs.Common.{List, ap, arith, inl, inr, subst, suc, sym, take, zero, ℕ, ⊎_elim, ◌+◌, ◌-◌, ◌<◌, ◌∙◌, ◌≡◌, ◌≤◌}
use Rattle.std.proofs.lemmas.Bool.{cases_eq}
use Rattle.series_core.proofs.Parts.{ascending_insert, distance_last, distance_part, distance_small}
use Rattle.series_core.proofs.Plain.{ascending_has, has_ascending}
use Rattle.list_totals.specs.Standing.{In}
use Rattle.series_core.specs.Order.{AllNear, Among, Ascending}
use Rattle.series_core.specs.Pairs.{ascending}
use Rattle.series_core.specs.declared.distance.TheConstants.{NONE}
use Rattle.series_core.specs.declared.pair.Pair.{Pair}
use Rattle.search_machine.specs.Ground.{Fits, Ground, answer, last, pair_of, pairs, pairs_from, plain, worst}

-- the pairs of n series from number s on have these numbers, and are those of their series
from_has : (g : Ground) (s n : ℕ) (p : Pair) → In p (pairs_from g s n)
    → (s ≤ p.number) × (p.number < s + n) × (p ≡ pair_of g p.number)
from_has g s zero p h = absurd h
from_has g s (suc n) p h = ⊎_elim
    (λ (e : p ≡ pair_of g s).
    let number : p.number ≡ s = ap (λ (q : Pair). q.number) e in
    (omega arith, omega arith, e ∙ ap (pair_of g) (sym number)))
    (λ (t : In p (pairs_from g (s + 1) n)).
    let r = from_has g (s + 1) n p t in
    let low = r.0 in
    let high = r.1 in
    (omega arith, omega arith, r.2))
    h

-- each of these series has its pair there
has_from : (g : Ground) (s n t : ℕ) → s ≤ t → t < s + n → In (pair_of g t) (pairs_from g s n)
has_from g s zero t low high = absurd (omega arith)
has_from g s (suc n) t low high = ⊎_elim
    (λ (e : t ≡ s). inl (ap (pair_of g) e))
    (λ (ne : t ≡ s → ⊥). inr (has_from g (s + 1) n t (omega arith) (omega arith)))
    (cases_eq t s)

-- put into order, they ascend strictly
ascending_from : (g : Ground) (s n : ℕ) → Ascending (ascending (pairs_from g s n))
ascending_from g s zero = tt
ascending_from g s (suc n) =
    ascending_insert (pair_of g s) (ascending (pairs_from g (s + 1) n)) new
    (ascending_from g (s + 1) n)
  where
    new : In (pair_of g s) (ascending (pairs_from g (s + 1) n)) → ⊥
    new h =
        let r = from_has g (s + 1) n (pair_of g s)
        (has_ascending (pair_of g s) (pairs_from g (s + 1) n) h)
        in
        let low = r.0 in
        omega arith

-- a pair of all pairs is that of its series
pub pairs_has : (g : Ground) (p : Pair) → In p (pairs g)
    → (p.number < g.count) × (p ≡ pair_of g p.number)
pairs_has g p h =
    let r = from_has g 0 g.count p h in let low = r.1 in (omega arith, r.2)

-- a pair of the plain list is that of its series
pub plain_has : (g : Ground) (p : Pair) → In p (plain g)
    → (p.number < g.count) × (p ≡ pair_of g p.number)
plain_has g p h = pairs_has g p (has_ascending p (pairs g) h)

-- each series has its pair in the plain list
pub has_plain : (g : Ground) (s : ℕ) → s < g.count → In (pair_of g s) (plain g)
has_plain g s h =
    ascending_has (pair_of g s) (pairs g) (has_from g 0 g.count s (omega arith) (omega arith))

-- the plain list ascends
pub ascending_plain : (g : Ground) → Ascending (plain g)
ascending_plain g = ascending_from g 0 g.count

-- no distance of the plain list is above NONE
pub near_plain : (g : Ground) → Fits g → AllNear (plain g)
near_plain g fits p h =
    let r = plain_has g p h in
    let e : p.distance ≡ g.distance p.number = ap (λ (q : Pair). q.distance) r.1 in
    let most = fits.distance_limit p.number r.0 in
    omega arith

-- a list of pairs of the plain list, in order
pub record Known (g : Ground) (ps : List Pair) : Type 0 where
  pub ascending : Ascending ps
  pub known : Among ps (plain g)

-- no pair of the answer is farther than the last distance
pub answer_near : (g : Ground) → Fits g → (p : Pair) → In p (answer g) → p.distance ≤ last g
answer_near g fits p h =
    let ranks = fits.some_rank in
    let e : g.k ≡ suc (g.k - 1) = omega arith in
    distance_last (g.k - 1) (plain g) (ascending_plain g) (near_plain g fits) p
    (subst (λ (n : ℕ). In p (take n (plain g))) e h)

-- the distance of rank k of a part of the plain list is at least the last distance
pub last_worst : (g : Ground) → Fits g → (ps : List Pair) → Known g ps → last g ≤ worst g ps
last_worst g fits ps k =
    distance_part (g.k - 1) ps (plain g) k.ascending (ascending_plain g) (near_plain g fits) k.known

-- the last distance is at most NONE
pub last_none : (g : Ground) → Fits g → last g ≤ NONE
last_none g fits = distance_small (g.k - 1) (plain g) (near_plain g fits)
