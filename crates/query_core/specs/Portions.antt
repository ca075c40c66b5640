-- Portions of the leaves, one for each queue: how far the pairs of one reach.
use Rattle.std.specs.Prelude.{◌≡◌, ℕ, ◌+◌, ◌-◌, ◌/◌, ◌%◌, ◌<◌, ◌≤◌, ◌⊎◌, ◌&&◌, Bool, true, false, List, [], ◌∷◌, ◌++◌, Option, None, Some, cond, length, min, nat_eq, nat_lt, slice_get, slice_set}
use Rattle.std.specs.List.{filter, range_with_len}
use Rattle.list_totals.specs.Totals.{times, total}
use Rattle.series_core.specs.Order.{distance_at}
use Rattle.series_core.specs.declared.distance.TheConstants.{NONE}
use Rattle.series_core.specs.declared.pair.Pair.{Pair}
use Rattle.best_word.specs.Passes.{Best, Pass}
use Rattle.best_word.specs.declared.rule.Event.TheVariants.{Read, Offer}
use Rattle.search_machine.specs.Examples.{six_series}
use Rattle.search_machine.specs.Ground.{Ground, plain}
use Rattle.search_machine.specs.Outcome.{is_start}
use Rattle.query_core.specs.Working.{is_marked}

-- the portion to which a leaf belongs: that of its queue, but the start leaf belongs to portion 0
abbrev pub portion_of : Ground → ℕ → ℕ
portion_of g l = cond (is_start g.start l) 0 (l % g.queues)

-- the leaves of portion c
abbrev pub leaves_of : Ground → ℕ → List ℕ
leaves_of g c = filter (λ l. nat_eq (portion_of g l) c) (range_with_len 0 g.leaves)

-- whether series s is a member of one of them
abbrev pub lies_in : Ground → ℕ → ℕ → Bool
lies_in g c s = nat_lt 0 (total (λ (l : ℕ). times s (g.members l)) (leaves_of g c))

-- the pairs of portion c, ascending
abbrev pub portion_pairs : Ground → ℕ → List Pair
portion_pairs g c = filter (λ (p : Pair). lies_in g c p.number) (plain g)

-- how many pairs of each portion are together at least k: k over the number of queues, rounded up
abbrev pub portion_rank : Ground → ℕ
portion_rank g = g.k / g.queues + min 1 (g.k % g.queues)

-- the distance of the pair of that rank in portion c, or NONE where it has fewer
abbrev pub portion_last : Ground → ℕ → ℕ
portion_last g c = distance_at (portion_rank g - 1) (portion_pairs g c)

-- the words that hold the limits of all portions, and what one worker has of them: a pass of each word, the portion whose leaves it
-- scans first, whether it scanned leaves of that portion alone, and the least that it offered, or NONE
pub record Limited : Type 0 where
  pub words : List Best
  pub passes : List Pass
  pub home : ℕ
  pub at_home : Bool
  pub offered : ℕ

-- a pass of this word, by which no offer is below portion c's last distance
abbrev pub IsLimitOf : Ground → ℕ → Best → Pass → Type 0
IsLimitOf g c b p = (p.best ≡ b) × (p.floor ≡ portion_last g c)

-- there is a word for each portion, and a pass of it
pub record AreLimits (g : Ground) (l : Limited) : Type 0 where
  pub words : length l.words ≡ g.queues
  pub passes : length l.passes ≡ g.queues
  pub home : l.home < g.queues
  pub each : (c : ℕ) (b : Best) (p : Pass) → slice_get l.words c ≡ Some b → slice_get l.passes c ≡ Some p → IsLimitOf g c b p

-- all leaves with a mark are of portion c
abbrev pub StayAt : Ground → ℕ → List Bool → Type 0
StayAt g c marks = (l : ℕ) → l < g.leaves → is_marked marks l ≡ true → portion_of g l ≡ c

-- a worker with these marks has the limits of the search's portions, or none
abbrev pub Keeps : Ground → List Bool → Option Limited → Type 0
Keeps g marks None = Unit {0}
Keeps g marks (Some l) = AreLimits g l × (l.at_home ≡ true → StayAt g l.home marks)

-- so where a worker may have limits or none
abbrev pub HasLimits : Ground → Option Limited → Type 0
HasLimits g None = Unit {0}
HasLimits g (Some l) = AreLimits g l

-- after a read at place c the trace of the pass there is the old one with that read, which was answered no more than v
abbrev pub ReadAt : List Pass → List Pass → ℕ → ℕ → Type 0
ReadAt old new v c =
    (p : Pass) → slice_get old c ≡ Some p
    → (u : ℕ) × (u ≤ v) × (slice_get new c ≡ Some (record p { trace = p.trace ++ Read u ∷ [] }))

-- what a worker has after it read its limits, each of them once, none of which is above v
pub record HasRead (g : Ground) (l m : Limited) (v : ℕ) : Type 0 where
  pub limits : AreLimits g m
  pub home : m.home ≡ l.home
  pub at_home : m.at_home ≡ l.at_home
  pub offered : m.offered ≡ l.offered
  pub most : (c : ℕ) → c < g.queues → portion_last g c ≤ v
  pub reads : (c : ℕ) → ReadAt l.passes m.passes v c

-- so where it may have none, which is NONE
abbrev pub IfRead : Ground → Option Limited → Option Limited → ℕ → Type 0
IfRead g (Some l) (Some m) v = HasRead g l m v
IfRead g None None v = v ≡ NONE
IfRead g _ _ v = ⊥

-- where a worker scanned leaves of one portion alone, the last of them too, the pair at this place of its list is a limit for the portion
abbrev pub CanLimit : Ground → ℕ → ℕ → Option Limited → Type 0
CanLimit g portion v None = Unit {0}
CanLimit g portion v (Some l) =
    AreLimits g l × (l.at_home ≡ true → l.home ≡ portion → portion_last g portion ≤ v)

-- after an offer of v at place c the trace of the pass there is the old one with that offer, and the other passes are as they were
abbrev pub OfferedAt : List Pass → List Pass → ℕ → ℕ → Type 0
OfferedAt old new v c =
    (p : Pass) × (u : ℕ) × (slice_get old c ≡ Some p)
    × (new ≡ slice_set old c (record p { trace = p.trace ++ Offer v u ∷ [] }))

-- what a worker has after it scanned one more leaf, of this portion, after which a pair of its list is at this distance: it offers the
-- distance where it stays in its portion and has offered none as near, and makes no call else
pub record HasScanned (g : Ground) (portion distance : ℕ) (l m : Limited) : Type 0 where
  pub limits : AreLimits g m
  pub home : m.home ≡ l.home
  pub at_home : m.at_home ≡ (l.at_home && nat_eq l.home portion)
  pub offers : m.at_home ≡ true → distance < l.offered → OfferedAt l.passes m.passes distance l.home × (m.offered ≡ distance)
  pub rests : (m.at_home ≡ false) ⊎ (l.offered ≤ distance) → (m.passes ≡ l.passes) × (m.offered ≡ l.offered)

abbrev pub IfScanned : Ground → ℕ → ℕ → Option Limited → Option Limited → Type 0
IfScanned g portion distance (Some l) (Some m) = HasScanned g portion distance l m
IfScanned g portion distance None None = Unit {0}
IfScanned g portion distance _ _ = ⊥

-- the search of the k nearest of six series, by one worker over two queues
abbrev pub nearest_of_six : ℕ → Ground
nearest_of_six k = record six_series { k = k }
