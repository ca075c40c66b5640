-- What a search stands on: distances, leaves, root children and the start, with no tree and no
-- file.
use Rattle.std.specs.Prelude.{◌≡◌, ℕ, zero, suc, ◌+◌, ◌-◌, ◌*◌, ◌%◌, ◌<◌, ◌≤◌, List, [], ◌∷◌, ◌++◌, Option, None, Some, cond, map, nat_le, length, slice_get}
use Rattle.std.specs.List.{filter}
use Rattle.list_totals.specs.Totals.{total, times}
use Rattle.series_core.specs.Pairs.{rank_of, ascending, smallest}
use Rattle.series_core.specs.Order.{distance_at}
use Rattle.series_core.specs.declared.pair.Pair.{Pair}
use Rattle.series_core.specs.declared.queue_words.Entry.{Entry}
use Rattle.series_core.specs.declared.distance.TheConstants.{NONE}

-- the distance of each series by its number, and how many series there are; how many pairs are
-- asked for; how many leaves there are, and the members and the lower bound of each; for each root
-- child the leaves below it, in order; the start leaf; how many queues and how many workers there
-- are
pub record Ground : Type 0 where
  pub distance : ℕ → ℕ
  pub count : ℕ
  pub k : ℕ
  pub leaves : ℕ
  pub members : ℕ → List ℕ
  pub bound : ℕ → ℕ
  pub roots : List (List ℕ)
  pub start : Option ℕ
  pub queues : ℕ
  pub workers : ℕ

-- the pair of series s
abbrev pub pair_of : Ground → ℕ → Pair
pair_of g s = record { distance = g.distance s; number = s }

-- the pairs of these series
abbrev pub pairs_of : Ground → List ℕ → List Pair
pairs_of g ss = map (pair_of g) ss

-- the pairs of n series, where the first of them has number s
abbrev pub pairs_from : Ground → ℕ → ℕ → List Pair
pairs_from g s zero = []
pairs_from g s (suc n) = pair_of g s ∷ pairs_from g (s + 1) n

-- the pair of each series
abbrev pub pairs : Ground → List Pair
pairs g = pairs_from g 0 g.count

-- the plain list: the pair of each series, ascending
abbrev pub plain : Ground → List Pair
plain g = ascending (pairs g)

-- the answer: the k smallest pairs of all series, ascending
abbrev pub answer : Ground → List Pair
answer g = smallest g.k (pairs g)

-- the distance of the k-th pair of a list, or NONE where it has fewer than k
abbrev pub worst : Ground → List Pair → ℕ
worst g ps = distance_at (g.k - 1) ps

-- the last distance: that of the pair of rank k, or NONE where there are fewer than k series
abbrev pub last : Ground → ℕ
last g = worst g (plain g)

-- the pairs of these series with a distance of at most v
abbrev pub near : Ground → ℕ → List ℕ → List Pair
near g v ss = filter (λ p. nat_le p.distance v) (pairs_of g ss)

-- what a scan of these members with the limit v makes of a list: the k smallest of its pairs and of
-- the members' pairs with a distance of at most v
abbrev pub scan : Ground → ℕ → List ℕ → List Pair → List Pair
scan g v ss ps = smallest g.k (near g v ss ++ ps)

-- a list after one more member was met with the limit v: its pair is added where it is within v
abbrev pub scan_one : Ground → ℕ → ℕ → List Pair → List Pair
scan_one g v s ps = cond (nat_le (g.distance s) v) (smallest g.k (pair_of g s ∷ ps)) ps

-- a list of pairs in order, no more than k
pub record ShortList (g : Ground) (ps : List Pair) : Type 0 where
  pub order : ascending ps ≡ ps
  pub size : length ps ≤ g.k

-- the k smallest pairs of a start leaf's members; nothing where there is no start leaf
abbrev pub opening_of : Ground → Option ℕ → List Pair
opening_of g None = []
opening_of g (Some l) = smallest g.k (pairs_of g (g.members l))

-- the list with which worker 0 opens
abbrev pub opening : Ground → List Pair
opening g = opening_of g g.start

-- the starting limit: the distance of the k-th pair of the start leaf's members, or NONE where it
-- has fewer than k, or where there is no start leaf
abbrev pub start_limit : Ground → ℕ
start_limit g = worst g (opening g)

-- the pair of a series that n pairs are smaller than, where n is below k
pub record HasRank (g : Ground) (n : ℕ) (p : Pair) : Type 0 where
  pub below : n < g.k
  pub series : p.number < g.count
  pub pair : p ≡ pair_of g p.number
  pub rank : rank_of (pairs g) p ≡ n

-- the queue to which leaf l belongs
abbrev pub queue_of : Ground → ℕ → ℕ
queue_of g l = l % g.queues

-- the entry of leaf l: its lower bound and its number
abbrev pub entry_of : Ground → ℕ → Entry
entry_of g l = record { bound = g.bound l; leaf = l }

-- how many turns of each worker are enough
abbrev pub enough_turns : Ground → ℕ
enough_turns g = 8 * g.leaves + g.workers + 2 * g.workers * g.queues

-- the same search by n workers
abbrev pub with_workers : ℕ → Ground → Ground
with_workers n g = record g { workers = n }

-- what an index that fits the collection gives, and the conditions of a search
pub record Fits (g : Ground) : Type 0 where
  -- at least one pair is asked for, and there are a queue and a worker
  pub some_rank : 0 < g.k
  pub some_queue : 0 < g.queues
  pub some_worker : 0 < g.workers
  -- NONE is above every distance
  pub distance_limit : (s : ℕ) → s < g.count → g.distance s ≤ NONE
  -- each member is a series, each series is a member of some leaf, of that leaf alone, and once
  pub member_real : (l s : ℕ) → l < g.leaves → 0 < times s (g.members l) → s < g.count
  pub has_home : (s : ℕ) → s < g.count → (l : ℕ) × (l < g.leaves) × (0 < times s (g.members l))
  pub one_home : (l m s : ℕ) → 0 < times s (g.members l) → 0 < times s (g.members m) → l ≡ m
  pub home_once : (l s : ℕ) → times s (g.members l) ≤ 1
  -- a leaf's lower bound is at most the distance of each of its members
  pub bound_low : (l s : ℕ) → l < g.leaves → 0 < times s (g.members l) → g.bound l ≤ g.distance s
  -- each leaf is below some root child, once; what is below one is a leaf, and each has some
  pub below_root : (l : ℕ) → l < g.leaves → 0 < total (times l) g.roots
  pub below_once : (l : ℕ) → total (times l) g.roots ≤ 1
  pub below_real : (l : ℕ) → 0 < total (times l) g.roots → l < g.leaves
  pub some_leaf : (c : ℕ) (ls : List ℕ) → slice_get g.roots c ≡ Some ls → 0 < length ls
  -- the start leaf is a leaf
  pub start_real : (l : ℕ) → g.start ≡ Some l → l < g.leaves
