-- Four small searches with their schedules, and what they end with: so the definitions are not
-- empty.
use Rattle.std.specs.Prelude.{ℕ, zero, suc, List, [], ◌∷◌, ◌++◌, None, Some, cond, nat_lt, replicate, slice_get, unwrap_or}
use Rattle.series_core.specs.declared.pair.Pair.{Pair}
use Rattle.series_core.specs.declared.queue_words.Entry.{Entry}
use Rattle.series_core.specs.declared.distance.TheConstants.{NONE}
use Rattle.series_core.specs.declared.queue_words.PutReply.TheVariants.{Placed}
use Rattle.series_core.specs.declared.queue_words.PopReply.TheVariants.{Leaf, Closed}
use Rattle.leaf_queues.specs.PlainQueue.{PlainQueue}
use Rattle.search_machine.specs.declared.calls.Reply.{Reply}
use Rattle.search_machine.specs.declared.calls.Reply.TheVariants.{Claimed, Seen, PutTold, PopTold}
use Rattle.search_machine.specs.declared.phase.Phase.{Phase}
use Rattle.search_machine.specs.declared.phase.Phase.TheVariants.{Claim, Look, Give, Aim, Pop, Done}
use Rattle.search_machine.specs.declared.outcome.Fate.TheVariants.{Start as StartFate, Queue as QueueFate, Late as LateFate, Bound as BoundFate}
use Rattle.search_machine.specs.declared.outcome.QueueLine.{QueueLine}
use Rattle.search_machine.specs.declared.outcome.Outcome.{Outcome}
use Rattle.search_machine.specs.Ground.{Ground, enough_turns}
use Rattle.search_machine.specs.Workers.{leader}
use Rattle.search_machine.specs.OwnRecord.{RecordedWorker, nothing_yet}

-- the search for the k nearest of n series, each the one member of a leaf, with these distances, members, bounds and root children, from
-- this start leaf, over `queues` queues by `workers` workers
abbrev pub one_each : ℕ → ℕ → (ℕ → ℕ) → (ℕ → List ℕ) → (ℕ → ℕ) → List (List ℕ) → ℕ → ℕ → ℕ → Ground
one_each n k distance members bound roots start queues workers = record {
  distance = distance;
  count = n;
  k = k;
  leaves = n;
  members = members;
  bound = bound;
  roots = roots;
  start = Some start;
  queues = queues;
  workers = workers;
}

-- Two series of one point, -1 and 1, and the query 0: each is 1 away, and each has a leaf of its
-- own.

-- the members of the two leaves
abbrev pub two_members : ℕ → List ℕ
two_members zero = 0 ∷ []
two_members (suc zero) = 1 ∷ []
two_members (suc (suc l)) = []

-- their bounds: leaf 0 reaches from below up to -1, and the query lies in leaf 1
abbrev pub two_bounds : ℕ → ℕ
two_bounds zero = 1
two_bounds (suc l) = 0

-- the search of the nearest series with one queue and `workers` workers; leaf 1 is the start leaf
abbrev pub two_series : ℕ → Ground
two_series workers = one_each 2 1 (λ s. 1) two_members two_bounds ((0 ∷ []) ∷ (1 ∷ []) ∷ []) 1 1 workers

-- one worker: its phase as it opens and after each of eleven turns. It puts leaf 0, since 1 is not
-- above 1, and scans it after a pop; it makes no offer, since the distance did not fall
abbrev pub eleven_phases : List (List Phase)
eleven_phases =
    (Claim ∷ []) ∷ (Look ∷ []) ∷ (Give 0 ∷ []) ∷ (Look ∷ []) ∷ (Claim ∷ []) ∷ (Look ∷ [])
    ∷ (Claim ∷ []) ∷ (Aim 0 ∷ []) ∷ (Pop 0 1 ∷ []) ∷ (Aim 0 ∷ []) ∷ (Pop 0 1 ∷ []) ∷ (Done ∷ [])
    ∷ []

-- a pair with this distance and number
abbrev pub pair : ℕ → ℕ → Pair
pair distance number = record { distance = distance; number = number }

-- an entry with this bound and leaf
abbrev pub entry : ℕ → ℕ → Entry
entry bound leaf = record { bound = bound; leaf = leaf }

-- the line of a queue
abbrev pub line : List Entry → ℕ → QueueLine
line taken kept = record { taken = taken; kept = kept }

-- so it ends: of two series as near, the one with the smaller number
abbrev pub eleven_outcome : Outcome
eleven_outcome = record {
  pairs = pair 1 0 ∷ [];
  start = Some (record { leaf = 1; limit = 1 });
  lines = line (entry 1 0 ∷ []) 1 ∷ [];
  fates = QueueFate 0 ∷ StartFate ∷ [];
}

-- the replies to the eleven calls: both root children are claimed, leaf 0 is put, popped and scanned,
-- and the queue is shut
abbrev pub eleven_replies : List Reply
eleven_replies =
    Claimed (Some 0) ∷ Seen 1 ∷ PutTold Placed ∷ Seen 1 ∷ Claimed (Some 1) ∷ Seen 1 ∷ Claimed None
    ∷ Seen 1 ∷ PopTold (Leaf (entry 1 0)) ∷ Seen 1 ∷ PopTold (Closed 1) ∷ []

-- the worker as it opens, with no record yet
abbrev pub eleven_opening : RecordedWorker
eleven_opening = record { worker = leader (two_series 1); own = nothing_yet }

-- the worker after them, with its record
abbrev pub eleven_member : RecordedWorker
eleven_member = record {
  worker = record { phase = Done; rest = []; list = pair 1 0 ∷ []; scanned = 0 ∷ 1 ∷ [] };
  own = record {
    claims = None ∷ Some 1 ∷ Some 0 ∷ [];
    reads = 1 ∷ 1 ∷ 1 ∷ 1 ∷ 1 ∷ [];
    offers = [];
    puts = record { queue = 0; entry = entry 1 0; reply = Placed } ∷ [];
    pops =
        record { queue = 0; limit = 1; reply = Closed 1 }
        ∷ record { queue = 0; limit = 1; reply = Leaf (entry 1 0) } ∷ [];
  };
}

-- the queue as it is closed
abbrev pub eleven_queue : PlainQueue
eleven_queue = record {
  waiting = [];
  taken = entry 1 0 ∷ [];
  placed = 1;
  capacity = 2;
  kept = Some 1;
}

-- two workers: worker 1 shuts the empty queue before worker 0 puts leaf 0, and worker 0 scans the
-- leaf itself; the last turn falls on a worker that is done
abbrev pub late_schedule : List ℕ
late_schedule = replicate 2 0 ++ replicate 5 1 ++ replicate 7 0

-- so it ends
abbrev pub late_outcome : Outcome
late_outcome = record {
  pairs = pair 1 0 ∷ [];
  start = Some (record { leaf = 1; limit = 1 });
  lines = line [] 1 ∷ [];
  fates = LateFate 0 ∷ StartFate ∷ [];
}

-- Three series of two points, (0, 0), (0, 20000) and (300, 0), the query (0, 0), and leaves of one
-- member below one root child.

-- the distances
abbrev pub three_distances : ℕ → ℕ
three_distances zero = 0
three_distances (suc zero) = 400000000
three_distances (suc (suc s)) = 90000

-- the members of the three leaves
abbrev pub three_members : ℕ → List ℕ
three_members zero = 0 ∷ []
three_members (suc zero) = 2 ∷ []
three_members (suc (suc zero)) = 1 ∷ []
three_members (suc (suc (suc l))) = []

-- their bounds
abbrev pub three_bounds : ℕ → ℕ
three_bounds zero = 0
three_bounds (suc zero) = 65536
three_bounds (suc (suc l)) = 268435456

-- the search of the three nearest with three workers and two queues; leaf 0 is the start leaf
abbrev pub three_series : Ground
three_series = one_each 3 3 three_distances three_members three_bounds ((0 ∷ 1 ∷ 2 ∷ []) ∷ []) 0 2 3

-- workers 1 and 2 shut both queues before worker 0 makes its first put; each then has as many turns
-- as are always enough
abbrev pub shut_schedule : List ℕ
shut_schedule = replicate 2 0 ++ replicate 39 1 ++ replicate 39 2 ++ replicate 39 0

-- so it ends: with fewer than k members in the start leaf there is no limit, and every leaf is
-- scanned
abbrev pub shut_outcome : Outcome
shut_outcome = record {
  pairs = pair 0 0 ∷ pair 90000 2 ∷ pair 400000000 1 ∷ [];
  start = Some (record { leaf = 0; limit = NONE });
  lines = line [] NONE ∷ line [] NONE ∷ [];
  fates = StartFate ∷ LateFate 0 ∷ LateFate 0 ∷ [];
}

-- Six series, each the one member of the leaf with its number, below two root children.

-- the distances
abbrev pub six_distances : ℕ → ℕ
six_distances s = unwrap_or (slice_get (9 ∷ 6 ∷ 6 ∷ 5 ∷ 7 ∷ []) s) 12

-- the members of the six leaves
abbrev pub six_members : ℕ → List ℕ
six_members l = cond (nat_lt l 6) (l ∷ []) []

-- their bounds
abbrev pub six_bounds : ℕ → ℕ
six_bounds l = unwrap_or (slice_get (0 ∷ 4 ∷ 6 ∷ 5 ∷ 7 ∷ []) l) 10

-- the search of the nearest with one worker and two queues; leaf 0 is the start leaf
abbrev pub six_series : Ground
six_series = one_each 6 1 six_distances six_members six_bounds ((0 ∷ 1 ∷ 2 ∷ []) ∷ (3 ∷ 4 ∷ 5 ∷ []) ∷ []) 0 2 1

-- as many turns as are always enough
abbrev pub six_schedule : List ℕ
six_schedule = replicate (enough_turns six_series) 0

-- what waits at the end: leaf 4 in queue 0
abbrev pub six_waiting : List (List Entry)
six_waiting = (entry 7 4 ∷ []) ∷ [] ∷ []

-- what the worker scanned, the newest first and the start leaf last
abbrev pub six_scanned : List (List ℕ)
six_scanned = (3 ∷ 1 ∷ 2 ∷ 0 ∷ []) ∷ []

-- so it ends: leaf 5 is cut, since 10 is above 9; leaf 2 lowers the limit to 6, so queue 0 is shut
-- while leaf 4 waits in it; queue 1 gives leaf 1, which was put first, and then leaf 3
abbrev pub six_outcome : Outcome
six_outcome = record {
  pairs = pair 5 3 ∷ [];
  start = Some (record { leaf = 0; limit = 9 });
  lines = line (entry 6 2 ∷ []) 6 ∷ line (entry 4 1 ∷ entry 5 3 ∷ []) 5 ∷ [];
  fates = StartFate ∷ QueueFate 1 ∷ QueueFate 0 ∷ QueueFate 1 ∷ BoundFate 7 ∷ BoundFate 10 ∷ [];
}
