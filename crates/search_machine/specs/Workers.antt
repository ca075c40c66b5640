-- A worker, and what it becomes in each phase by the reply to its call.
use Rattle.std.specs.Prelude.{ℕ, suc, ◌+◌, ◌%◌, List, [], ◌∷◌, Option, None, Some, Bool, true, false, cond, not, ◌&&◌, nat_lt, nat_le, nat_eq, length, slice_get}
use Rattle.std.specs.List.{filter}
use Rattle.list_totals.specs.Totals.{times}
use Rattle.series_core.specs.declared.pair.Pair.{Pair}
use Rattle.series_core.specs.declared.queue_words.PutReply.{PutReply}
use Rattle.series_core.specs.declared.queue_words.PutReply.TheVariants.{Placed, Shut, Filled}
use Rattle.series_core.specs.declared.queue_words.PopReply.{PopReply}
use Rattle.series_core.specs.declared.queue_words.PopReply.TheVariants.{Leaf, Closed}
use Rattle.search_machine.specs.declared.calls.Reply.{Reply}
use Rattle.search_machine.specs.declared.calls.Reply.TheVariants.{Claimed, Seen, Offered, PutTold, PopTold}
use Rattle.search_machine.specs.declared.phase.Phase.{Phase}
use Rattle.search_machine.specs.declared.phase.Phase.TheVariants.{Claim, Look, Give, Late, Aim, Pop, Offer, Done}
use Rattle.search_machine.specs.declared.phase.Onward.{Onward}
use Rattle.search_machine.specs.declared.phase.Onward.TheVariants.{Look as ToLook, Aim as ToAim}
use Rattle.search_machine.specs.Ground.{Ground, worst, scan, opening}

-- a worker: its phase, the leaves of its root child that it has still to look at, its list, and the
-- leaves that it scanned
pub record Worker : Type 0 where
  pub phase : Phase
  pub rest : List ℕ
  pub list : List Pair
  pub scanned : List ℕ

-- the queue at place j of worker i's round: it begins at the queue of its own number
abbrev pub round_queue : Ground → ℕ → ℕ → ℕ
round_queue g i j = (i + j) % g.queues

-- the worker in another phase
abbrev pub in_phase : Phase → Worker → Worker
in_phase phase w = record w { phase = phase }

-- the leaves without the start leaf
abbrev pub without : Option ℕ → List ℕ → List ℕ
without None ls = ls
without (Some m) ls = filter (λ l. not (nat_eq l m)) ls

-- what is left where the leaves at the front whose bound is above v are dropped
abbrev pub skip : Ground → ℕ → List ℕ → List ℕ
skip g v [] = []
skip g v (l ∷ ls) = cond (nat_lt v (g.bound l)) (skip g v ls) (l ∷ ls)

-- after a claim: the rest is the leaves below the root child, in order, without the start leaf;
-- with no root child left, the worker aims at the first queue of its round
abbrev pub after_claim : Ground → Worker → Option (List ℕ) → Worker
after_claim g w None = in_phase (Aim 0) w
after_claim g w (Some ls) = record w { phase = Look; rest = without g.start ls }

-- the first of the leaves that are left leaves the rest and is given; with none left, the worker
-- claims again
abbrev pub stopped : Worker → List ℕ → Worker
stopped w [] = record w { phase = Claim; rest = [] }
stopped w (l ∷ ls) = record w { phase = Give l; rest = ls }

-- after a read of v in Look: the leaves at the front whose bound is above v are cut
abbrev pub after_look : Ground → Worker → ℕ → Worker
after_look g w v = stopped w (skip g v w.rest)

-- after a put of leaf l: where it was placed, the worker looks on; where it was refused, the leaf
-- stays in its hand
abbrev pub after_put : Worker → ℕ → PutReply → Worker
after_put w l Placed = in_phase Look w
after_put w l (Shut v) = in_phase (Late l) w
after_put w l (Filled c) = in_phase (Late l) w

-- where the worker goes on
abbrev pub onward : Onward → Phase
onward ToLook = Look
onward (ToAim j) = Aim j

-- the list holds k pairs, and the k-th is nearer than v
abbrev pub improves : Ground → List Pair → ℕ → Bool
improves g ps v = nat_le g.k (length ps) && nat_lt (worst g ps) v

-- the phase after a scan with v: an offer where the list improves on v, and else onward
abbrev pub after_scan : Ground → List Pair → ℕ → Onward → Phase
after_scan g ps v next = cond (improves g ps v) (Offer next) (onward next)

-- after a scan of leaf l with the limit v
abbrev pub scanned_by : Ground → Worker → ℕ → ℕ → Onward → Worker
scanned_by g w l v next = record w {
  phase = after_scan g (scan g v (g.members l) w.list) v next;
  list = scan g v (g.members l) w.list;
  scanned = l ∷ w.scanned;
}

-- the worker has not scanned the leaf
abbrev pub is_new : ℕ → Worker → Bool
is_new l w = nat_eq (times l w.scanned) 0

-- after a read of v in Late: a leaf whose bound is above v is cut, and one that this worker has
-- scanned is passed over; any other is scanned with v
abbrev pub after_late : Ground → Worker → ℕ → ℕ → Worker
after_late g w l v =
    cond (is_new l w && nat_le (g.bound l) v) (scanned_by g w l v ToLook) (in_phase Look w)

-- after a pop with v at place j of the round: a leaf is scanned with v, but a number that is no
-- leaf or a leaf that this worker has scanned is passed over; where the queue is closed, the worker
-- aims at the next queue of its round, and is done after the last
abbrev pub after_pop : Ground → Worker → ℕ → ℕ → PopReply → Worker
after_pop g w j v (Leaf e) =
    cond (is_new e.leaf w && nat_lt e.leaf g.leaves)
    (scanned_by g w e.leaf v (ToAim j))
    (in_phase (Aim j) w)
after_pop g w j v (Closed kept) =
    cond (nat_lt (suc j) g.queues) (in_phase (Aim (suc j)) w) (in_phase Done w)

-- the leaves below the root child that was claimed
abbrev pub leaves_below : Ground → Option ℕ → Option (List ℕ)
leaves_below g None = None
leaves_below g (Some c) = slice_get g.roots c

-- after this reply in this phase; a reply to another call than that of the phase changes nothing
abbrev pub after_reply : Ground → Worker → Phase → Reply → Worker
after_reply g w Claim (Claimed o) = after_claim g w (leaves_below g o)
after_reply g w Look (Seen v) = after_look g w v
after_reply g w (Give l) (PutTold reply) = after_put w l reply
after_reply g w (Late l) (Seen v) = after_late g w l v
after_reply g w (Aim j) (Seen v) = in_phase (Pop j v) w
after_reply g w (Pop j v) (PopTold reply) = after_pop g w j v reply
after_reply g w (Offer next) (Offered v) = in_phase (onward next) w
after_reply g w _ _ = w

-- a worker in this phase has not ended its fill part
abbrev pub fills : Phase → Bool
fills Claim = true
fills Look = true
fills (Give l) = true
fills (Late l) = true
fills (Aim j) = false
fills (Pop j v) = false
fills (Offer ToLook) = true
fills (Offer (ToAim j)) = false
fills Done = false

-- a worker that has done nothing
abbrev pub idle : Worker
idle = record { phase = Claim; rest = []; list = []; scanned = [] }

-- the start leaf as a list of one; empty where there is none
abbrev pub start_list : Option ℕ → List ℕ
start_list None = []
start_list (Some l) = l ∷ []

-- worker 0 as it opens: it has the start leaf's pairs, and has scanned the start leaf
abbrev pub leader : Ground → Worker
leader g = record { phase = Claim; rest = []; list = opening g; scanned = start_list g.start }
