-- A turn written out by its phase, as plain steps on the state: it is the machine's turn
-- (`row_is`), where each round has its queues.
use Rattle.std.proofs.Common.{List, None, Option, Some, ap, arith, length, ltb, min, refl, set, suc, sym, ℕ, ◌<◌, ◌≡◌, ◌≢◌, ◌≤◌}
use Rattle.std.proofs.lemmas.Bool.{cond_both, ltb-false, ltb-true}
use Rattle.std.proofs.lemmas.Option.{slice_get_within}
use Rattle.std.specs.Prelude.{slice_get}
use Rattle.series_core.specs.declared.queue_words.PutReply.{PutReply}
use Rattle.series_core.specs.declared.queue_words.PopReply.{PopReply}
use Rattle.leaf_queues.specs.PlainQueue.{PlainQueue, pop, put}
use Rattle.search_machine.specs.declared.calls.Reply.{Reply}
use Rattle.search_machine.specs.declared.calls.Reply.TheVariants.{Claimed}
use Rattle.search_machine.specs.declared.phase.Phase.{Phase}
use Rattle.search_machine.specs.declared.phase.Phase.TheVariants.{Aim, Claim, Done, Give, Late, Look, Offer, Pop}
use Rattle.search_machine.specs.declared.phase.Onward.{Onward}
use Rattle.search_machine.specs.Ground.{Ground, entry_of, queue_of, worst}
use Rattle.search_machine.specs.Workers.{Worker, after_claim, after_late, after_look, after_pop, after_put, in_phase, onward, round_queue}
use Rattle.search_machine.specs.Calls.{call_in}
use Rattle.search_machine.specs.Shared.{Held, held_after, pop_from, put_into}
use Rattle.search_machine.specs.Machine.{State, answered, shared, state_of, turn_by_phase}
use Rattle.search_machine.proofs.Places.{get_none}

-- the state in which worker i is w
abbrev pub with_worker : ℕ → Worker → State → State
with_worker i w s = record s { workers = set s.workers i w }

-- the state in which queue m is q and worker i is w
abbrev pub with_queue : ℕ → PlainQueue → ℕ → Worker → State → State
with_queue m q i w s = record s { queues = set s.queues m q; workers = set s.workers i w }

-- Claim: the next root child, where there is one, is claimed
abbrev pub claim_turn : Ground → ℕ → State → Worker → Option (List ℕ) → State
claim_turn g i s w None = with_worker i (after_claim g w None) s
claim_turn g i s w (Some ls) =
    record (with_worker i (after_claim g w (Some ls)) s) { claimed = suc s.claimed }

-- what a put of leaf l made of its queue, and what it replied, in the state
abbrev pub put_done : Ground → ℕ → State → Worker → ℕ → PlainQueue × PutReply → State
put_done g i s w l r = with_queue (queue_of g l) r.0 i (after_put w l r.1) s

-- Give: the leaf's entry is put into its queue
abbrev pub give_turn : Ground → ℕ → State → Worker → ℕ → Option PlainQueue → State
give_turn g i s w l None = s
give_turn g i s w l (Some q) = put_done g i s w l (put (entry_of g l) q)

-- what a pop with v made of the queue at place j of the round, and what it replied, in the state
abbrev pub pop_done : Ground → ℕ → State → Worker → ℕ → ℕ → PlainQueue × PopReply → State
pop_done g i s w j v r = with_queue (round_queue g i j) r.0 i (after_pop g w j v r.1) s

-- Pop: the least entry is taken from the queue, or the queue is shut
abbrev pub pop_turn : Ground → ℕ → State → Worker → ℕ → ℕ → Option PlainQueue → State
pop_turn g i s w j v None = s
pop_turn g i s w j v (Some q) = pop_done g i s w j v (pop v q)

-- Offer: the word falls to the distance of the worker's k-th pair, where that is less
abbrev pub offer_turn : Ground → ℕ → State → Worker → Onward → State
offer_turn g i s w next =
    record (with_worker i (in_phase (onward next) w) s) { word = min s.word (worst g w.list) }

-- the turn by its phase
abbrev pub row : Ground → ℕ → State → Worker → Phase → State
row g i s w Claim = claim_turn g i s w (slice_get g.roots s.claimed)
row g i s w Look = with_worker i (after_look g w s.word) s
row g i s w (Give l) = give_turn g i s w l (slice_get s.queues (queue_of g l))
row g i s w (Late l) = with_worker i (after_late g w l s.word) s
row g i s w (Aim j) = with_worker i (in_phase (Pop j s.word) w) s
row g i s w (Pop j v) = pop_turn g i s w j v (slice_get s.queues (round_queue g i j))
row g i s w (Offer next) = offer_turn g i s w next
row g i s w Done = s

module _ (g : Ground) (s : State) (i : ℕ) (w : Worker) (some : 0 < g.queues)
    (lines : length s.queues ≡ g.queues) where
  -- a root child is claimed where there is one
  claim_is : (o : Option (List ℕ)) → slice_get g.roots s.claimed ≡ o
      → claim_turn g i s w o ≡ turn_by_phase g i s w Claim
  claim_is o e = cond_both (ltb s.claimed (length g.roots))
      (record (shared g s) { claimed = suc s.claimed }, Claimed (Some s.claimed))
      (shared g s, Claimed None)
      (λ (x : Held × Reply). claim_turn g i s w o ≡ answered g i s w Claim x)
      (λ t. let low = ltb-true s.claimed (length g.roots) t in there o e (omega arith))
      (λ f. let high = ltb-false s.claimed (length g.roots) f in gone o e (omega arith))
    where
      there : (p : Option (List ℕ)) → slice_get g.roots s.claimed ≡ p → s.claimed < length g.roots
          → claim_turn g i s w p ≡ answered g i s w Claim
          (record (shared g s) { claimed = suc s.claimed }, Claimed (Some s.claimed))
      there None a low = let b = get_none g.roots s.claimed a in absurd (omega arith)
      there (Some ls) a low = ap (λ (p : Option (List ℕ)).
          state_of (record (shared g s) { claimed = suc s.claimed })
          (set s.workers i (after_claim g w p))) (sym a)

      gone : (p : Option (List ℕ)) → slice_get g.roots s.claimed ≡ p → length g.roots ≤ s.claimed
          → claim_turn g i s w p ≡ answered g i s w Claim (shared g s, Claimed None)
      gone None a high = refl
      gone (Some ls) a high =
          let b = slice_get_within g.roots s.claimed ls a in absurd (omega arith)

  -- an entry is put into its queue
  give_is : (l : ℕ) (o : Option PlainQueue) → slice_get s.queues (queue_of g l) ≡ o
      → give_turn g i s w l o
      ≡ answered g i s w (Give l) (put_into (shared g s) (queue_of g l) (entry_of g l) o)
  give_is l None e = let past = get_none s.queues (queue_of g l) e in absurd (omega arith)
  give_is l (Some q) e = refl

  -- an entry is popped from the queue of the round
  pop_is : (j v : ℕ) (o : Option PlainQueue) → slice_get s.queues (round_queue g i j) ≡ o
      → pop_turn g i s w j v o
      ≡ answered g i s w (Pop j v) (pop_from (shared g s) (round_queue g i j) v o)
  pop_is j v None e = let past = get_none s.queues (round_queue g i j) e in absurd (omega arith)
  pop_is j v (Some q) e = refl

  -- the row of each phase is the machine's turn
  pub row_is : (phase : Phase) → row g i s w phase ≡ turn_by_phase g i s w phase
  row_is Claim = claim_is (slice_get g.roots s.claimed) refl
  row_is Look = refl
  row_is (Give l) = give_is l (slice_get s.queues (queue_of g l)) refl
  row_is (Late l) = refl
  row_is (Aim j) = refl
  row_is (Pop j v) = pop_is j v (slice_get s.queues (round_queue g i j)) refl
  row_is (Offer next) = refl
  row_is Done = refl

-- the turn of a worker that is not done is its call, and the reply
pub running_turn : (g : Ground) (i : ℕ) (s : State) (w : Worker) (phase : Phase) → phase ≢ Done
    → turn_by_phase g i s w phase
    ≡ answered g i s w phase (held_after (shared g s) (call_in g i w phase))
running_turn g i s w Claim ne = refl
running_turn g i s w Look ne = refl
running_turn g i s w (Give l) ne = refl
running_turn g i s w (Late l) ne = refl
running_turn g i s w (Aim j) ne = refl
running_turn g i s w (Pop j v) ne = refl
running_turn g i s w (Offer next) ne = refl
running_turn g i s w Done ne = absurd (ne refl)
