-- Each turn in the drain part leaves less to do (`drain_less`).
use Rattle.std.proofs.Common.{◌≡◌, ℕ, zero, suc, ◌+◌, ◌-◌, ◌*◌, ◌<◌, ◌≤◌, true, false, length, ltb, sym, refl, ap, ◌∙◌, inl, inr, ⊎_elim, arith}
use Rattle.std.specs.Prelude.{nat_lt, slice_set, ◌&&◌}
use Rattle.std.proofs.lemmas.Bool.{cases_eq, cond_both, true≢false}
use Rattle.std.proofs.lemmas.Bool.Decides.{nat_tests}
use Rattle.list_totals.specs.Below.{sum_below}
use Rattle.list_totals.proofs.Below.{sum_below_same}
use Rattle.series_core.specs.declared.queue_words.Entry.{Entry}
use Rattle.series_core.specs.declared.queue_words.PopReply.{PopReply}
use Rattle.series_core.specs.declared.queue_words.PopReply.TheVariants.{Leaf, Closed}
use Rattle.sealed_runs.specs.Entries.{run_at}
use Rattle.sealed_runs.specs.Visits.{Visit, visit_at}
use Rattle.search_machine.specs.declared.calls.Reply.{Reply}
use Rattle.search_machine.specs.declared.calls.Reply.TheVariants.{Seen, Offered, PopTold}
use Rattle.search_machine.specs.declared.phase.Phase.{Phase}
use Rattle.search_machine.specs.declared.phase.Phase.TheVariants.{Claim, Look, Give, Late, Aim, Pop, Offer, Done}
use Rattle.search_machine.specs.declared.phase.Onward.TheVariants.{Look as ToLook, Aim as ToAim}
use Rattle.search_machine.specs.Ground.{Ground, scan}
use Rattle.search_machine.specs.Workers.{Worker, after_pop, after_reply, fills, improves, in_phase, is_new, round_queue, scanned_by}
use Rattle.search_machine.specs.Calls.{call_in}
use Rattle.search_machine.specs.OwnRecord.{RecordedWorker, nothing_yet}
use Rattle.query_core.specs.Turning.{Lowers, Turns, search_of}
use Rattle.query_core.specs.Working.{IsOf}
use Rattle.live_query.specs.DrainHands.{DrainKept, DrainDid}
use Rattle.live_query.specs.SealedQueues.{PopsRun, SealedKept, SealedPops, run_count}
use Rattle.live_query.specs.Parts.{Draining, MayDrain}
use Rattle.live_query.specs.Efforts.{drain_left, open_left, round_left, run_left}
use Rattle.live_query.proofs.SealedTies.{visit_here, visit_other}
use Rattle.live_query.proofs.WordTies.{went_by}

-- a sum where one number's part changed
sum_changed : (n m : ℕ) (f g : ℕ → ℕ) → ((x : ℕ) → (x ≡ m → ⊥) → f x ≡ g x) → m < n
    → sum_below n f + g m ≡ sum_below n g + f m
sum_changed zero m f g same low = absurd (omega arith)
sum_changed (suc n) m f g same low = ⊎_elim
    (λ (e : m ≡ n).
    let rest = sum_below_same n f g (λ x less. same x (λ q. absurd (let a : x ≡ m = q in omega arith))) in
    let a : f m ≡ f n = ap f e in
    let b : g m ≡ g n = ap g e in
    omega arith)
    (λ (ne : m ≡ n → ⊥).
    let rest = sum_changed n m f g same (lower m n low ne) in
    let here = same n (λ e. ne (sym e)) in
    omega arith)
    (cases_eq m n)
  where
    lower : (m n : ℕ) → m < suc n → (m ≡ n → ⊥) → m < n
    lower m n low ne = grind (arith, nat_tests)

-- what all runs may still give to a worker
abbrev all_left : SealedKept → ℕ
all_left h = sum_below (length h.runs) (run_left h)

abbrev with_visit : SealedKept → ℕ → Visit → SealedKept
with_visit h m x = record h { visits = slice_set h.visits m x }

module _ (h : SealedKept) (m : ℕ) (x : Visit) (run : m < length h.runs) (visit : m < length h.visits) where
  left_here : run_left (with_visit h m x) m ≡ open_left x.closed (length (run_at h.runs m).entries - x.claim.met)
  left_here = ap (λ (y : Visit). open_left y.closed (length (run_at h.runs m).entries - y.claim.met))
      (visit_here h.visits m x visit)

  left_there : (n : ℕ) → (n ≡ m → ⊥) → run_left (with_visit h m x) n ≡ run_left h n
  left_there n ne = ap (λ (y : Visit). open_left y.closed (length (run_at h.runs n).entries - y.claim.met))
      (visit_other h.visits m n x ne)

  left_changed : all_left (with_visit h m x) + run_left h m ≡ all_left h + run_left (with_visit h m x) m
  left_changed = sum_changed (length h.runs) m (run_left (with_visit h m x)) (run_left h) left_there run

-- a pop that was answered by an entry leaves less, and one that was answered Closed leaves no more
leaf_less : (h k : SealedKept) (m v : ℕ) (e : Entry) → PopsRun h m v (Leaf e) k → all_left k < all_left h
leaf_less h k m v e d =
    let x = visit_at k.visits m in
    let changed = left_changed h m x d.run d.visit in
    let n = length (run_at h.runs m).entries in
    let here = left_here h m x d.run d.visit in
    let now : open_left x.closed (n - x.claim.met) ≡ n - x.claim.met
    = ap (λ o. open_left o (n - x.claim.met)) d.leaf.going in
    let was : run_left h m ≡ n - (visit_at h.visits m).claim.met
    = ap (λ o. open_left o (n - (visit_at h.visits m).claim.met)) d.goes_on in
    let drawn = d.leaf.drawn in
    let most = d.leaf.most in
    let all = ap all_left d.after in
    omega arith

shut_less : (h k : SealedKept) (m v told : ℕ) → PopsRun h m v (Closed told) k → all_left k ≤ all_left h
shut_less h k m v told d =
    let x = visit_at k.visits m in
    let changed = left_changed h m x d.run d.visit in
    let n = length (run_at h.runs m).entries in
    let here = left_here h m x d.run d.visit in
    let now : open_left x.closed (n - x.claim.met) ≡ 0 = ap (λ o. open_left o (n - x.claim.met)) d.closed.shut in
    let all = ap all_left d.after in
    omega arith

abbrev of : Ground → Worker → ℕ
of g w = round_left g.queues w.phase

leaf_round : (g : Ground) (w : Worker) (j v : ℕ) (e : Entry) → of g (after_pop g w j v (Leaf e)) ≤ 3 + 2 * (g.queues - j)
leaf_round g w j v e =
    cond_both (is_new e.leaf w && nat_lt e.leaf g.leaves) (scanned_by g w e.leaf v (ToAim j)) (in_phase (Aim j) w)
    (λ (x : Worker). of g x ≤ 3 + 2 * (g.queues - j))
    (λ _. cond_both (improves g (scan g v (g.members e.leaf) w.list) v) (Offer (ToAim j)) (Aim j)
    (λ (p : Phase). round_left g.queues p ≤ 3 + 2 * (g.queues - j)) (λ _. omega arith) (λ _. omega arith))
    (λ _. omega arith)

closed_round : (g : Ground) (w : Worker) (j v told : ℕ) → of g (after_pop g w j v (Closed told)) < 1 + 2 * (g.queues - j)
closed_round g w j v told =
    cond_both (nat_lt (suc j) g.queues) (in_phase (Aim (suc j)) w) (in_phase Done w)
    (λ (x : Worker). of g x < 1 + 2 * (g.queues - j))
    (λ more. let less : suc j < g.queues = ltb_lt (suc j) g.queues more in omega arith)
    (λ _. omega arith)
  where
    ltb_lt : (a b : ℕ) → ltb a b ≡ true → a < b
    ltb_lt a b e = grind (arith, nat_tests)

pop_less : (g : Ground) (w : Worker) (h k : SealedKept) (m j v : ℕ) (reply : PopReply) → SealedPops h m v reply k
    → of g (after_pop g w j v reply) + 3 * all_left k < 1 + 2 * (g.queues - j) + 3 * all_left h
pop_less g w h k m j v reply (inl idle) =
    let same = ap all_left idle.2 in
    let a = ap (λ (p : PopReply). of g (after_pop g w j v p)) idle.1 in
    let b = closed_round g w j v v in
    omega arith
pop_less g w h k m j v (Leaf e) (inr d) =
    let a = leaf_round g w j v e in let b = leaf_less h k m v e d in omega arith
pop_less g w h k m j v (Closed told) (inr d) =
    let a = closed_round g w j v told in let b = shut_less h k m v told d in omega arith

-- a reply in the drain part leaves less, whatever lower limit the worker goes by
drain_reply_left : (g : Ground) (i : ℕ) (w : Worker) (h k : DrainKept SealedKept) (phase : Phase) (reply by : Reply)
    → fills phase ≡ false → (phase ≡ Done → ⊥) → Lowers reply by → DrainDid SealedPops h (call_in g i w phase) reply k
    → of g (after_reply g w phase by) + 3 * all_left k.queues < round_left g.queues phase + 3 * all_left h.queues
drain_reply_left g i w h k (Aim j) (Seen v) by f ne lower d =
    let s = ap (λ (k : DrainKept SealedKept). all_left k.queues) d.1 in
    let b = ap (λ (by : Reply). of g (after_reply g w (Aim j) by)) (went_by v by lower).1 in
    omega arith
drain_reply_left g i w h k (Pop j v) (PopTold reply) by f ne lower d =
    let b = ap (λ (by : Reply). of g (after_reply g w (Pop j v) by)) lower in
    let less = pop_less g w h.queues k.queues (round_queue g i j) j v reply d.0 in
    omega arith
drain_reply_left g i w h k (Offer (ToAim j)) (Offered v) by f ne lower d =
    let s = ap (λ (k : DrainKept SealedKept). all_left k.queues) d.1 in
    let b = ap (λ (by : Reply). of g (after_reply g w (Offer (ToAim j)) by)) lower in
    omega arith
drain_reply_left g i w h k Done reply by f ne lower d = absurd (ne refl)
drain_reply_left g i w h k Claim reply by f ne lower d = absurd (true≢false f)
drain_reply_left g i w h k Look reply by f ne lower d = absurd (true≢false f)
drain_reply_left g i w h k (Give l) reply by f ne lower d = absurd (true≢false f)
drain_reply_left g i w h k (Late l) reply by f ne lower d = absurd (true≢false f)
drain_reply_left g i w h k (Offer ToLook) reply by f ne lower d = absurd (true≢false f)
drain_reply_left g i w h k _ _ by f ne lower d = absurd d

-- a turn in the drain part leaves less
pub drain_less : (c d : Draining) → MayDrain run_count c → IsOf c.worker.question c.worker.index c.worker.queues c.worker.number d.worker
    → Turns (DrainDid SealedPops) c.hand d.hand c.worker d.worker → drain_left d.worker d.hand < drain_left c.worker c.hand
drain_less c d ready is t =
    let w = c.worker in
    let shows = ready.serves.shows in
    let x : RecordedWorker = record { worker = ready.serves.shown; own = nothing_yet } in
    let next = t.2.next 1 x shows in
    let less = drain_reply_left (search_of w 1) w.number x.worker c.hand d.hand x.worker.phase t.0 t.1 (ap fills shows.phase ∙ ready.filled)
    (λ e. ready.running (sym shows.phase ∙ e)) t.2.lowers (t.2.called 1 x shows) in
    let a = ap (round_left w.queues) next.phase in
    let b = ap (round_left w.queues) shows.phase in
    let c = ap (λ m. round_left m d.worker.phase) is.queues in
    omega arith
