-- No put is refused where there is room for all calls (`all_placed`), and there is where they name different leaves of
-- the queue (`different_placed`) or a team put no more than that (`team_placed`).
use Rattle.std.proofs.Common.{◌+◌, ◌++◌, ◌<◌, ◌≤◌, ◌≡◌, ℕ, List, [], ◌∷◌, None, length, map, ltb, inl, inr, ⊎_elim, sym, refl, ap, ◌∙◌, subst, arith}
use Rattle.std.proofs.lemmas.Bool.{cases_lt, cond_both, ltb-false}
use Rattle.std.proofs.lemmas.List.{length-append, length-map}
use Rattle.list_totals.specs.Standing.{In}
use Rattle.list_totals.specs.Totals.{one_if_same, times, total}
use Rattle.list_totals.proofs.Standing.{total_in}
use Rattle.list_totals.proofs.Totals.{total_append, total_map}
use Rattle.series_core.specs.declared.queue_words.Entry.{Entry}
use Rattle.series_core.specs.declared.queue_words.PutReply.{PutReply}
use Rattle.series_core.specs.declared.queue_words.PutReply.TheVariants.{Placed, Filled}
use Rattle.turn_lock.specs.declared.object.Entry.{Entry as Made}
use Rattle.turn_lock.specs.History.{IsLegal}
use Rattle.leaf_queues.specs.declared.calls.Call.{Call}
use Rattle.leaf_queues.specs.declared.calls.Call.TheVariants.{Put, Pop}
use Rattle.leaf_queues.specs.declared.calls.Reply.{Reply}
use Rattle.leaf_queues.specs.declared.calls.Reply.TheVariants.{Put as PutAnswer}
use Rattle.leaf_queues.specs.PlainQueue.{PlainQueue, next, placed_in, put_open}
use Rattle.search_machine.specs.Ground.{Ground, queue_of}
use Rattle.search_machine.specs.Closes.{puts_into}
use Rattle.search_machine.specs.Basics.{entered}
use Rattle.search_machine.proofs.Counts.{counts_or_not, length_sum, same_counts, sum_le}
use Rattle.search_machine.proofs.Ending.{entered_some}
use Rattle.search_machine.proofs.Filling.{capacity_sum}
use Rattle.queue_histories.specs.Callers.{Team, once}
use Rattle.queue_histories.proofs.Callers.{by_team, length_once}
use Rattle.queue_histories.specs.Histories.{ArePuts, History, answers}
use Rattle.queue_histories.specs.Rooms.{AllPlaced, ArePutsInto, HasRoom, IsLeafOf, IsOpenFor, MadeWithinRoom, PutsDiffer, opened_for, puts_at, puts_leaf}

-- where there is room a put is placed
placed_open : (q : PlainQueue) (e : Entry) → q.placed < q.capacity
    → put_open e q None ≡ (placed_in e q, Placed)
placed_open q e room = cond_both (ltb q.placed q.capacity)
    (placed_in e q, Placed)
    (q, Filled q.capacity)
    (λ (r : PlainQueue × PutReply). r ≡ (placed_in e q, Placed))
    (λ _. refl)
    (λ b. let a = ltb-false q.placed q.capacity b in absurd (omega arith))

-- and so the queue that is not shut answers it
placed_next : (q : PlainQueue) (e : Entry) → q.kept ≡ None → q.placed < q.capacity
    → next q (Put e) ≡ (placed_in e q, PutAnswer Placed)
placed_next q e unshut room =
    ap (λ (r : PlainQueue × PutReply). (r.0, PutAnswer r.1))
    (ap (put_open e q) unshut ∙ placed_open q e room)

-- where there is room for all calls each put is placed
pub all_placed : (q : PlainQueue) (log : History) → ArePuts log → HasRoom q log
    → IsLegal answers q log → AllPlaced log
all_placed q [] puts room legal y h = absurd h
all_placed q (x ∷ log) puts room legal y h =
    let first = puts x (inl refl) in
    let space = room.1 in
    let is : next q x.call ≡ (placed_in first.0 q, PutAnswer Placed) =
    ap (next q) first.1 ∙ placed_next q first.0 room.0 (omega arith) in
    ⊎_elim
    (λ (same : y ≡ x).
    ap (λ (z : Made Call Reply). z.reply) same
    ∙ (legal.0 ∙ ap (λ (r : PlainQueue × Reply). r.1) is))
    (λ (later : In y log).
    all_placed (placed_in first.0 q) log (λ z t. puts z (inr t)) (refl, omega arith)
    (subst (λ (r : PlainQueue × Reply). IsLegal answers r.0 log) is legal.1) y later)
    h

-- the leaf that a put names
abbrev named : Call → ℕ
named (Put e) = e.leaf
named (Pop v) = 0

-- the leaves that puts name
abbrev leaves_put : History → List ℕ
leaves_put log = map (λ (x : Made Call Reply). named x.call) log

-- the leaves of the entries
abbrev leaves_of : List Entry → List ℕ
leaves_of es = map (λ (e : Entry). e.leaf) es

-- a leaf is one of those put as often as it is put
times_put : (l : ℕ) (log : History) → ArePuts log
    → times l (leaves_put log) ≡ total (puts_at l) log
times_put l [] puts = refl
times_put l (x ∷ log) puts =
    let first = puts x (inl refl) in
    let rest = times_put l log (λ y t. puts y (inr t)) in
    let here : one_if_same l (named x.call) ≡ puts_leaf l x.call =
    ap (λ (c : Call). one_if_same l (named c)) first.1 ∙ sym (ap (puts_leaf l) first.1) in
    omega arith

module _ (g : Ground) (m : ℕ) (q : PlainQueue) (log : History) (is_open : IsOpenFor g m q)
    (puts : ArePutsInto g m log) (differ : PutsDiffer q log) where
  -- each call is a put
  are_puts : ArePuts log
  are_puts x h = let p = puts x h in (p.0, p.1)

  -- the leaves that are put, wait or were taken
  abbrev here : List ℕ
  here = leaves_put log ++ (leaves_of q.waiting ++ leaves_of q.taken)

  -- how often a leaf is one of them
  times_here : (l : ℕ)
      → times l here ≡ total (puts_at l) log + entered l q.waiting + entered l q.taken
  times_here l =
      let a = times_put l log are_puts in
      let b = total_append (one_if_same l) (leaves_put log)
      (leaves_of q.waiting ++ leaves_of q.taken) in
      let c = total_append (one_if_same l) (leaves_of q.waiting) (leaves_of q.taken) in
      let d = total_map (one_if_same l) (λ (e : Entry). e.leaf) q.waiting in
      let f = total_map (one_if_same l) (λ (e : Entry). e.leaf) q.taken in
      omega arith

  -- a leaf of the entries that the queue holds belongs to it
  held_of : (l : ℕ) (es : List Entry) → ((e : Entry) → In e es → IsLeafOf g m e.leaf)
      → 0 < entered l es → IsLeafOf g m l
  held_of l es own h =
      let r = entered_some l es h in subst (IsLeafOf g m) (sym r.2) (own r.0 r.1)

  -- and so does a leaf that is put
  put_of_queue : (l : ℕ) → 0 < total (puts_at l) log → IsLeafOf g m l
  put_of_queue l h =
      let some = total_in (puts_at l) log h in
      let is = puts some.0 some.1 in
      let counts = some.2 in
      let names = ap (puts_leaf l) is.1 in
      ⊎_elim
      (λ (c : (one_if_same l is.0.leaf ≡ 1) × (l ≡ is.0.leaf)).
      subst (IsLeafOf g m) (sym c.1) is.2)
      (λ (c : one_if_same l is.0.leaf ≡ 0). absurd (omega arith))
      (counts_or_not l is.0.leaf)

  -- so does each of them
  each_of : (l : ℕ) → 0 < times l here → IsLeafOf g m l
  each_of l h = ⊎_elim
      (λ (a : 0 < total (puts_at l) log). put_of_queue l a)
      (λ (a : total (puts_at l) log ≤ 0). ⊎_elim
      (λ (b : 0 < entered l q.waiting). held_of l q.waiting (λ e t. is_open.own e (inl t)) b)
      (λ (b : entered l q.waiting ≤ 0).
      held_of l q.taken (λ e t. is_open.own e (inr t)) (let c = times_here l in omega arith))
      (cases_lt 0 (entered l q.waiting)))
      (cases_lt 0 (total (puts_at l) log))

  -- and is one of them at most once
  within : (l : ℕ) → times l here ≤ one_if_same m (queue_of g l)
  within l = ⊎_elim
      (λ (h : 0 < times l here).
      let a = times_here l in
      let b = differ l in
      let c : one_if_same m (queue_of g l) ≡ one_if_same m m =
      ap (one_if_same m) (each_of l h).queue in
      let d = same_counts m in
      omega arith)
      (λ (h : times l here ≤ 0). omega arith)
      (cases_lt 0 (times l here))

  -- so there is room for all calls
  fits : q.placed + length log ≤ q.capacity
  fits =
      let a = length-append (leaves_put log) (leaves_of q.waiting ++ leaves_of q.taken) in
      let b = length-append (leaves_of q.waiting) (leaves_of q.taken) in
      let c = length-map log (λ (x : Made Call Reply). named x.call) in
      let d = length-map q.waiting (λ (e : Entry). e.leaf) in
      let f = length-map q.taken (λ (e : Entry). e.leaf) in
      let h = length_sum g.leaves here (λ l t. (each_of l t).real) in
      let j = sum_le (λ l. times l here) (λ l. one_if_same m (queue_of g l)) g.leaves within in
      let k = capacity_sum g m g.leaves in
      let n = is_open.placed in
      let r = is_open.capacity in
      omega arith

  -- and each put is placed
  pub different_placed : IsLegal answers q log → AllPlaced log
  different_placed legal = all_placed q log are_puts (is_open.unshut, fits) legal

-- where a team made all the puts, and no more than there are leaves, each is placed
pub team_placed : (g : Ground) (m : ℕ) (team : Team) (log : History)
    → MadeWithinRoom g m team log → IsLegal answers (opened_for g m) log → AllPlaced log
team_placed g m team log within_room legal =
    let made = within_room.made in
    let most = within_room.room in
    let a = by_team once (puts_into m) team log made.callers made.accounts in
    let b = length_once log in
    all_placed (opened_for g m) log within_room.puts (refl, omega arith) legal
