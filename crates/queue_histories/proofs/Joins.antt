-- Two histories in a row are one (`leads_joined`), and what puts alone and then pops alone take from an empty queue
-- ascends (`taken_ascends`).
use Rattle.std.proofs.Common.{sym, ◌∙◌, ◌++◌, subst, ◌==◌, ◌≡◌, ℕ, List, [], ◌∷◌, refl}
use Rattle.std.proofs.lemmas.List.Elements.{filter-append}
use Rattle.turn_lock.specs.declared.object.Entry.{Entry as Made}
use Rattle.turn_lock.specs.History.{IsLegal, calls_by, state_after}
use Rattle.leaf_queues.specs.declared.calls.Call.{Call}
use Rattle.leaf_queues.specs.declared.calls.Reply.{Reply}
use Rattle.leaf_queues.specs.PlainQueue.{PlainQueue, empty_queue, next}
use Rattle.series_core.specs.declared.queue_words.Entry.{Entry}
use Rattle.std.proofs.lemmas.Option.{none-some}
use Rattle.search_machine.specs.Basics.{Ordered}
use Rattle.search_machine.proofs.Entries.{ordered_front}
use Rattle.queue_histories.specs.Histories.{ArePops, ArePuts, History, Leads, Past, Shaped, answers}
use Rattle.queue_histories.proofs.Pasts.{pasts}

-- the second history begins where the first leaves the queue
pub state_joined : (q : PlainQueue) (first second : History)
    → state_after answers q (first ++ second)
    ≡ state_after answers (state_after answers q first) second
state_joined q [] second = refl
state_joined q (x ∷ first) second = state_joined (next q x.call).0 first second

-- where both are legal, so are they in a row
pub legal_joined : (q : PlainQueue) (first second : History) → IsLegal answers q first
    → IsLegal answers (state_after answers q first) second
    → IsLegal answers q (first ++ second)
legal_joined q [] second a b = b
legal_joined q (x ∷ first) second a b =
    (a.0, legal_joined (next q x.call).0 first second a.1 b)

-- an empty queue is as calls leave one
pub shaped_empty : (n : ℕ) → Shaped (empty_queue n)
shaped_empty n = record {
  ordered = tt;
  placed = refl;
  above = λ v h. absurd (none-some v h);
}

-- so the two in a row lead as far
pub leads_joined : (q r s : PlainQueue) (first second : History) → Leads q first r
    → Leads r second s → Leads q (first ++ second) s
leads_joined q r s first second a b =
    let way = subst (λ (t : PlainQueue). Leads t second s) a.leads b in record {
      legal = legal_joined q first second a.legal way.legal;
      leads = way.leads ∙ sym (state_joined q first second);
    }

-- what a history made of the queue that it leads from
pub past_of : (q r : PlainQueue) (log : History) → Leads q log r → Past q r log
past_of q r log l =
    subst (λ (t : PlainQueue). Past q t log) (sym l.leads) (pasts q log l.legal)

-- puts alone take nothing, and pops alone take in order
pub taken_ascends : (n : ℕ) (q r : PlainQueue) (fill drain : History) → ArePuts fill → ArePops drain
    → Leads (empty_queue n) fill q → Leads q drain r → Ordered r.taken
taken_ascends n q r fill drain puts pops a b =
    let p = past_of (empty_queue n) q fill a in
    let s = past_of q r drain b in
    let none = (p.fills puts).0 in
    let waits : Ordered q.waiting = (p.shaped (shaped_empty n)).ordered in
    let ascends : Ordered (q.taken ++ q.waiting) =
    subst (λ (es : List Entry). Ordered (es ++ q.waiting)) (sym none) waits in
    ordered_front r.taken r.waiting (s.drains pops ascends)

-- a caller's calls are those in the first and then those in the second
pub calls_joined : (i : ℕ) (first second : History)
    → calls_by i (first ++ second) ≡ calls_by i first ++ calls_by i second
calls_joined i first second =
    filter-append (λ (x : Made Call Reply). x.caller == i) first second
