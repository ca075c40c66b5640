-- How often the calls of members name a leaf, and what such a call was.
use Rattle.std.proofs.Common.{Bool, ap, arith, cond, eqb, false, inl, inr, refl, subst, sym, true, ℕ, ⊎_elim, ◌&&◌, ◌+◌, ◌<◌, ◌≡◌, ◌≤◌, ◌⊎◌}
use Rattle.std.proofs.lemmas.Bool.{and_parts, cond-true, cond_both, eq-eqb, eqb-true}
use Rattle.std.specs.Prelude.{not}
use Rattle.list_totals.specs.Totals.{one_if_same, times, total}
use Rattle.series_core.specs.declared.queue_words.Entry.{Entry}
use Rattle.series_core.specs.declared.queue_words.PopReply.{PopReply}
use Rattle.series_core.specs.declared.queue_words.PopReply.TheVariants.{Closed, Leaf}
use Rattle.series_core.specs.declared.queue_words.PutReply.{PutReply}
use Rattle.series_core.specs.declared.queue_words.PutReply.TheVariants.{Filled, Placed, Shut}
use Rattle.search_machine.specs.Closes.{leaf_of, placed_of, popped_of}
use Rattle.search_machine.specs.OwnRecord.{RecordedWorker, PopMade, PutMade, is_refused, put_of}
use Rattle.search_machine.proofs.Counts.{counts_or_not, same_counts}

-- how often a put that was answered Shut or Filled names leaf l
abbrev pub refused_of : ℕ → PutMade → ℕ
refused_of l p = cond (is_refused p.reply) (one_if_same l p.entry.leaf) 0

-- how often a member's refused puts name leaf l
abbrev pub refusals_by : ℕ → RecordedWorker → ℕ
refusals_by l x = total (refused_of l) x.own.puts

-- a put is placed or refused, not both
pub both_of : (m l : ℕ) (p : PutMade) → placed_of m l p + refused_of l p ≤ put_of l p
both_of m l p = by (eqb p.queue m) (is_refused p.reply)
  where
    by : (a b : Bool)
        → cond (a && not b) (one_if_same l p.entry.leaf) 0 + cond b (one_if_same l p.entry.leaf) 0
        ≤ one_if_same l p.entry.leaf
    by true true = omega arith
    by true false = omega arith
    by false true = omega arith
    by false false = omega arith

-- a put that placed leaf l in queue m names both
pub placed_is : (m l : ℕ) (p : PutMade) → 0 < placed_of m l p → (p.queue ≡ m) × (l ≡ p.entry.leaf)
placed_is m l p =
    cond_both (eqb p.queue m && not (is_refused p.reply)) (one_if_same l p.entry.leaf) 0
    (λ n. 0 < n → (p.queue ≡ m) × (l ≡ p.entry.leaf))
    (λ b h. (
      eqb-true p.queue m (and_parts (eqb p.queue m) (not (is_refused p.reply)) b).0,
      ⊎_elim
          (λ (c : (one_if_same l p.entry.leaf ≡ 1) × (l ≡ p.entry.leaf)). c.1)
          (λ (c : one_if_same l p.entry.leaf ≡ 0). absurd (omega arith))
          (counts_or_not l p.entry.leaf),
    ))
    (λ _ h. absurd (omega arith))

-- a reply that names leaf l is a Leaf reply
pub leaf_is : (l : ℕ) (reply : PopReply) → 0 < leaf_of l reply
    → (e : Entry) × (reply ≡ Leaf e) × (e.leaf ≡ l)
leaf_is l (Leaf e) h =
    ⊎_elim (λ (c : (one_if_same l e.leaf ≡ 1) × (l ≡ e.leaf)). (e, refl, sym c.1))
    (λ (c : one_if_same l e.leaf ≡ 0). absurd (omega arith)) (counts_or_not l e.leaf)
leaf_is l (Closed v) h = absurd (omega arith)

-- a pop that took leaf l was answered by it
pub popped_is : (m l : ℕ) (p : PopMade) → 0 < popped_of m l p
    → (e : Entry) × (p.reply ≡ Leaf e) × (e.leaf ≡ l)
popped_is m l p =
    cond_both (eqb p.queue m) (leaf_of l p.reply) 0
    (λ n. 0 < n → (e : Entry) × (p.reply ≡ Leaf e) × (e.leaf ≡ l)) (λ _ h. leaf_is l p.reply h)
    (λ _ h. absurd (omega arith))

-- a pop that was answered by an entry took its leaf
pub popped_some : (p : PopMade) (e : Entry) → p.reply ≡ Leaf e → 0 < popped_of p.queue e.leaf p
popped_some p e is =
    let a = cond-true (eqb p.queue p.queue) (leaf_of e.leaf p.reply) 0 (eq-eqb p.queue p.queue refl)
    in
    let b : leaf_of e.leaf p.reply ≡ one_if_same e.leaf e.leaf = ap (leaf_of e.leaf) is in
    let c = same_counts e.leaf in
    subst (λ (n : ℕ). 0 < n) (sym a) (omega arith)

-- a put is refused or placed
pub not_refused : (reply : PutReply) → (is_refused reply ≡ true) ⊎ (not (is_refused reply) ≡ true)
not_refused Placed = inr refl
not_refused (Shut v) = inl refl
not_refused (Filled c) = inl refl

-- how often a member scanned leaf l
abbrev pub scans_by : ℕ → RecordedWorker → ℕ
scans_by l x = times l x.worker.scanned
