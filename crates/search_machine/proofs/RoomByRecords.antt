-- By members' records alone each queue has room for all puts into it: each names another leaf of
-- the queue (`puts_fit`).
use Rattle.std.proofs.Common.{Bool, List, [], ap, arith, cond, eqb, false, length, subst, sym, true, ℕ, ⊎_elim, ◌++◌, ◌+◌, ◌<◌, ◌∙◌, ◌∷◌, ◌≡◌, ◌≤◌}
use Rattle.std.proofs.lemmas.Bool.{cases_lt, cond_both, eqb-true}
use Rattle.std.proofs.lemmas.List.{length-append}
use Rattle.list_totals.proofs.Totals.{total_append}
use Rattle.list_totals.specs.Totals.{one_if_same, times, total}
use Rattle.search_machine.specs.Ground.{Fits, Ground, queue_of}
use Rattle.search_machine.specs.Machine.{capacity_of}
use Rattle.search_machine.specs.Closes.{AllStand, ClaimedOnce, put_in, puts_by, puts_into}
use Rattle.search_machine.specs.OwnRecord.{RecordedWorker, PutMade, put_of}
use Rattle.search_machine.proofs.Counts.{counts_or_not, length_sum, same_counts, sum_le}
use Rattle.search_machine.proofs.Filling.{capacity_sum}
use Rattle.list_totals.proofs.Standing.{total_in}
use Rattle.search_machine.proofs.OwnLate.{below_real}
use Rattle.search_machine.proofs.Places.{total_most, total_some}
use Rattle.search_machine.proofs.PutsOnce.{puts_once}

-- how often a put into queue m names leaf l
abbrev named : ℕ → ℕ → PutMade → ℕ
named m l p = cond (eqb m p.queue) (one_if_same l p.entry.leaf) 0

-- how often a member's puts into queue m name leaf l
abbrev named_by : ℕ → ℕ → RecordedWorker → ℕ
named_by m l x = total (named m l) x.own.puts

-- what a put that is counted names
named_is : (m l : ℕ) (p : PutMade) → 0 < named m l p → (m ≡ p.queue) × (l ≡ p.entry.leaf)
named_is m l p =
    cond_both (eqb m p.queue) (one_if_same l p.entry.leaf) 0
    (λ n. 0 < n → (m ≡ p.queue) × (l ≡ p.entry.leaf))
    (λ b h. (
      eqb-true m p.queue b,
      ⊎_elim (λ (c : (one_if_same l p.entry.leaf ≡ 1) × (l ≡ p.entry.leaf)). c.1)
          (λ (c : one_if_same l p.entry.leaf ≡ 0). absurd (omega arith))
          (counts_or_not l p.entry.leaf),
    ))
    (λ _ h. absurd (omega arith))

-- it is no more often counted than its leaf
named_most : (m l : ℕ) (p : PutMade) → named m l p ≤ put_of l p
named_most m l p = by (eqb m p.queue)
  where
    by : (b : Bool) → cond b (one_if_same l p.entry.leaf) 0 ≤ one_if_same l p.entry.leaf
    by true = omega arith
    by false = omega arith

-- the leaves of the puts into queue m
abbrev leaves_in : ℕ → List PutMade → List ℕ
leaves_in m [] = []
leaves_in m (p ∷ ps) = cond (eqb m p.queue) (p.entry.leaf ∷ leaves_in m ps) (leaves_in m ps)

-- they are as many as the puts
length_in : (m : ℕ) (ps : List PutMade) → length (leaves_in m ps) ≡ total (put_in m) ps
length_in m [] = omega arith
length_in m (p ∷ ps) = by (length_in m ps) (eqb m p.queue)
  where
    by : length (leaves_in m ps) ≡ total (put_in m) ps → (b : Bool)
        → length (cond b (p.entry.leaf ∷ leaves_in m ps) (leaves_in m ps))
        ≡ cond b 1 0 + total (put_in m) ps
    by a true = omega arith
    by a false = omega arith

-- and a leaf is one of them as often as it is named
times_in : (m l : ℕ) (ps : List PutMade) → times l (leaves_in m ps) ≡ total (named m l) ps
times_in m l [] = omega arith
times_in m l (p ∷ ps) = by (times_in m l ps) (eqb m p.queue)
  where
    by : times l (leaves_in m ps) ≡ total (named m l) ps → (b : Bool)
        → times l (cond b (p.entry.leaf ∷ leaves_in m ps) (leaves_in m ps))
        ≡ cond b (one_if_same l p.entry.leaf) 0 + total (named m l) ps
    by a true = omega arith
    by a false = omega arith

-- the leaves of all members' puts into queue m
abbrev all_in : ℕ → List RecordedWorker → List ℕ
all_in m [] = []
all_in m (x ∷ xs) = leaves_in m x.own.puts ++ all_in m xs

-- they are as many as the puts
length_all : (m : ℕ) (xs : List RecordedWorker) → length (all_in m xs) ≡ total (puts_into m) xs
length_all m [] = omega arith
length_all m (x ∷ xs) =
    let a = length_all m xs in
    let b = length_in m x.own.puts in
    let c = length-append (leaves_in m x.own.puts) (all_in m xs) in
    omega arith

-- and a leaf is one of them as often as it is named
times_all : (m l : ℕ) (xs : List RecordedWorker) → times l (all_in m xs) ≡ total (named_by m l) xs
times_all m l [] = omega arith
times_all m l (x ∷ xs) =
    let a = times_all m l xs in
    let b = times_in m l x.own.puts in
    let c = total_append (one_if_same l) (leaves_in m x.own.puts) (all_in m xs) in
    omega arith

module _ (g : Ground) (fits : Fits g) (team : List RecordedWorker) (stands : AllStand g team)
    (claims : ClaimedOnce team) (m : ℕ) where
  -- each of them is a leaf of the queue
  real_in : (l : ℕ) → 0 < times l (all_in m team) → (m ≡ queue_of g l) × (l < g.leaves)
  real_in l h =
      let a = times_all m l team in
      let x = total_some (named_by m l) team (omega arith) in
      let p = total_in (named m l) x.1.own.puts x.3 in
      let is = named_is m l p.0 p.2 in
      let right = (stands x.0 x.1 x.2).puts p.0 p.1 in (
        is.0 ∙ right.queue ∙ ap (queue_of g) (sym is.1),
        subst (λ (n : ℕ). n < g.leaves) (sym is.1)
            (below_real g fits x.1.own p.0.entry.leaf right.below),
      )

  -- and no other
  within : (l : ℕ) → times l (all_in m team) ≤ one_if_same m (queue_of g l)
  within l = ⊎_elim
      (λ (h : 0 < times l (all_in m team)).
      let r = real_in l h in
      let a = times_all m l team in
      let b = total_most (named_by m l) (puts_by l) team
      (λ x. total_most (named m l) (put_of l) x.own.puts (named_most m l)) in
      let c = puts_once g fits team stands claims l in
      let d : one_if_same m (queue_of g l) ≡ one_if_same m m = ap (one_if_same m) (sym r.0) in
      let e = same_counts m in
      omega arith)
      (λ (h : times l (all_in m team) ≤ 0). omega arith)
      (cases_lt 0 (times l (all_in m team)))

  -- so no more puts name the queue than leaves belong to it
  pub puts_fit : total (puts_into m) team ≤ capacity_of g m g.leaves
  puts_fit =
      let a = length_all m team in
      let b = length_sum g.leaves (all_in m team) (λ l h. (real_in l h).1) in
      let c = sum_le (λ l. times l (all_in m team)) (λ l. one_if_same m (queue_of g l)) g.leaves
      within in
      let d = capacity_sum g m g.leaves in
      omega arith
