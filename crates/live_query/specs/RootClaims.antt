-- The root children that workers claim, drawn in groups and given one by one: what a claim did, and when it is tied to a record.
use Rattle.std.specs.Prelude.{◌≡◌, ℕ, ◌+◌, ◌-◌, ◌*◌, ◌/◌, ◌<◌, ◌≤◌, ◌⊎◌, ◌&&◌, min, cond, List, Option, None, Some, true, false, nat_le, nat_lt}
use Rattle.list_totals.specs.Totals.{total, times}
use Rattle.list_totals.specs.Standing.{In}
use Rattle.claim_word.specs.Passes.{Claim as Counter, Pass, drew}
use Rattle.search_machine.specs.OwnRecord.{claims_of}

-- how many groups of `size` are cut from `count`
abbrev pub group_count : ℕ → ℕ → ℕ
group_count size count = (count + (size - 1)) / size

-- the root children below a count, in groups of one size, with the counter of the groups
pub record Roots : Type 0 where
  pub counter : Counter
  pub count : ℕ
  pub size : ℕ

-- what a worker drew: the record of its pass, and the numbers that it keeps, from `next` to below `end`
pub record Drawn : Type 0 where
  pub pass : Pass
  pub next : ℕ
  pub end : ℕ

-- with this pass, and nothing kept
abbrev pub fresh_drawn : Pass → Drawn
fresh_drawn pass = record { pass = pass; next = 0; end = 0 }

-- the draws are of these root children
pub record IsOwn (r : Roots) (d : Drawn) : Type 0 where
  pub claims : d.pass.claims ≡ r.counter
  pub met : d.pass.met ≤ r.counter.count
  pub end : d.end ≤ r.count

-- the next of those that are kept is given
pub record GivesNext (d : Drawn) (n : ℕ) (k : Drawn) : Type 0 where
  pub next : d.next ≡ n
  pub kept : n < d.end
  pub after : k ≡ record d { next = n + 1 }

-- none is kept, and the pass has not ended: a group is drawn, its first is given, and the others are kept
pub record GivesFirst (r : Roots) (d : Drawn) (n : ℕ) (k : Drawn) : Type 0 where
  pub none_kept : d.end ≤ d.next
  pub goes_on : d.pass.ended ≡ false
  pub group : ℕ
  pub low : group < r.counter.count
  pub met : d.pass.met ≤ group
  pub first : n ≡ group * r.size
  pub after : k ≡ record { pass = drew d.pass group; next = n + 1; end = min r.count (n + r.size) }

-- none is kept, and the pass has ended: it draws no group
pub record GivesNone (r : Roots) (d k : Drawn) : Type 0 where
  pub none_kept : d.end ≤ d.next
  pub pass : Pass
  pub after : k ≡ record d { pass = pass }
  pub claims : pass.claims ≡ d.pass.claims
  pub draws : pass.draws ≡ d.pass.draws
  pub ended : pass.ended ≡ true
  pub met : (d.pass.met ≤ pass.met) × (pass.met ≤ r.counter.count)

-- what a claim that gave this number, or none, did to a worker's draws
abbrev pub DidClaim : Roots → Drawn → Option ℕ → Drawn → Type 0
DidClaim r d (Some n) k = (n < r.count) × (GivesNext d n k ⊎ GivesFirst r d n k)
DidClaim r d None k = GivesNone r d k

-- 1 for a number from a on that is below b, and else 0
abbrev pub once_from : ℕ → ℕ → ℕ → ℕ
once_from a b c = cond (nat_le a c && nat_lt c b) 1 0

-- how often number c is kept
abbrev pub keeps : Drawn → ℕ → ℕ
keeps d c = once_from d.next d.end c

-- the draws are tied to the claims of a record: each number of a group that was drawn was given or is kept, and no other was given;
-- where none was given once, none is kept and no group is left
pub record DrawTied (r : Roots) (d : Drawn) (claims : List (Option ℕ)) : Type 0 where
  pub given : (c : ℕ) → c < r.count → total (claims_of c) claims + keeps d c ≡ times (c / r.size) d.pass.draws
  pub real : (c : ℕ) → r.count ≤ c → total (claims_of c) claims ≡ 0
  pub ended : In None claims → (d.pass.ended ≡ true) × (d.end ≤ d.next)
