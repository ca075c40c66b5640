-- What a pop answers and what it leaves: the rule is that one draw decides both.
use Rattle.std.specs.Prelude.{◌≡◌, ℕ, ◌<◌, ◌≤◌, ◌∷◌, [], ◌++◌, List, true, All, Option, Some, None, IfSome, length, nat_le, if◌then◌else◌}
use Rattle.series_core.specs.declared.queue_words.Entry.{Entry}
use Rattle.series_core.specs.declared.queue_words.PopReply.{PopReply}
use Rattle.series_core.specs.declared.queue_words.PopReply.TheVariants.{Leaf, Closed}
use Rattle.claim_word.specs.Passes.{drew as drawn}
use Rattle.sealed_runs.specs.Entries.{Run, entry_at}
use Rattle.sealed_runs.specs.Visits.{Visit, leaves}

-- P holds of the entry of a Leaf reply
abbrev pub IfLeaf : PopReply → (Entry → Type 0) → Type 0
IfLeaf (Leaf e) P = P e
IfLeaf (Closed v) P = Unit {0}

-- P holds of the limit of a Closed reply
abbrev pub IfClosed : PopReply → (ℕ → Type 0) → Type 0
IfClosed (Leaf e) P = Unit {0}
IfClosed (Closed v) P = P v

-- the visit after its pass drew place n
abbrev pub drew : Visit → ℕ → Visit
drew v n = record v { claim = drawn (v.claim) n }

-- the visit after its pass found all places drawn
abbrev pub ended : Visit → ℕ → Visit
ended v count = record v { claim = record (v.claim) { met = count; ended = true } }

-- the reply and the visit after a draw: an entry whose bound is at most the limit is handed out; a place whose entry
-- is above the limit, and the end of the run, close it
abbrev pub popped : List Entry → ℕ → Visit → Option ℕ → PopReply × Visit
popped es limit v None = (Closed limit, record (ended v (length es)) { closed = Some limit })
popped es limit v (Some n) =
    if nat_le (entry_at es n).bound limit
    then (Leaf (entry_at es n), drew v n)
    else (Closed limit, record (drew v n) { refused = Some n; closed = Some limit })

-- a reply and the visit after it are those of one draw: a place of the run above those drawn before, or none
pub record Pops (run : Run) (limit : ℕ) (reply : PopReply) (v w : Visit) : Type 0 where
  pub drawn : Option ℕ
  pub place : IfSome drawn
      (λ n. (n < length run.entries) × (v.claim.met ≤ n) × All (λ x. x < n) v.claim.draws)
  pub is : (reply, w) ≡ popped run.entries limit v drawn

-- what a Leaf reply says: the entry's bound is at most the limit, it is the visit's next Leaf reply, the run goes on,
-- and one more place of the run is known drawn
pub record Gives (run : Run) (limit : ℕ) (v w : Visit) (e : Entry) : Type 0 where
  pub near : e.bound ≤ limit
  pub going : w.closed ≡ None
  pub next : leaves run.entries w ≡ leaves run.entries v ++ e ∷ []
  pub drawn : v.claim.met < w.claim.met
  pub most : w.claim.met ≤ length run.entries

-- what a Closed reply says: its limit is the pop's, the visit keeps it, and no entry is handed out
pub record Shuts (run : Run) (limit : ℕ) (v w : Visit) (told : ℕ) : Type 0 where
  pub same : told ≡ limit
  pub shut : w.closed ≡ Some limit
  pub none : leaves run.entries w ≡ leaves run.entries v
