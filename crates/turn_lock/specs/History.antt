-- Histories of calls on one object: lists of the calls in the order in which they were applied.
use Rattle.std.specs.Prelude.{◌≡◌, ℕ, ◌==◌, List, [], ◌∷◌, ◌++◌, filter}
use Rattle.turn_lock.specs.declared.object.Entry.{Entry}

module _ {C R : Type 0} where
  -- the call c of the caller n, answered r
  abbrev pub entry : ℕ → C → R → Entry C R
  entry n c r = record { caller = n; call = c; reply = r }

  -- the calls of one caller, in their order
  abbrev pub calls_by : ℕ → List (Entry C R) → List (Entry C R)
  calls_by n log = filter (λ (e : Entry C R). e.caller == n) log

  -- the later history begins with the earlier one and ends with this entry
  abbrev pub EndsWith : List (Entry C R) → Entry C R → List (Entry C R) → Type 0
  EndsWith earlier e later = (between : List (Entry C R)) × (later ≡ (earlier ++ between) ++ e ∷ [])

module _ {S C R : Type 0} (next : S → ℕ → C → S × R) where
  -- where the history leaves an object that begins at s
  abbrev pub state_after : S → List (Entry C R) → S
  state_after s [] = s
  state_after s (e ∷ es) = state_after (next s e.caller e.call).0 es

  -- each reply is the one that the object gives after the calls before it
  abbrev pub IsLegal : S → List (Entry C R) → Type 0
  IsLegal s [] = Unit {0}
  IsLegal s (e ∷ es) =
      (e.reply ≡ (next s e.caller e.call).1) × IsLegal (next s e.caller e.call).0 es
