-- Refusals by tests: one test, one after another, and one at each item of a list.
use Rattle.std.specs.Prelude.{ℕ, ◌+◌, Bool, if◌then◌else◌, List, [], ◌∷◌, Option, None, Some, Result, Ok, Err}
use Rattle.certificate.specs.declared.error.Reject.{Reject}

-- why a result is a refusal, where it is one
abbrev pub refusal_of : {X : Type 0} → Result X Reject → Option Reject
refusal_of (Ok x) = None
refusal_of (Err reject) = Some reject

-- a refusal where the test fails
abbrev pub unless : Bool → Reject → Option Reject
unless holds reject = if holds then None else Some reject

-- a refusal where the test holds
abbrev pub when : Bool → Reject → Option Reject
when holds reject = if holds then Some reject else None

-- the first of two refusals
abbrev pub first_of : Option Reject → Option Reject → Option Reject
first_of None later = later
first_of (Some reject) later = Some reject

-- the first refusal of the items of a list, of which the first has this number
abbrev pub first_refusal : {X : Type 0} → (ℕ → X → Option Reject) → ℕ → List X → Option Reject
first_refusal test at [] = None
first_refusal test at (x ∷ xs) = first_of (test at x) (first_refusal test (at + 1) xs)
