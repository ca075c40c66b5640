-- How a call ends: the number of each status, and the status with which it ends where a test fails or none does.
use Rattle.std.specs.Prelude.{◌≡◌, ◌⊎◌, ℤ, pos, Bool, Option, None, Some, Result, Ok, Err, cond}
use Rattle.isearch_c.specs.declared.status.Status.{Status}
use Rattle.isearch_c.specs.declared.status.Status.TheVariants.{Done, NoIndex, HasIndex, WrongRows, WrongSettings, WrongQueries, WrongCount, WrongPlaces, WrongText, NoMemory}

-- the number of a status
abbrev pub code : Status → ℤ
code Done = pos 0
code NoIndex = pos 1
code HasIndex = pos 2
code WrongRows = pos 3
code WrongSettings = pos 4
code WrongQueries = pos 5
code WrongCount = pos 6
code WrongPlaces = pos 7
code WrongText = pos 8
code NoMemory = pos 9

-- the number of the status with which work ends
abbrev pub ended : {A : Type 0} → Result A Status → ℤ
ended (Ok _) = code Done
ended (Err status) = code status

-- a call ends with the status of the first test that fails; where none fails it is done, or memory ran out
abbrev pub EndsBy : Option Status → ℤ → Type 0
EndsBy (Some fault) r = r ≡ code fault
EndsBy None r = (r ≡ code Done) ⊎ (r ≡ code NoMemory)

-- the same of a call with a last test, which it makes of what it has found: memory may run out before
abbrev pub EndsThen : Option Status → Bool → Status → ℤ → Type 0
EndsThen (Some fault) passes last r = r ≡ code fault
EndsThen None passes last r = (r ≡ code (cond passes Done last)) ⊎ (r ≡ code NoMemory)
