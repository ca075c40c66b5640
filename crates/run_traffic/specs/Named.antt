-- A named file: what is known of its bytes where it was read, and what shows that it was not to be had.
use Rattle.std.specs.Prelude.{◌≡◌, ℕ, ⊤, List, Option, None, Some, IfSome}
use Rattle.outside.specs.Count.{Rose}
use Rattle.outside.specs.Files.{Held}
use Rattle.series_file.specs.declared.error.FileError.{FileError}
use Rattle.series_file.specs.declared.error.FileError.TheVariants.{ReadFault, NoMemory}
use Rattle.run_traffic.specs.Traffic.{Reading}

-- the name is held, and this is so of its bytes
abbrev pub IsHeldAs : Held → List ℕ → (List ℕ → Type 0) → Type 0
IsHeldAs h name IsSo = (bytes : List ℕ) × (h name ≡ Some bytes) × IsSo bytes

-- where known, the name is held, and this is so of its bytes
abbrev pub HoldsBytes : Option Held → List ℕ → (List ℕ → Type 0) → Type 0
HoldsBytes held name IsSo = IfSome held (λ h. IsHeldAs h name IsSo)

-- no file has the name: the count of absent names rose, and where the files are known the name is not held
abbrev pub IsAbsent : Reading → List ℕ → Type 0
IsAbsent reading name = Rose reading.misses reading.more × IfSome reading.held (λ h. h name ≡ None)

-- opening or reading the file of this name failed: the count of faults rose, and the blamed name, where known, is this one
abbrev pub FailedReading : Reading → List ℕ → Type 0
FailedReading reading name = Rose reading.faults reading.later × IfSome reading.blamed (λ b. b ≡ name)

-- bytes can show this error: no failed read, and no want of memory
abbrev pub IsShown : FileError → Type 0
IsShown ReadFault = ⊥
IsShown NoMemory = ⊥
IsShown e = ⊤
