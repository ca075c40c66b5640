-- What reading a script answers. Memory may run out at any byte.
use Rattle.std.specs.Prelude.{◌≡◌, ℕ, List, Result, Ok, Err}
use Rattle.live_script.specs.declared.error.ScriptError.{ScriptError}
use Rattle.live_script.specs.declared.error.ScriptError.TheVariants.{Line, NoMemory}
use Rattle.live_script.specs.declared.script.Group.{Group}
use Rattle.live_script.specs.Grammar.{IsFault}

-- an error of reading: the first line that is not in the grammar, or that memory ran out
abbrev pub IsRightError : List ℕ → ScriptError → Type 0
IsRightError bytes (Line at) = IsFault bytes at
IsRightError bytes NoMemory = Unit {0}

-- this script is read, unless memory runs out
abbrev pub ReadsAs : Result (List Group) ScriptError → List Group → Type 0
ReadsAs (Ok found) groups = found ≡ groups
ReadsAs (Err NoMemory) groups = Unit {0}
ReadsAs (Err (Line at)) groups = ⊥

-- this line is reported, unless memory runs out
abbrev pub RefusesAt : Result (List Group) ScriptError → ℕ → Type 0
RefusesAt (Ok found) at = ⊥
RefusesAt (Err NoMemory) at = Unit {0}
RefusesAt (Err (Line told)) at = told ≡ at
