-- What a device of files tells: the bytes held under each name, the open file's name, and what is left of it.
use Rattle.std.specs.Prelude.{◌≡◌, ℕ, ◌≤◌, List, [], drop, Option, Some, None, Result, Err, IsSome, IfSome, OnSome}
use Rattle.outside.specs.declared.faults.OpenFault.{OpenFault}
use Rattle.outside.specs.declared.faults.OpenFault.TheVariants.{Failed}

-- the bytes of each file that is held, by name
abbrev pub Held : Type 0
Held = List ℕ → Option (List ℕ)

-- The named file is the open one: where the files' contents are known, it is held and all its bytes are left.
abbrev pub Opens : Option Held → List ℕ → Option (List ℕ) → Option (List ℕ) → Type 0
Opens None name at left = IfSome at (λ opened. opened ≡ name)
Opens (Some held) name at left = (at ≡ Some name) × IsSome (held name) × (left ≡ held name)

-- Where the files' contents are known, no file is open, and nothing is left.
abbrev pub IsClosed : Option Held → Option (List ℕ) → Option (List ℕ) → Type 0
IsClosed held at left = OnSome held ((at ≡ None) × (left ≡ Some []))

-- the blamed name, where known, is this one
abbrev pub Blames : Option (List ℕ) → Option (List ℕ) → Type 0
Blames name now = IfSome now (λ blamed. name ≡ Some blamed)

-- the blamed name after opening a file: where that failed its name, if known, and else the one before
abbrev pub BlamesOpen : {T : Type 0} → Result T OpenFault → List ℕ → Option (List ℕ)
    → Option (List ℕ) → Type 0
BlamesOpen (Err Failed) name before now = IfSome now (λ blamed. blamed ≡ name)
BlamesOpen _ name before now = now ≡ before

-- where known, at most n bytes were taken of what was left
abbrev pub TakesAtMost : ℕ → Option (List ℕ) → Option (List ℕ) → Type 0
TakesAtMost n before now = IfSome before (λ rest. (k : ℕ) × (k ≤ n) × (now ≡ Some (drop k rest)))
