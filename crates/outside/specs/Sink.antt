-- What a sink tells: the bytes written so far.
use Rattle.std.specs.Prelude.{◌≡◌, ℕ, ◌≤◌, List, length, take, Option}
use Rattle.std.specs.Io.KnownBytes.{append_known}

-- A prefix of these bytes was appended.
abbrev pub AppendsPrefix : Option (List ℕ) → List ℕ → Option (List ℕ) → Type 0
AppendsPrefix before bytes now = (k : ℕ) × (k ≤ length bytes) × (now ≡ append_known before (take k bytes))
