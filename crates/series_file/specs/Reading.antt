-- What reading a series file does to the files: how far it reads, what it leaves, and what else it changes.
use Rattle.std.specs.Prelude.{◌≡◌, ◌≢◌, ℕ, ◌+◌, ◌≤◌, ⊤, List, drop, Option, Some, Result, Ok, Err, IfSome, IsErrOf, is_some, if◌then◌else◌}
use Rattle.std.specs.Io.KnownBytes.{IsAtEnd}
use Rattle.outside.specs.Count.{Rose}
use Rattle.outside.specs.Files.{Held, IsClosed, Blames}
use Rattle.series_core.specs.Collection.{Collection}
use Rattle.series_file.specs.Format.{IsFile}
use Rattle.series_file.specs.Faults.{first_of, header_tests, size_of, raw_limit}
use Rattle.series_file.specs.declared.error.Form.{Form}
use Rattle.series_file.specs.declared.error.Form.TheVariants.{Headed, Raw}
use Rattle.series_file.specs.declared.error.FileError.{FileError}
use Rattle.series_file.specs.declared.error.FileError.TheVariants.{ReadFault, NoMemory}
use Rattle.series_file.specs.declared.error.Loaded.{Loaded}

-- The file was read to its end and, where its bytes are known, stands for what is handed out.
abbrev pub ReadsWhole : Form → Option (List ℕ) → Option (List ℕ) → Loaded → Type 0
ReadsWhole form before now loaded =
    IsAtEnd now × IfSome before (λ bytes. IsFile form bytes loaded.rows loaded.labels)

-- How many bytes are read at most: one past the end that the header states, or past the limit of a raw file.
-- Of a file whose header is refused the header alone is read.
abbrev pub reach : Form → List ℕ → ℕ
reach (Raw n) bytes = raw_limit n + 1
reach Headed bytes = if is_some (first_of (header_tests bytes)) then 16 else size_of bytes + 1

-- What an error leaves of the file, where known: what lies behind the reach. Where memory ran out, that or more.
-- After a failed read no file is open.
abbrev pub Leaves : (List ℕ → ℕ) → Option (List ℕ) → Option (List ℕ) → FileError → Type 0
Leaves far before now ReadFault = ⊤
Leaves far before now NoMemory =
    IfSome before (λ bytes. (k : ℕ) × (k ≤ far bytes) × (now ≡ Some (drop k bytes)))
Leaves far before now e = IfSome before (λ bytes. now ≡ Some (drop (far bytes) bytes))

-- What is answered is this collection with these labels, or an error that no bytes explain.
abbrev pub Answers : Collection → Option (List ℕ) → Result Loaded FileError → Type 0
Answers rows labels (Ok loaded) = (loaded.rows ≡ rows) × (loaded.labels ≡ labels)
Answers rows labels (Err ReadFault) = ⊤
Answers rows labels (Err NoMemory) = ⊤
Answers rows labels (Err e) = ⊥

-- Where the bytes are known and stand for a collection, that is what is read.
abbrev pub ReadsBack : Form → Option (List ℕ) → Result Loaded FileError → Type 0
ReadsBack form before result = IfSome before (λ bytes. (rows : Collection) (labels : Option (List ℕ))
    → IsFile form bytes rows labels → Answers rows labels result)

-- What reading does to the files whatever they hold. A failed read is counted, and blamed on the file that was
-- open; then none is. Else the same file stays open and the same is blamed. What is held stays, no count falls,
-- and no read fails where none can.
pub record Reads {F T : Type 0} (held : F → Option Held) (left at blamed : F → Option (List ℕ))
    (faults misses : F → ℕ) (reliable : F → Type 0) (result : Result T FileError) (old new : F) : Type 0 where
  pub failed : IsErrOf result ReadFault → Rose (faults old) (faults new)
      × IsClosed (held new) (at new) (left new) × Blames (at old) (blamed new)
  pub stays_open : (result ≢ Err ReadFault) → (at new ≡ at old) × (blamed new ≡ blamed old)
  pub kept : held new ≡ held old
  pub counts : (faults old ≤ faults new) × (misses old ≤ misses new)
  pub sure : reliable old → (result ≢ Err ReadFault) × (faults new ≡ faults old) × reliable new
