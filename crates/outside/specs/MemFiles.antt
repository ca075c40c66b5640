-- Files in memory: what they tell, and what each call answers.
use Rattle.std.specs.Prelude.{◌≡◌, ℕ, Bool, true, false, min, List, [], length, nat_eq, Option, None, Result, Ok, Err, is_ok, is_some, is_none, if◌then◌else◌}
use Rattle.std.specs.List.{list_any}
use Rattle.std.specs.Option.{option_map, option_and_then}
use Rattle.outside.specs.declared.faults.Failed.{Failed}
use Rattle.outside.specs.declared.faults.OpenFault.{OpenFault}
use Rattle.outside.specs.declared.faults.OpenFault.TheVariants.{Absent, Failed as OpenFailed}
use Rattle.outside.specs.declared.mem_files.MemFiles.{MemFiles}
use Rattle.outside.specs.Count.{next_count}
use Rattle.outside.specs.Files.{Held}
use Rattle.outside.specs.HeldFiles.{held_under, name_at, rest_of, open_name}

-- what is held under each name
abbrev pub held_in : MemFiles → Held
held_in files = held_under files.files.items

-- what is left of the open file
abbrev pub rest_in : MemFiles → List ℕ
rest_in files = rest_of files.files.items files.opened

-- the name of the open file
abbrev pub name_in : MemFiles → Option (List ℕ)
name_in files = open_name files.files.items files.opened

-- the name of the file whose opening or reading last failed, if it is held
abbrev pub blamed_in : MemFiles → Option (List ℕ)
blamed_in files = option_and_then (name_at files.files.items) files.blamed

-- how often a call failed
abbrev pub faults_in : MemFiles → ℕ
faults_in files = files.faults

-- how often a name was not found
abbrev pub misses_in : MemFiles → ℕ
misses_in files = files.misses

-- nothing was called yet
pub record IsFresh (files : MemFiles) : Type 0 where
  pub calls : (files.opens ≡ 0) × (files.reads ≡ 0)
  pub counts : (files.faults ≡ 0) × (files.misses ≡ 0)
  pub blamed : blamed_in files ≡ None

-- the cap of a read, and the calls that fail
pub record HasLimits (files : MemFiles) (cap : ℕ) (opens reads : List ℕ) : Type 0 where
  pub capped : files.cap ≡ cap
  pub fail_opens : files.fail_opens.items ≡ opens
  pub fail_reads : files.fail_reads.items ≡ reads

-- no call is listed to fail
abbrev pub FailsNever : MemFiles → Type 0
FailsNever files = (files.fail_opens.items ≡ []) × (files.fail_reads.items ≡ [])

-- the next call is in the list
abbrev pub is_next : ℕ → List ℕ → Bool
is_next calls listed = list_any (λ call. nat_eq call (next_count calls)) listed

-- the name, if it is held
abbrev pub held_name : MemFiles → List ℕ → Option (List ℕ)
held_name files name = option_map (λ _. name) (held_in files name)

-- the answer is that no file has the name
abbrev pub is_absent : Result (Unit {0}) OpenFault → Bool
is_absent (Err Absent) = true
is_absent _ = false

-- Opening a file fails where this opening is listed; else it succeeds where the name is held.
abbrev pub open_answer : MemFiles → List ℕ → Result (Unit {0}) OpenFault
open_answer files name =
    if is_next files.opens files.fail_opens.items then Err OpenFailed
    else (if is_some (held_in files name) then Ok tt else Err Absent)

-- A read of the open file fails where it is listed; else it gives the least of cap, room and what is left.
abbrev pub read_answer : MemFiles → ℕ → Result ℕ Failed
read_answer files room =
    if is_none files.opened then Ok 0
    else (if is_next files.reads files.fail_reads.items then Err record {}
    else Ok (min files.cap (min room (length (rest_in files)))))

-- what a call never changes: the files that are held, the cap and the lists
pub record SameFiles (old new : MemFiles) : Type 0 where
  pub files : new.files.items ≡ old.files.items
  pub cap : new.cap ≡ old.cap
  pub fail_opens : new.fail_opens.items ≡ old.fail_opens.items
  pub fail_reads : new.fail_reads.items ≡ old.fail_reads.items

-- opening a file answers as it must, and is counted
pub record OpensAs (old : MemFiles) (name : List ℕ) (result : Result (Unit {0}) OpenFault)
    (new : MemFiles) : Type 0 where
  pub answer : result ≡ open_answer old name
  pub counted : (new.opens ≡ next_count old.opens) × (new.reads ≡ old.reads)
  pub faults : new.faults
      ≡ (if is_next old.opens old.fail_opens.items then next_count old.faults else old.faults)
  pub misses : new.misses ≡ (if is_absent result then next_count old.misses else old.misses)
  pub blamed : blamed_in new
      ≡ (if is_next old.opens old.fail_opens.items then held_name old name else blamed_in old)
  pub same : SameFiles old new

-- a read answers as it must, and is counted where a file is open
pub record ReadsAs (old : MemFiles) (room : ℕ) (result : Result ℕ Failed) (new : MemFiles) : Type 0 where
  pub answer : result ≡ read_answer old room
  pub counted : (new.opens ≡ old.opens)
      × (new.reads ≡ (if is_none old.opened then old.reads else next_count old.reads))
  pub faults : new.faults ≡ (if is_ok result then old.faults else next_count old.faults)
  pub misses : new.misses ≡ old.misses
  pub blamed : blamed_in new ≡ (if is_ok result then blamed_in old else name_in old)
  pub same : SameFiles old new

-- the counts, the lists and what is blamed are as they were
pub record KeepsCalls (old new : MemFiles) : Type 0 where
  pub cap : new.cap ≡ old.cap
  pub lists : (new.fail_opens.items ≡ old.fail_opens.items) × (new.fail_reads.items ≡ old.fail_reads.items)
  pub calls : (new.opens ≡ old.opens) × (new.reads ≡ old.reads)
  pub counts : (new.faults ≡ old.faults) × (new.misses ≡ old.misses)
  pub blamed : blamed_in new ≡ blamed_in old

-- the same files in the same state
pub record IsUnchanged (old new : MemFiles) : Type 0 where
  pub files : new.files.items ≡ old.files.items
  pub opened : new.opened ≡ old.opened
  pub others : KeepsCalls old new
