-- What a refusal of the system is for a program, by its kind, and which counter it raises.
use Rattle.std.specs.Prelude.{ℕ}
use Rattle.std.specs.declared.io.ErrorKind.{ErrorKind}
use Rattle.std.specs.declared.io.ErrorKind.TheVariants.{NotFound, OutOfMemory}
use Rattle.outside.specs.declared.faults.OpenFault.{OpenFault}
use Rattle.outside.specs.declared.faults.OpenFault.TheVariants.{Absent, Failed, NoMemory}
use Rattle.outside.specs.Count.{next_count}
use Rattle.real_outside.specs.declared.words.WordsFault.{WordsFault}
use Rattle.real_outside.specs.declared.words.WordsFault.TheVariants.{NotText, NoMemory as NoMemoryForWords}

-- why a file was not opened: it is absent, memory is wanted, or else the outside failed
abbrev pub open_fault_of : ErrorKind → OpenFault
open_fault_of NotFound = Absent
open_fault_of OutOfMemory = NoMemory
open_fault_of _ = Failed

-- the count of faults after a refusal to open a file: a failure alone raises it
abbrev pub faults_after : OpenFault → ℕ → ℕ
faults_after Failed faults = next_count faults
faults_after _ faults = faults

-- the count of misses after a refusal to open a file: an absent file alone raises it
abbrev pub misses_after : OpenFault → ℕ → ℕ
misses_after Absent misses = next_count misses
misses_after _ misses = misses

-- why the words cannot be had: memory is wanted, or a word is no text
abbrev pub words_fault_of : ErrorKind → WordsFault
words_fault_of OutOfMemory = NoMemoryForWords
words_fault_of _ = NotText

-- what stands for want of memory, or for a word that is no text
abbrev pub told_as : {S : Type 0} → WordsFault → S → S → S
told_as NoMemoryForWords memory usage = memory
told_as NotText memory usage = usage
