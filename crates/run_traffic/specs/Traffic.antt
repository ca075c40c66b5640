-- What a run was handed to read from and to write to, and what reading and writing did.
use Rattle.std.specs.Prelude.{◌≡◌, ℕ, ◌≤◌, ◌⊎◌, List, Option}
use Rattle.std.specs.Io.KnownBytes.{append_known}
use Rattle.outside.specs.Count.{Rose}
use Rattle.outside.specs.Files.{Held}
use Rattle.outside.specs.Sink.{AppendsPrefix}
use Rattle.outside.specs.declared.files.Files.{Ghosts as FilesOf}
use Rattle.outside.specs.declared.sink.Sink.{Ghosts as SinkOf}

-- What was handed in to read from, and what reading did: the files, the counts of faults and of absent names
-- before and after, and the name of the file that failed. Files and name are there where they are known.
pub record Reading : Type 0 where
  pub held : Option Held
  pub faults : ℕ
  pub later : ℕ
  pub misses : ℕ
  pub more : ℕ
  pub blamed : Option (List ℕ)

-- What was handed in to write to, and what writing did: the bytes before and after, where known, the count of
-- faults before and after, and how many bytes were sure to be taken.
pub record Writing : Type 0 where
  pub before : Option (List ℕ)
  pub now : Option (List ℕ)
  pub faults : ℕ
  pub later : ℕ
  pub sure : ℕ

-- what reading did between two states of files of this kind
abbrev pub read_from : {F : Type 0} → FilesOf F → F → F → Reading
read_from files old new = record {
  held = files.held old;
  faults = files.faults old;
  later = files.faults new;
  misses = files.misses old;
  more = files.misses new;
  blamed = files.blamed new;
}

-- what writing did between two states of a sink of this kind
abbrev pub wrote_to : {S : Type 0} → SinkOf S → S → S → Writing
wrote_to sink old new =
    record { before = sink.written old; now = sink.written new; faults = sink.faults old; later = sink.faults new; sure = sink.sure old }

-- a part of a reading that goes on to its end
pub record EndsReading (whole part : Reading) : Type 0 where
  pub held : part.held ≡ whole.held
  pub faults : whole.faults ≤ part.faults
  pub misses : whole.misses ≤ part.misses
  pub later : part.later ≡ whole.later
  pub more : part.more ≡ whole.more
  pub blamed : part.blamed ≡ whole.blamed

-- this was appended, and nothing else
abbrev pub Appended : Writing → List ℕ → Type 0
Appended writing text = writing.now ≡ append_known writing.before text

-- nothing was written
abbrev pub WroteNothing : Writing → Type 0
WroteNothing writing = writing.now ≡ writing.before

-- the text was appended, or a prefix of it and the count of faults rose
abbrev pub Tells : List ℕ → Option (List ℕ) → Option (List ℕ) → ℕ → ℕ → Type 0
Tells text before now faults later =
    (now ≡ append_known before text) ⊎ (AppendsPrefix before text now × Rose faults later)
