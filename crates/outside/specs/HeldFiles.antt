-- The files that are held in memory, as a list: what is held under a name, and what is left of the open one.
use Rattle.std.specs.Prelude.{◌≡◌, ℕ, Bool, ◌+◌, ◌<◌, ◌≤◌, List, [], length, drop, Option, Some, None, find, slice_get}
use Rattle.std.specs.Option.{option_map, option_map_or, option_and_then}
use Rattle.std.specs.String.{string_bytes}
use Rattle.std.specs.Str.{bytes_eq}
use Rattle.outside.specs.declared.held_files.HeldFile.{HeldFile}
use Rattle.outside.specs.declared.held_files.OpenFile.{OpenFile}
use Rattle.outside.specs.Files.{Held}

-- the file has this name
abbrev pub has_name : List ℕ → HeldFile → Bool
has_name name file = bytes_eq (string_bytes file.name) name

-- the bytes of the first file of each name
abbrev pub held_under : List HeldFile → Held
held_under files name = option_map (λ file. file.bytes.items) (find (has_name name) files)

-- the name of the file at a place
abbrev pub name_at : List HeldFile → ℕ → Option (List ℕ)
name_at files place = option_map (λ file. string_bytes file.name) (slice_get files place)

-- the bytes of the file at a place, and none past the last
abbrev pub bytes_at : List HeldFile → ℕ → List ℕ
bytes_at files place = option_map_or (λ file. file.bytes.items) (slice_get files place) []

-- what is left of the open file; with no file open, nothing
abbrev pub rest_of : List HeldFile → Option OpenFile → List ℕ
rest_of files None = []
rest_of files (Some file) = drop file.taken (bytes_at files file.place)

-- the name of the open file
abbrev pub open_name : List HeldFile → Option OpenFile → Option (List ℕ)
open_name files file = option_and_then (λ f. name_at files f.place) file

-- the open file is one of those that are held, and no more was taken of it than it has
abbrev pub IsAmongHeld : List HeldFile → OpenFile → Type 0
IsAmongHeld files file = (file.place < length files) × (file.taken ≤ length (bytes_at files file.place))

-- the open file after `count` more bytes were taken
abbrev pub moved_on : OpenFile → ℕ → OpenFile
moved_on file count = record { place = file.place; taken = file.taken + count }

-- the file at this place is the one that is held under the name
pub record IsPlaceOf (files : List HeldFile) (name : List ℕ) (place : ℕ) : Type 0 where
  pub within : place < length files
  pub named : name_at files place ≡ Some name
  pub held : held_under files name ≡ Some (bytes_at files place)
