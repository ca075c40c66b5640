-- The grammar of scripts: the text that a script has, and the first line of bytes that are no script's text.
use Rattle.std.specs.Prelude.{◌≡◌, ℕ, ◌-◌, ◌<◌, List, [], ◌∷◌, ◌++◌, length, map}
use Rattle.std.specs.List.{flat_map, range_with_len, AllByRecursion}
use Rattle.live_script.specs.declared.script.Asking.{Asking}
use Rattle.live_script.specs.declared.script.Group.{Group}
use Rattle.live_script.specs.Lines.{IsName, IsAsked, append_line, ask_line, Appends, Asks}

-- an asking names a file and asks for 1 to 1024 series
abbrev pub IsAsking : Asking → Type 0
IsAsking a = IsAsked a.queries.name a.k

-- a group names a file, and each of its askings is one
pub record IsGroup (g : Group) : Type 0 where
  pub name : IsName g.batch.name
  pub askings : AllByRecursion IsAsking g.askings

-- the line of an asking
abbrev pub asking_line : Asking → List ℕ
asking_line a = ask_line a.queries.name a.k

-- the lines of a group: its batch, then its askings
abbrev pub group_lines : Group → List (List ℕ)
group_lines g = append_line g.batch.name ∷ map asking_line g.askings

-- the lines of a script
abbrev pub script_lines : List Group → List (List ℕ)
script_lines groups = flat_map group_lines groups

-- lines, each ended by a line feed
abbrev pub lines_text : List (List ℕ) → List ℕ
lines_text lines = flat_map (λ line. line ++ (10 ∷ [])) lines

-- the text of a script
abbrev pub script_text : List Group → List ℕ
script_text groups = lines_text (script_lines groups)

-- the numbers that a group gives its lines
abbrev pub group_numbers : Group → List ℕ
group_numbers g = g.batch.line ∷ map (λ a. a.queries.line) g.askings

-- the numbers that a script gives its lines
abbrev pub script_numbers : List Group → List ℕ
script_numbers groups = flat_map group_numbers groups

-- the bytes are the text of this script, whose lines are counted from 1
pub record IsScript (bytes : List ℕ) (groups : List Group) : Type 0 where
  pub right : AllByRecursion IsGroup groups
  pub numbers : script_numbers groups ≡ range_with_len 1 (length (script_lines groups))
  pub text : bytes ≡ script_text groups

-- the bytes begin with `count` lines of a script
pub record Begins (count : ℕ) (bytes : List ℕ) : Type 0 where
  pub groups : List Group
  pub rest : List ℕ
  pub right : AllByRecursion IsGroup groups
  pub size : length (script_lines groups) ≡ count
  pub text : bytes ≡ script_text groups ++ rest

-- line `at` is the first that is not in the grammar: the lines before it begin a script, with it they do not, and
-- without it they are not all
pub record IsFault (bytes : List ℕ) (at : ℕ) : Type 0 where
  pub before : Begins (at - 1) bytes
  pub here : Begins at bytes → ⊥
  pub more : (groups : List Group) → IsScript bytes groups → ⊥

-- one more line stands behind the lines of a script, with this number
pub record AddsLine (at : ℕ) (line : List ℕ) (before after : List Group) : Type 0 where
  pub lines : script_lines after ≡ script_lines before ++ (line ∷ [])
  pub numbers : script_numbers after ≡ script_numbers before ++ (at ∷ [])
  pub right : AllByRecursion IsGroup before → AllByRecursion IsGroup after

-- a line may not stand behind the lines of a script
pub record NoneFollows (line : List ℕ) (groups : List Group) : Type 0 where
  pub appends : (name : List ℕ) → Appends line name → ⊥
  pub asks : 0 < length groups → (name : List ℕ) (k : ℕ) → Asks line name k → ⊥
