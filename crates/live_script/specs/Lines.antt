-- The lines of scripts, each without its line feed.
use Rattle.std.specs.Prelude.{◌≡◌, ℕ, ◌<◌, ◌≤◌, ◌==◌, not, Bool, true, List, ◌∷◌, ◌++◌, length, codes, decimal}
use Rattle.std.specs.List.{list_all}
use Rattle.std.specs.Str.{IsUtf8}
use Rattle.series_core.specs.declared.best.TheConstants.{MAX_BEST}
use Rattle.live_script.specs.declared.line.Line.{Line}
use Rattle.live_script.specs.declared.line.Line.TheVariants.{Append, Ask}

-- whether a text has no such byte
abbrev pub lacks : ℕ → List ℕ → Bool
lacks byte text = list_all (λ c. not (c == byte)) text

-- a name is text, is not empty, and has neither a space nor a line feed
pub record IsName (name : List ℕ) : Type 0 where
  pub some : 0 < length name
  pub text : IsUtf8 name
  pub spaceless : lacks 32 name ≡ true
  pub one_line : lacks 10 name ≡ true

-- a text spells a number of 1 to 1024
pub record IsCount (text : List ℕ) (k : ℕ) : Type 0 where
  pub least : 1 ≤ k
  pub most : k ≤ MAX_BEST
  pub spelled : text ≡ decimal k

-- the queries of a file may be asked for k series
pub record IsAsked (name : List ℕ) (k : ℕ) : Type 0 where
  pub named : IsName name
  pub least : 1 ≤ k
  pub most : k ≤ MAX_BEST

-- the line that appends a batch
abbrev pub append_line : List ℕ → List ℕ
append_line name = codes "append " ++ name

-- a name and a number, parted by a space
abbrev pub asked_text : List ℕ → ℕ → List ℕ
asked_text name k = name ++ (32 ∷ decimal k)

-- the line that asks queries for k series
abbrev pub ask_line : List ℕ → ℕ → List ℕ
ask_line name k = codes "ask " ++ asked_text name k

-- a line appends the batch of this file
pub record Appends (line name : List ℕ) : Type 0 where
  pub right : IsName name
  pub text : line ≡ append_line name

-- a line asks the queries of this file for k series
pub record Asks (line name : List ℕ) (k : ℕ) : Type 0 where
  pub right : IsAsked name k
  pub text : line ≡ ask_line name k

-- what a line says
abbrev pub Says : List ℕ → Line → Type 0
Says line (Append name) = Appends line name.now
Says line (Ask name k) = Asks line name.now k

-- a line is not in the grammar
pub record IsNoLine (line : List ℕ) : Type 0 where
  pub appends : (name : List ℕ) → Appends line name → ⊥
  pub asks : (name : List ℕ) (k : ℕ) → Asks line name k → ⊥

-- the first such byte of a text stands between these
pub record IsCut (byte : ℕ) (text front behind : List ℕ) : Type 0 where
  pub first : lacks byte front ≡ true
  pub joined : text ≡ front ++ (byte ∷ behind)
