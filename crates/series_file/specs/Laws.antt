-- Laws of series files, for the crates above to cite.
use Rattle.std.specs.Prelude.{◌≡◌, ℕ, ◌<◌, List, Option, None}
use Rattle.std.specs.List.{All}
use Rattle.series_core.specs.Collection.{Collection}
use Rattle.series_file.specs.Format.{IsFile}
use Rattle.series_file.specs.Faults.{fault}
use Rattle.series_file.specs.Stages.{IsForm}
use Rattle.series_file.specs.declared.error.Form.{Form}

-- the bytes stand for no other collection, in the same form
abbrev pub StandForOne : Type 0
StandForOne = (form : Form) (bytes : List ℕ) (rows others : Collection) (labels those : Option (List ℕ))
    → IsFile form bytes rows labels → IsFile form bytes others those → (rows ≡ others) × (labels ≡ those)

-- a file that stands for a collection passes all tests
abbrev pub FilesPass : Type 0
FilesPass = (form : Form) (bytes : List ℕ) (rows : Collection) (labels : Option (List ℕ))
    → IsFile form bytes rows labels → fault form bytes ≡ None

-- bytes that fail no test are a file, and stand for a collection
abbrev pub PassingStand : Type 0
PassingStand = (form : Form) (bytes : List ℕ) → IsForm form → All (λ b. b < 256) bytes → fault form bytes ≡ None
    → (rows : Collection) × (labels : Option (List ℕ)) × IsFile form bytes rows labels
