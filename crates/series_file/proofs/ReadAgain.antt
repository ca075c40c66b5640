-- A file that stands for a collection is read as that collection, since no other is spelled so and no test fails.
use Rattle.std.proofs.Common.{◌≡◌, ℕ, List, Option, None, Some, IfSome, sym, ◌∙◌}
use Rattle.std.specs.Prelude.{Result, Ok, Err, IfOk, IfErr}
use Rattle.std.proofs.lemmas.Option.{none-some}
use Rattle.series_core.specs.Collection.{Collection}
use Rattle.series_file.specs.Format.{IsFile}
use Rattle.series_file.specs.Faults.{fault}
use Rattle.series_file.specs.Stages.{Explains}
use Rattle.series_file.specs.Reading.{Answers, ReadsBack}
use Rattle.series_file.specs.declared.error.Form.{Form}
use Rattle.series_file.specs.declared.error.FileError.{FileError}
use Rattle.series_file.specs.declared.error.FileError.TheVariants.{ReadFault, NoMemory}
use Rattle.series_file.specs.declared.error.Loaded.{Loaded}
use Rattle.series_file.proofs.Passing.{no_fault}
use Rattle.series_file.proofs.Unique.{one_collection}

-- an error that such bytes explain is none
unexplained : (form : Form) (bytes : List ℕ) (rows : Collection) (labels : Option (List ℕ)) (e : FileError)
    → fault form bytes ≡ None → Explains form (Some bytes) e → Answers rows labels (Err e)
unexplained form bytes rows labels ReadFault passes x = tt
unexplained form bytes rows labels NoMemory passes x = tt
unexplained form bytes rows labels e passes x = none-some e (sym passes ∙ x)

-- what is handed out is the collection that the bytes stand for, and an error is not theirs
pub reads_back : (form : Form) (before : Option (List ℕ)) (r : Result Loaded FileError)
    → IfOk r (λ loaded. IfSome before (λ bytes. IsFile form bytes loaded.rows loaded.labels))
    → IfErr r (Explains form before) → ReadsBack form before r
reads_back form None r found refused = tt
reads_back form (Some bytes) (Ok loaded) found refused =
    λ rows labels file. one_collection form bytes loaded.rows rows loaded.labels labels found file
reads_back form (Some bytes) (Err e) found refused =
    λ rows labels file. unexplained form bytes rows labels e (no_fault form bytes rows labels file) refused
