-- A collection with a label for each series: its own, or where it has none, the numbers of its series.
use Rattle.std.specs.Prelude.{◌≡◌, ℕ, List, Some, unwrap_or}
use Rattle.series_file.specs.Format.{HasText, numbers_of, text}
use Rattle.series_file.specs.declared.error.Form.{Form}
use Rattle.series_file.specs.declared.error.Form.TheVariants.{Headed}
use Rattle.series_file.specs.declared.error.Loaded.{Loaded}
use Rattle.search_run.specs.Loads.{Spells}

-- the same series with their labels, or where they have none, with their numbers as labels
abbrev pub labelled : Loaded → Loaded
labelled x = record { rows = x.rows; labels = Some (unwrap_or x.labels (numbers_of x.rows)) }

-- the text of a series file, of version 2, that has them so
abbrev pub converted_text : Loaded → List ℕ
converted_text x = text Headed (labelled x).rows (labelled x).labels

-- What is converted, of whatever form it was, is read back as these series with these labels, and as nothing else.
abbrev pub ConvertsBack : Type 0
ConvertsBack = (form : Form) (x : Loaded) → HasText form x.rows x.labels → Spells Headed (labelled x) (converted_text x)
    × ((y : Loaded) → Spells Headed y (converted_text x) → y ≡ labelled x)
