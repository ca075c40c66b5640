-- What is converted is read back as the same series with the labels that were written (`converts_back`).
use Rattle.std.proofs.Common.{ℕ, List, Option, None, Some, refl, sym, ap, ◌∙◌}
use Rattle.std.proofs.lemmas.Option.{none-some}
use Rattle.series_file.specs.Format.{HasForm, HasText, IsFile}
use Rattle.series_file.specs.declared.error.Form.{Form}
use Rattle.series_file.specs.declared.error.Form.TheVariants.{Headed, Raw}
use Rattle.series_file.specs.declared.error.Loaded.{Loaded}
use Rattle.series_file.proofs.Numbered.{spells_numbered}
use Rattle.series_file.proofs.Unique.{one_collection}
use Rattle.search_run.specs.Conversions.{ConvertsBack, converted_text, labelled}
use Rattle.search_run.specs.Loads.{Spells}

-- a collection of whatever form has a text with its labels or numbers
converts : (form : Form) (x : Loaded) → HasText form x.rows x.labels → Spells Headed (labelled x) (converted_text x)
converts form x has = by_form form x.labels has.fits
  where
    by_form : (form : Form) (labels : Option (List ℕ)) → HasForm form x.rows labels
        → IsFile Headed (converted_text (record { rows = x.rows; labels = labels })) x.rows
        (labelled (record { rows = x.rows; labels = labels })).labels
    by_form form None fits = spells_numbered x.rows has.sound has.total
    by_form Headed (Some ls) fits =
        record { sound = has.sound; total = has.total; fits = fits; spelled = refl }
    by_form (Raw n) (Some ls) fits = absurd (none-some ls (sym fits.1))

-- and it is read back as that
pub converts_back : ConvertsBack
converts_back form x has =
    let file = converts form x has in (
      file,
      λ y other.
          let same = one_collection Headed (converted_text x) y.rows x.rows y.labels (labelled x).labels other file in
          ap (λ rows. record { rows = rows; labels = y.labels }) same.0
          ∙ ap (λ labels. record { rows = x.rows; labels = labels }) same.1,
    )
