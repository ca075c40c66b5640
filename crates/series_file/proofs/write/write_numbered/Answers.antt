use Rattle.std.proofs.Common.{rules, ◌≡◌, Some, subst, sym}
use Rattle.series_file.specs.Format.{numbers_of, text, SpellsFile}
use Rattle.series_file.specs.declared.error.Form.TheVariants.{Headed}
use Rattle.series_file.proofs.Numbered.{spells_numbered}
use Rattle.series_file.proofs.write.write_numbered.Goals as goal

pub returns-clause-file : goal.returns-clause-file
returns-clause-file g c =
    let rows = g.R.Rows.collection c.args.rows.now in
    let spelled : c.append_values.new.bytes.items ≡ text Headed rows (Some (numbers_of rows)) = search rules in
    subst (SpellsFile rows (Some (numbers_of rows))) (sym spelled)
    (spells_numbered rows c.in_ok-append_values.ensures.sound)
