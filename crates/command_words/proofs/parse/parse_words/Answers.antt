use Rattle.std.proofs.Common.{◌≡◌, Some, map, option_and_then, rules, string_bytes}
use Rattle.std.specs.Prelude.{slice_get}
use Rattle.std.proofs.lemmas.Result.{IfOk-weaker}
use Rattle.command_words.specs.CommandName.{named_by}
use Rattle.command_words.specs.Options.{rows}
use Rattle.command_words.specs.Settings.{name_of, options_of}
use Rattle.command_words.proofs.Absent.{holds_absence}
use Rattle.command_words.proofs.IndexAlone.{index_alone}
use Rattle.command_words.proofs.Named.{has_settings, refused_words}
use Rattle.command_words.proofs.OneSettings.{one_command}
use Rattle.command_words.proofs.Within.{fits_within}
use Rattle.command_words.proofs.parse.parse_words.Goals as goal

pub returns-clause-ok : goal.returns-clause-ok
returns-clause-ok c =
    let words = map string_bytes c.args.words.now in
    let found : option_and_then named_by (slice_get words 0) ≡ Some c.in_ok-name.name =
    search rules in
    let none = c.in_ok-matches.ensures.taken in
    let same = c.in_ok-matches.ensures.matches in
    IfOk-weaker c.command_given.result _ _
    (λ r h. has_settings words c.in_ok-name.name found _ r none same h)
    c.command_given.ensures.ok

pub returns-in_err-matches-clause-usage : goal.returns-in_err-matches-clause-usage
returns-in_err-matches-clause-usage c = λ usage given h.
    let words = map string_bytes c.args.words.now in
    let found : option_and_then named_by (slice_get words 0) ≡ Some c.in_ok-name.name =
    search rules in
    refused_words words c.in_ok-name.name found
    (c.in_err-matches.ensures.usage (search rules)) given h

pub returns-clause-limits : goal.returns-clause-limits
returns-clause-limits c =
    IfOk-weaker c.command_given.result _ _
    (λ r h. fits_within (rows c.in_ok-matches.matches) r h.1)
    c.command_given.ensures.ok

pub returns-clause-absent : goal.returns-clause-absent
returns-clause-absent c =
    let words = map string_bytes c.args.words.now in
    IfOk-weaker c.command_given.result _ _
    (λ r h. holds_absence (name_of r) words (options_of r) h.fits.options)
    (returns-clause-ok c)

pub returns-clause-alone : goal.returns-clause-alone
returns-clause-alone c =
    let words = map string_bytes c.args.words.now in
    IfOk-weaker c.command_given.result _ _
    (λ r h. index_alone _ r h.fits (holds_absence (name_of r) words (options_of r) h.fits.options))
    (returns-clause-ok c)

pub returns-clause-same : goal.returns-clause-same
returns-clause-same c = λ given h.
    let words = map string_bytes c.args.words.now in
    IfOk-weaker c.command_given.result _ _
    (λ r g. one_command words r given g h)
    (returns-clause-ok c)
