use Rattle.std.proofs.Common.{◌∙◌, ap, map, string_bytes, rules, sym}
use Rattle.clap.specs.Words.{App, app_of, fault_of, is_simple_and_free, matches_of}
use Rattle.command_words.specs.CommandName.{faults_of, rows_of_words}
use Rattle.command_words.proofs.Names.{is_simple_app, is_simple_of_free}
use Rattle.command_words.proofs.Refusals.{no_fault_no_refusal}
use Rattle.command_words.proofs.matching.matches_of.Goals as goal

pub returns-in-Ok-clause-taken : goal.returns-in-Ok-clause-taken
unfolding faults_of
returns-in-Ok-clause-taken c =
    let same = c.in_ok-command.ensures in
    let words = map string_bytes c.args.words.now in
    sym (ap (λ (a : App). fault_of a words) same)
    ∙ c.in-Ok.ensures.kinds (ap is_simple_and_free same ∙ is_simple_app c.args.name)

pub returns-in-Ok-clause-matches : goal.returns-in-Ok-clause-matches
unfolding rows_of_words
returns-in-Ok-clause-matches c =
    let same = c.in_ok-command.ensures in
    let words = map string_bytes c.args.words.now in
    (c.in-Ok.ensures.matches
    (is_simple_of_free (app_of c.in_ok-command.command)
    (ap is_simple_and_free same ∙ is_simple_app c.args.name))).0
    ∙ ap (λ (a : App). matches_of a words) same

pub returns : goal.returns
unfolding faults_of
returns c =
    let same = c.in_ok-command.ensures in
    let kinds = c.in-Err.ensures.kinds (ap is_simple_and_free same ∙ is_simple_app c.args.name) in
    let words = map string_bytes c.args.words.now in
    record {
      taken = tt;
      matches = tt;
      usage = λ _ none.
          no_fault_no_refusal _ c.in-Err.error kinds (search rules)
          (ap (λ (a : App). fault_of a words) same ∙ none);
    }
