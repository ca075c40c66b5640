use Rattle.std.proofs.Common.{◌∙◌, ◌++◌, List, ℕ, ap, append_assoc, sym}
use Rattle.std.specs.Prelude.{codes, decimal}
use Rattle.search_run.specs.declared.status.Status.{Status}
use Rattle.search_run.specs.Status.{cause_of}
use Rattle.search_run.proofs.StatusLines.{two_counted, number_counted}
use Rattle.search_run.proofs.output.tell.push_cause.Goals as goal

pub returns-in-Missing-clause-text : goal.returns-in-Missing-clause-text
returns-in-Missing-clause-text c =
    let line = c.args.line.now.bytes in
    c.push_str-in-Missing-2.ensures.bytes
    ∙ ap (λ (l : List ℕ). l ++ codes ": no such file") c.push_str-in-Missing.ensures.bytes
    ∙ append_assoc line c.word_of.result.now (codes ": no such file")
    ∙ ap (λ (w : List ℕ). line ++ (w ++ codes ": no such file")) c.word_of.ensures.word
    ∙ ap (λ (s : Status). line ++ cause_of s) (sym c.in-Missing.is)

pub returns-in-ReadFault-clause-text : goal.returns-in-ReadFault-clause-text
returns-in-ReadFault-clause-text c =
    let line = c.args.line.now.bytes in
    c.push_str-in-ReadFault-2.ensures.bytes
    ∙ ap (λ (l : List ℕ). l ++ codes ": read failed") c.push_str-in-ReadFault.ensures.bytes
    ∙ append_assoc line c.word_of-in-ReadFault.result.now (codes ": read failed")
    ∙ ap (λ (w : List ℕ). line ++ (w ++ codes ": read failed")) c.word_of-in-ReadFault.ensures.word
    ∙ ap (λ (s : Status). line ++ cause_of s) (sym c.in-ReadFault.is)

pub returns-in-Mismatch-clause-text : goal.returns-in-Mismatch-clause-text
returns-in-Mismatch-clause-text c =
    c.push_counted-in-Mismatch.ensures.text
    ∙ ap (λ line. line ++ (codes " and " ++ decimal c.from-in-Mismatch.result)) c.push_counted.ensures.text
    ∙ two_counted c.args.line.now.bytes (codes "lengths differ: ") (decimal c.from.result) (codes " and ") (decimal c.from-in-Mismatch.result)
    ∙ ap (λ a. c.args.line.now.bytes ++ (((codes "lengths differ: " ++ decimal a) ++ codes " and ") ++ decimal c.from-in-Mismatch.result)) c.from.ensures
    ∙ ap (λ b. c.args.line.now.bytes ++ (((codes "lengths differ: " ++ decimal c.in-Mismatch.a) ++ codes " and ") ++ decimal b)) c.from-in-Mismatch.ensures
    ∙ ap (λ (s : Status). c.args.line.now.bytes ++ cause_of s) (sym c.in-Mismatch.is)

pub returns-in-Settings-clause-text : goal.returns-in-Settings-clause-text
returns-in-Settings-clause-text c =
    c.push_counted-in-Settings.ensures.text
    ∙ ap (λ line. line ++ (codes " segments are more than length " ++ decimal c.from-in-Settings-2.result)) c.push_number.ensures.text
    ∙ number_counted c.args.line.now.bytes (decimal c.from-in-Settings.result) (codes " segments are more than length ") (decimal c.from-in-Settings-2.result)
    ∙ ap (λ a. c.args.line.now.bytes ++ ((decimal a ++ codes " segments are more than length ") ++ decimal c.from-in-Settings-2.result)) c.from-in-Settings.ensures
    ∙ ap (λ b. c.args.line.now.bytes ++ ((decimal c.in-Settings.w ++ codes " segments are more than length ") ++ decimal b)) c.from-in-Settings-2.ensures
    ∙ ap (λ (s : Status). c.args.line.now.bytes ++ cause_of s) (sym c.in-Settings.is)
