-- What the workers found is joined with what the list had.
use Rattle.std.proofs.Common.{◌++◌, ℕ, ap, sym, subst, ◌∙◌, arith}
use Rattle.list_totals.proofs.Totals.{times_append}
use Rattle.series_core.specs.Pairs.{smallest}
use Rattle.search_machine.specs.Sound.{ListSound}
use Rattle.search_task.specs.Questions.{ground_of}
use Rattle.search_task.proofs.Grounds.{ground_fits}
use Rattle.nearest_answer.specs.NearLeaves.{leaves_in}
use Rattle.nearest_answer.proofs.TeamLists.{joined}
use Rattle.nearest_answer.proofs.team.scan_together.Goals as goal

pub returns-clause-met : goal.returns-clause-met
returns-clause-met g c met once sound =
    let s = c.args.search.now in
    let leaves = leaves_in c.args.entries.now in
    let found = c.in_ok-found.found.pairs in
    let held = c.args.list.now.pairs in
    subst (ListSound (ground_of s) (met ++ leaves))
    (sym (c.merge.ensures.pairs ∙ ap (λ (k : ℕ). smallest k (found ++ held)) c.requires.list.0))
    (joined (ground_of s) (ground_fits s c.k-k.ensures.searched) leaves met found held c.in_ok-found.ensures sound
    (λ l. let most = once l in let both = times_append l met leaves in omega (arith, most, both)))
