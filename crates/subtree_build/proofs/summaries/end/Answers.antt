-- All chunks were drawn, each once, so the buffers together hold all members.
use Rattle.std.proofs.Common.{◌≡◌, ℕ, subst}
use Rattle.claim_word.specs.Passes.{EachDrawnOnce}
use Rattle.worker_team.proofs.Deeds.{each_did}
use Rattle.subtree_build.proofs.Passed.{passes_own, some_passes}
use Rattle.subtree_build.specs.Summaries.{HasSummarised}
use Rattle.subtree_build.proofs.Gathering.{hold_all}
use Rattle.subtree_build.proofs.summaries.end.Goals as goal

pub close-requires-clause-own : goal.close-requires-clause-own
close-requires-clause-own g c =
    passes_own c.args.team.items _ c.in_ok-passes.ensures.passes (λ p. p.claims ≡ c.args.claims) c.requires.own

pub returns-clause-members : goal.returns-clause-members
returns-clause-members g c =
    let rows = g.R.Rows.collection c.args.rows.now in
    let team = c.args.team in
    let passes = c.in_ok-passes.passes.items in
    let P : ℕ → Type 0 = λ n. EachDrawnOnce n passes in
    hold_all c.args.layout.now rows passes c.in_ok-passes.buffers.items
    (each_did (HasSummarised c.args.layout.now rows) team.items passes c.in_ok-passes.buffers.items
    c.requires.done c.in_ok-passes.ensures.passes c.in_ok-passes.ensures.made)
    (some_passes team passes c.requires.some c.in_ok-passes.ensures.passes)
    (subst P c.requires.chunks c.close.ensures)
