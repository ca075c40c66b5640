-- All places were drawn, each once, so the parts in order have one for each place.
use Rattle.std.proofs.Common.{◌≡◌, ℕ, List, length, sym, subst, All}
use Rattle.std.proofs.lemmas.List.Sorted.{All-permutation}
use Rattle.claim_word.specs.Passes.{EachDrawnOnce}
use Rattle.worker_team.proofs.Deeds.{each_did}
use Rattle.subtree_build.proofs.Passed.{passes_own, some_passes}
use Rattle.subtree_build.specs.declared.part.RootPart.{RootPart}
use Rattle.subtree_build.specs.Building.{HasBuilt, IsPartAt}
use Rattle.subtree_build.proofs.Placing.{builders_made, places_are}
use Rattle.subtree_build.proofs.building.end.Goals as goal

pub close-requires-clause-own : goal.close-requires-clause-own
close-requires-clause-own c =
    passes_own c.args.team.items _ c.in_ok-passes.ensures.passes (λ p. p.claims ≡ c.args.claims) c.requires.own

pub returns-clause-places : goal.returns-clause-places
returns-clause-places c =
    let found = c.args.found.now in
    let team = c.args.team in
    let passes = c.in_ok-passes.passes.items in
    let P : ℕ → Type 0 = λ n. EachDrawnOnce n passes in
    places_are c.args.settings.now found (length found.roots.items) passes c.in_ok-passes.made.items
    c.in_ok-parts.parts.items c.in_order.result.items
    (each_did (λ p m. HasBuilt c.args.settings.now found p m.items) team.items passes c.in_ok-passes.made.items
    c.requires.done c.in_ok-passes.ensures.passes c.in_ok-passes.ensures.made)
    c.in_ok-parts.ensures
    (some_passes team passes c.requires.some c.in_ok-passes.ensures.passes)
    (subst P c.requires.count c.close.ensures) c.in_order.ensures.moved c.in_order.ensures.ordered

pub returns-clause-built : goal.returns-clause-built
returns-clause-built c =
    let found = c.args.found.now in
    let made = IsPartAt c.args.settings.now found in
    let passes = c.in_ok-passes.passes.items in
    let P : List RootPart → Type 0 = λ ps. All made ps in
    All-permutation made c.in_ok-parts.parts.items c.in_order.result.items c.in_order.ensures.moved
    (subst P (sym c.in_ok-parts.ensures)
    (builders_made c.args.settings.now found passes c.in_ok-passes.made.items
    (each_did (λ p m. HasBuilt c.args.settings.now found p m.items) c.args.team.items passes
    c.in_ok-passes.made.items c.requires.done c.in_ok-passes.ensures.passes c.in_ok-passes.ensures.made)))
