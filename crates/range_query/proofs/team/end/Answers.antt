-- All root children were drawn, each once, so what was found is all that is near.
use Rattle.std.proofs.Common.{◌≡◌, ℕ, ◌<◌, List, All, length, sym, ap, subst, arith}
use Rattle.std.proofs.lemmas.List.{length-map}
use Rattle.std.proofs.lemmas.List.Elements.{All-map}
use Rattle.claim_word.specs.Passes.{Pass, EachDrawnOnce}
use Rattle.worker_team.proofs.Deeds.{each_did}
use Rattle.range_query.specs.Done.{IsDone}
use Rattle.range_query.specs.Searches.{asked_of}
use Rattle.range_query.proofs.Together.{found_by_team}
use Rattle.range_query.proofs.team.end.Goals as goal

pub close-requires-clause-own : goal.close-requires-clause-own
close-requires-clause-own g c =
    let own : Pass → Type 0 = λ p. p.claims ≡ c.args.claims in
    let P : List Pass → Type 0 = λ ps. All own ps in
    subst P (sym c.in_ok-passes.ensures.passes) (All-map own (λ w. w.pass) c.args.team.items c.requires.own)

pub returns : goal.returns
returns g c =
    let team = c.args.team in
    let passes = c.in_ok-passes.passes.items in
    let made = c.in_ok-passes.made.items in
    let search = c.args.search.now in
    let index = search.index.now in
    let asked = asked_of g.R.Rows.collection search in
    let some : 0 < length passes = omega (
      arith,
      c.requires.some,
      team.ok.0,
      ap length c.in_ok-passes.ensures.passes,
      length-map team.items (λ w. w.pass),
    ) in
    let P : ℕ → Type 0 = λ n. EachDrawnOnce n passes in
    found_by_team asked index _ c.requires.ready.0 search.size passes made c.in_ok-found.found.items
    c.sort_unstable.new.self.items c.requires.size (subst P c.requires.count c.close.ensures) some
    (each_did (λ p m. IsDone asked index search.size p m.items) team.items passes made
    c.requires.done c.in_ok-passes.ensures.passes c.in_ok-passes.ensures.made)
    c.in_ok-found.ensures c.sort_unstable.ensures.permutation c.sort_unstable.ensures.sorted
