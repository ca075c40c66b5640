-- One more place was drawn, and its root child was made behind the others.
use Rattle.std.proofs.Common.{◌∷◌, [], ◌++◌, List, All, sym, ap, ◌∙◌, subst, arith}
use Rattle.std.proofs.lemmas.List.{map-append}
use Rattle.std.proofs.lemmas.List.Elements.{All-push}
use Rattle.claim_word.specs.Passes.{Pass}
use Rattle.subtree_build.specs.declared.part.RootPart.{RootPart}
use Rattle.subtree_build.specs.Building.{IsPartAt, places_of}
use Rattle.subtree_build.proofs.building.built.Goals as goal

pub of_place-requires-clause-place : goal.of_place-requires-clause-place
of_place-requires-clause-place g c = omega (arith, c.in-Some.ensures.number.0, c.requires.count)

pub loop-place-smaller : goal.loop-place-smaller
loop-place-smaller g c =
    omega (arith, ap (λ (p : Pass). p.met) c.in-Some.ensures.drawn, c.in-Some.ensures.number.0, c.in-Some.ensures.number.1)

pub loop-place-preserved : goal.loop-place-preserved
loop-place-preserved g c =
    let was = c.loop-place.invariant in
    let parts = c.loop-place.parts.items in
    let part = c.in_ok-part.part in
    let drawn = c.in-Some.ensures.drawn in
    let items = c.in_ok-push.ensures.items in
    let are = IsPartAt c.args.settings.now c.args.found.now in
    let P : List RootPart → Type 0 = λ ps. All are ps in (
      ap (λ (p : Pass). p.claims) drawn ∙ was.0,
      ap (λ (p : Pass). p.ended) drawn ∙ was.1,
      ap places_of items
          ∙ map-append (λ (p : RootPart). p.place) parts (part ∷ [])
          ∙ ap (λ ns. ns ++ part.place ∷ []) was.2
          ∙ ap (λ n. c.loop-place.worker.pass.draws ++ n ∷ []) c.in_ok-part.ensures.place
          ∙ sym (ap (λ (p : Pass). p.draws) drawn),
      subst P (sym items) (All-push are parts part was.3 c.in_ok-part.ensures.part),
    )

pub returns-in_default-clause-done : goal.returns-in_default-clause-done
returns-in_default-clause-done g c =
    let was = c.loop-place.invariant in
    let ended = c.in_default.ensures.ended in
    record {
      ended = ap (λ (p : Pass). p.ended) ended;
      drawn = was.2 ∙ sym (ap (λ (p : Pass). p.draws) ended);
      made = was.3;
    }
