-- One worker more is merged; at the end the passes are those of all workers.
use Rattle.std.proofs.Common.{◌≡◌, List, [], ◌∷◌, ◌++◌, All, true, length, map, sym, ap, ◌∙◌, subst, arith, append_assoc, length-append}
use Rattle.std.specs.Vec.Iter.{into_iter_items}
use Rattle.std.proofs.lemmas.List.{append-nil, map_push, nil_from_length}
use Rattle.std.proofs.lemmas.List.Elements.{All-push, All-map}
use Rattle.claim_word.specs.Passes.{Pass, EachDrawnOnce}
use Rattle.series_core.specs.Pairs.{smallest}
use Rattle.list_team.specs.Searchers.{merged}
use Rattle.list_team.specs.declared.searcher.Searcher.{Searcher}
use Rattle.list_team.proofs.Merging.{merged_more}
use Rattle.list_team.proofs.team.dismiss.Goals as goal

pub loop-worker-preserved : goal.loop-worker-preserved
loop-worker-preserved c =
    let was = c.loop-worker.invariant in
    let done = c.loop-worker.yielded in
    let w = c.in-Some.worker in
    let k = c.args.k in
    record {
      whole = append_assoc done (w ∷ []) (into_iter_items c.next.new.self)
          ∙ (ap (λ l. done ++ l) (sym c.in-Some.ensures.steps.0) ∙ was.whole);
      passes = c.push_reserved.ensures.items ∙ (ap (λ l. l ++ w.pass ∷ []) was.passes
          ∙ sym (map_push (λ (v : Searcher). v.pass) done w));
      ended = All-push (λ (v : Searcher). v.ended ≡ true) done w was.ended c.if-not-ended.false;
      room = c.merge.ensures.k ∙ was.room;
      pairs = c.merge.ensures.pairs ∙ ((λ i. smallest (was.room i) (w.list.pairs ++ was.pairs i))
          ∙ sym (merged_more k [] done w));
      len = omega (arith, c.push_reserved.ensures.len, was.len, length-append done (w ∷ []));
      space = omega (arith, c.push_reserved.ensures.capacity, was.space);
    }

-- where none is left all were yielded
all_yielded : (done left all : List Searcher) → length left ≡ 0 → done ++ left ≡ all → done ≡ all
all_yielded done left all none whole =
    sym (append-nil done) ∙ (ap (λ (l : List Searcher). done ++ l) (sym (nil_from_length left none)) ∙ whole)

pub close-requires-clause-own : goal.close-requires-clause-own
close-requires-clause-own c =
    let own : Pass → Type 0 = λ p. p.claims ≡ c.args.claims in
    let left = c.loop-worker.worker-iterator in
    let whole = all_yielded c.loop-worker.yielded (into_iter_items left) c.args.team.items
    (omega (arith, c.in-None.ensures.steps.0, left.rest.ok.0)) c.loop-worker.invariant.whole in
    let P : List Pass → Type 0 = λ ps. All own ps in
    subst P (sym c.loop-worker.invariant.passes)
    (All-map own (λ (w : Searcher). w.pass) c.loop-worker.yielded
    (subst (λ ws. All (λ (w : Searcher). w.pass.claims ≡ c.args.claims) ws) (sym whole) c.requires.own))

pub returns-clause-pairs : goal.returns-clause-pairs
returns-clause-pairs c =
    let left = c.loop-worker.worker-iterator in
    let whole = all_yielded c.loop-worker.yielded (into_iter_items left) c.args.team.items
    (omega (arith, c.in-None.ensures.steps.0, left.rest.ok.0)) c.loop-worker.invariant.whole in
    c.loop-worker.invariant.pairs ∙ ap (λ (ws : List Searcher). merged c.args.k [] ws) whole

pub returns-clause-ended : goal.returns-clause-ended
returns-clause-ended c =
    let left = c.loop-worker.worker-iterator in
    let whole = all_yielded c.loop-worker.yielded (into_iter_items left) c.args.team.items
    (omega (arith, c.in-None.ensures.steps.0, left.rest.ok.0)) c.loop-worker.invariant.whole in
    subst (λ (ws : List Searcher). All (λ (w : Searcher). w.ended ≡ true) ws) whole c.loop-worker.invariant.ended

pub returns-clause-drawn : goal.returns-clause-drawn
returns-clause-drawn c =
    let left = c.loop-worker.worker-iterator in
    let whole = all_yielded c.loop-worker.yielded (into_iter_items left) c.args.team.items
    (omega (arith, c.in-None.ensures.steps.0, left.rest.ok.0)) c.loop-worker.invariant.whole in
    subst (λ (ps : List Pass). EachDrawnOnce c.args.claims.count ps)
    (c.loop-worker.invariant.passes ∙ ap (λ (ws : List Searcher). map (λ (w : Searcher). w.pass) ws) whole)
    c.close.ensures
