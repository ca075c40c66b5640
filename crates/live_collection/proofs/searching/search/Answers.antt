-- Each batch gives its own nearest, whose numbers are counted on from the series that were passed.
use Rattle.std.proofs.Common.{◌≡◌, ◌<◌, ◌≤◌, ◌++◌, ◌∷◌, [], List, All, length, map, sym, ap, ◌∙◌, subst, append-nil, length-append, arith}
use Rattle.std.specs.Prelude.{ℤ}
use Rattle.std.proofs.lemmas.List.{map-append}
use denote.Ref.{Bor}
use Rattle.series_core.specs.Answer.{answer, pairs_from}
use Rattle.series_core.specs.Collection.{Collection}
use Rattle.series_core.specs.Pairs.{smallest}
use Rattle.series_core.specs.declared.pair.Pair.{Pair}
use Rattle.series_core.proofs.Plain.{answer-smallest}
use Rattle.live_collection.specs.declared.batch.Batch.{Batch}
use Rattle.live_collection.specs.Histories.{series_of}
use Rattle.live_collection.specs.Numbers.{counted_from, HasPoints}
use Rattle.live_collection.proofs.Counting.{answer_below, counted_on}
use Rattle.live_collection.proofs.PartsSoFar.{passed, passed_more, series_of-push, All-middle, within_all}
use Rattle.live_collection.proofs.searching.search.Goals as goal

pub nearest-requires-clause-length : goal.nearest-requires-clause-length
nearest-requires-clause-length c =
    let batch = c.in-Some.part.now in
    let done = passed c.loop-part.yielded in
    let whole : done ++ batch ∷ c.next.new.self ≡ c.args.parts.now
    = ap (λ (l : List Batch). done ++ l) (sym c.in-Some.ensures.steps) ∙ c.loop-part.invariant.whole in
    sym (ap (λ (b : Batch). b.series.points) c.batch-batch.ensures
    ∙ All-middle (HasPoints (length c.args.query.now)) done c.next.new.self batch
    (subst (All (HasPoints (length c.args.query.now))) (sym whole) c.requires.points))

pub add_counted-requires : goal.add_counted-requires
add_counted-requires c =
    let batch = c.in-Some.part.now in
    let done = passed c.loop-part.yielded in
    let whole : done ++ batch ∷ c.next.new.self ≡ c.args.parts.now
    = ap (λ (l : List Batch). done ++ l) (sym c.in-Some.ensures.steps) ∙ c.loop-part.invariant.whole in
    let room = within_all 16777216 done c.next.new.self batch
    (subst (λ (l : List Batch). length (series_of l) ≤ 16777216) (sym whole) c.requires.few) in
    let found : c.deref.result.now ≡ answer batch.series c.args.query.now c.args.k
    = c.deref.ensures.value ∙ c.found.view_is ∙ c.in_ok-found.ensures
    ∙ ap (λ (b : Batch). answer b.series c.args.query.now c.args.k) c.batch-batch.ensures in
    let below : All (λ p. p.number < length batch.series.series) c.deref.result.now
    = subst (All (λ (p : Pair). p.number < length batch.series.series)) (sym found)
    (answer_below batch.series c.args.query.now c.args.k) in
    λ k d h. let low = below k d h in let count = c.loop-part.invariant.count in omega arith

pub loop-part-preserved : goal.loop-part-preserved
loop-part-preserved c =
    let part = c.in-Some.part in
    let yielded = c.loop-part.yielded in
    let done = passed yielded in
    let batch = part.now in
    let query = c.args.query.now in
    let was = c.loop-part.invariant in
    let more : passed (yielded ++ part ∷ []) ≡ done ++ batch ∷ []
    = map-append (λ (x : Bor Batch). x.now) yielded (part ∷ []) in
    let series : series_of (passed (yielded ++ part ∷ [])) ≡ series_of done ++ batch.series.series
    = ap series_of more ∙ series_of-push done batch in
    let found : c.deref.result.now ≡ smallest c.args.k (pairs_from 0 batch.series.series query)
    = c.deref.ensures.value ∙ c.found.view_is ∙ c.in_ok-found.ensures
    ∙ ap (λ (b : Batch). answer b.series query c.args.k) c.batch-batch.ensures
    ∙ answer-smallest batch.series query c.args.k in
    let counted : c.count-count.result ≡ length batch.series.series
    = c.count-count.ensures.count ∙ ap (λ (b : Batch). length b.series.series) c.batch-batch.ensures in
    let both = length-append (series_of done) batch.series.series in record {
      whole = passed_more yielded part c.args.parts.now c.loop-part.part-iterator c.next.new.self was.whole c.in-Some.ensures.steps;
      k = c.add_counted.ensures.k ∙ was.k;
      count = (let l = ap length series in let w = was.count in omega (arith, l, w, both, counted));
      pairs = c.add_counted.ensures.pairs
          ∙ ap (λ n. smallest n (map (counted_from c.loop-part.count) c.deref.result.now ++ c.loop-part.best.pairs)) was.k
          ∙ ap (λ n. smallest c.args.k (map (counted_from n) c.deref.result.now ++ c.loop-part.best.pairs)) was.count
          ∙ counted_on c.args.k (series_of done) batch.series.series query c.loop-part.best.pairs c.deref.result.now was.pairs found
          ∙ ap (λ (s : List (List ℤ)). smallest c.args.k (pairs_from 0 s query)) (sym series);
    }

pub returns-clause-pairs : goal.returns-clause-pairs
returns-clause-pairs c =
    let query = c.args.query.now in
    let all : passed c.loop-part.yielded ≡ c.args.parts.now
    = sym (append-nil (passed c.loop-part.yielded))
    ∙ ap (λ (l : List Batch). passed c.loop-part.yielded ++ l) (sym c.in-None.ensures.steps.0) ∙ c.loop-part.invariant.whole in
    let whole : Collection = record { points = length query; series = series_of c.args.parts.now } in
    c.in_ok-items.ensures.items_if_clones_equal (λ x y e. e) ∙ c.pairs.ensures.pairs ∙ c.loop-part.invariant.pairs
    ∙ ap (λ (bs : List Batch). smallest c.args.k (pairs_from 0 (series_of bs) query)) all
    ∙ sym (answer-smallest whole query c.args.k)
