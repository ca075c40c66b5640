-- The parts are then all batches that were accepted in what the reader has seen.
use Rattle.std.proofs.Common.{◌≡◌, ℕ, ◌≤◌, List, All, IfOk, Result, Ok, Err, length, sym, ap, ◌∙◌, subst}
use Rattle.series_core.specs.Answer.{answer}
use Rattle.series_core.specs.Collection.{Collection}
use Rattle.live_collection.specs.declared.batch.Batch.{Batch}
use Rattle.live_collection.specs.Histories.{appended, series_of, standing}
use Rattle.live_collection.specs.Numbers.{HasPoints}
use Rattle.live_collection.specs.Sides.{points_of, reader_saw}
use Rattle.live_collection.proofs.Holding.{held}
use Rattle.live_collection.proofs.Endings.{standing_grows}
use Rattle.live_collection.proofs.live.LiveCollection.ask.Goals as goal

-- what holds of a value holds of it more weakly
if_ok : {A E : Type 0} (r : Result A E) (P Q : A → Type 0) → ((x : A) → P x → Q x) → IfOk r P → IfOk r Q
if_ok (Ok x) P Q f h = f x h
if_ok (Err e) P Q f h = h

pub search-requires-clause-points : goal.search-requires-clause-points
search-requires-clause-points g c =
    let k = c.args.self.now in
    let seen = reader_saw c.learn.new.reader in
    let holds = held (points_of k) k.readers seen c.learn.ensures.asks.1.legal in
    subst (λ (bs : List Batch). All (HasPoints (length c.args.query.now)) bs) (sym c.learn.ensures.all)
    (subst (λ n. All (HasPoints n) (appended seen)) (sym c.requires.query) holds.each)

pub search-requires-clause-few : goal.search-requires-clause-few
search-requires-clause-few g c =
    let k = c.args.self.now in
    let seen = reader_saw c.learn.new.reader in
    let holds = held (points_of k) k.readers seen c.learn.ensures.asks.1.legal in
    subst (λ (bs : List Batch). length (series_of bs) ≤ 16777216) (sym c.learn.ensures.all)
    (subst (λ n. n ≤ 16777216) holds.series holds.limit)

pub returns-clause-count : goal.returns-clause-count
returns-clause-count g c =
    subst (λ (bs : List Batch). IfOk c.search.result (λ r. r.count ≡ length (series_of bs))) c.learn.ensures.all c.search.ensures.count

pub returns-clause-pairs : goal.returns-clause-pairs
returns-clause-pairs g c =
    let query = c.args.query.now in
    let searched : ℕ → List Batch → Collection = λ n bs. record { points = n; series = series_of bs } in
    subst (λ n. IfOk c.search.result (λ r. r.pairs ≡ answer (searched n (appended (reader_saw c.learn.new.reader))) query c.args.k))
    c.requires.query
    (subst (λ (bs : List Batch). IfOk c.search.result (λ r. r.pairs ≡ answer (searched (length query) bs) query c.args.k))
    c.learn.ensures.all c.search.ensures.pairs)

pub returns-clause-no_fewer : goal.returns-clause-no_fewer
returns-clause-no_fewer g c =
    let old = reader_saw c.args.reader.now in
    let new = reader_saw c.learn.new.reader in
    let grows = standing_grows old new _ c.learn.ensures.asks.1.seen in
    if_ok c.search.result (λ r. r.count ≡ length (series_of c.learn.new.reader.parts)) (λ r. length (standing old) ≤ r.count)
    (λ r e. subst (λ n. length (standing old) ≤ n) (sym (e ∙ ap (λ (bs : List Batch). length (series_of bs)) c.learn.ensures.all)) grows)
    c.search.ensures.count
