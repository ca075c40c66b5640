-- What the append of a group, its asks and the telling behind them make of a dialogue.
use Rattle.std.proofs.Common.{◌≡◌, ℕ, ◌+◌, ◌≤◌, List, [], ◌∷◌, ◌++◌, length, sym, ap, ◌∙◌, subst, append-nil, arith}
use Rattle.std.proofs.lemmas.List.Concat.{flat_map-append}
use mathlib.Core.List.{IsPrefix}
use Rattle.series_core.specs.Collection.{Collection}
use Rattle.turn_lock.specs.declared.object.Entry.{Entry}
use Rattle.turn_lock.specs.History.{calls_by, entry}
use Rattle.live_collection.specs.declared.batch.Batch.{Batch}
use Rattle.live_collection.specs.declared.calls.Call.{Call}
use Rattle.live_collection.specs.declared.calls.Reply.{Reply}
use Rattle.live_collection.specs.declared.live.LiveCollection.{LiveCollection}
use Rattle.live_collection.specs.declared.live.Writer.{Writer}
use Rattle.live_collection.specs.declared.live.Reader.{Reader}
use Rattle.live_collection.specs.declared.object.TheConstants.{MAX_BATCHES}
use Rattle.series_core.specs.declared.rows.TheConstants.{MAX_COUNT}
use Rattle.live_collection.specs.Histories.{appended, appended_by, series_of}
use Rattle.live_collection.specs.PlainLive.{empty_live}
use Rattle.live_collection.specs.Sides.{IsWriterOf, points_of, reader_saw, writer_made, writer_saw}
use Rattle.live_collection.specs.Steps.{Appends, BatchRefused, BatchStands, CallsAppend, appends}
use Rattle.live_collection.proofs.Takings.{appended_prefix, writer_appends}
use Rattle.live_run.specs.Replies.{IsAskedText}
use Rattle.live_run.specs.Dialogues.{RefusesBatch, batches_of, batches_seen}
use Rattle.live_run.specs.Status.{status_of}
use Rattle.live_run.specs.declared.dialogue.Dialogue.{Dialogue}
use Rattle.live_collection.specs.declared.live.AppendError.{AppendError}
use Rattle.live_collection.specs.declared.live.AppendError.TheVariants.{Full, NoMemory}
use Rattle.std.specs.Prelude.{Err}
use Rattle.live_run.specs.Texts.{IsQueriesText, Query, Scene}
use Rattle.live_run.proofs.Told.{asked_told, fewer}

-- the accepted appends that the writer has seen behind its call are its own
saw_own : (k : LiveCollection) (c : Collection) (old new : Writer) (reply : Reply) → IsWriterOf k old
    → CallsAppend k c old new reply → appended (writer_saw new) ≡ batches_of new
saw_own k c old new reply writer call =
    writer_appends (empty_live (points_of k) k.readers) (writer_saw new) call.makes.legal
    ∙ ap (λ n. appended (calls_by n (writer_saw new))) (sym writer.number) ∙ ap appended call.makes.own

-- the writer's own appends behind its call
made_more : (k : LiveCollection) (c : Collection) (old new : Writer) (reply : Reply) (call : CallsAppend k c old new reply)
    → batches_of new ≡ batches_of old ++ (appended_by (appends call.batch k.readers) reply ++ [])
made_more k c old new reply call =
    ap appended call.makes.made
    ∙ flat_map-append (λ (x : Entry Call Reply). appended_by x.call x.reply) (writer_made old)
    (entry old.pass.number (appends call.batch k.readers) reply ∷ [])

-- a batch that stands is the last of the writer's
pub stands_more : (k : LiveCollection) (c : Collection) (old new : Writer) (m : ℕ) → IsWriterOf k old
    → (stands : BatchStands k c old new m) → batches_of new ≡ batches_of old ++ stands.call.batch ∷ []
stands_more k c old new m writer stands = made_more k c old new _ stands.call

pub stands_few : (k : LiveCollection) (c : Collection) (old new : Writer) (m : ℕ) → IsWriterOf k old
    → (stands : BatchStands k c old new m) → appended (writer_saw new) ≡ batches_of new
stands_few k c old new m writer stands = saw_own k c old new _ writer stands.call

-- a batch that is refused leaves the writer's as they were
pub refused_same : (k : LiveCollection) (c : Collection) (old new : Writer) (b t : ℕ) → IsWriterOf k old
    → (refused : BatchRefused k c old new b t) → appended (writer_saw new) ≡ batches_of old
refused_same k c old new b t writer refused =
    saw_own k c old new _ writer refused.call ∙ made_more k c old new _ refused.call ∙ append-nil (batches_of old)

-- behind the telling the reader has seen all appends of the writer
pub all_seen : (k : LiveCollection) (c : Collection) (old mid new : Writer) (later : Reader) (m : ℕ) → IsWriterOf k old
    → BatchStands k c old mid m → writer_made new ≡ writer_made mid → IsPrefix (writer_saw mid) (reader_saw later)
    → IsPrefix (batches_of new) (batches_seen later)
all_seen k c old mid new later m writer stands made told =
    subst (λ bs. IsPrefix bs (batches_seen later)) (stands_few k c old mid m writer stands ∙ sym (ap appended made))
    (appended_prefix (writer_saw mid) (reader_saw later) told)

-- what is known of the series while a batch is taken behind these
abbrev pub scene_at : ℕ → List Batch → Collection → Scene
scene_at n bs c = record {
  points = n;
  series = series_of bs ++ c.series;
  before = length (series_of bs);
  after = length (series_of bs) + length c.series;
}

-- the text of the queries that were asked while the batch was appended
pub group_told : (k : LiveCollection) (c : Collection) (old mid : Writer) (m n i : ℕ) (seen later : List Batch) (qs : List Query)
    (text : List ℕ) → IsWriterOf k old → BatchStands k c old mid m → n ≡ points_of k → IsPrefix (batches_of old) seen
    → IsPrefix later (batches_of mid) → IsAskedText (points_of k) i seen qs text later
    → (last : ℕ) × IsQueriesText (scene_at n (batches_of old) c) i (length (series_of (batches_of old))) qs text last
group_told k c old mid m n i seen later qs text writer stands points low high is =
    let bs = batches_of old in
    let b = stands.call.batch in
    let high' = subst (IsPrefix later) (stands_more k c old mid m writer stands) high in
    let told = asked_told (points_of k) i (length (series_of bs)) bs b seen qs text later low high' (fewer bs seen low) is in
    let same : scene_at (points_of k) bs b.series ≡ scene_at n bs c
    = ap (scene_at (points_of k) bs) stands.call.series ∙ ap (λ p. scene_at p bs c) (sym points) in
    (told.0, subst (λ (s : Scene). IsQueriesText s i (length (series_of bs)) qs text told.0) same told.1)

-- the limits that are kept behind the append
pub stands_limits : (k : LiveCollection) (c : Collection) (old mid new : Writer) (m : ℕ) → IsWriterOf k old
    → BatchStands k c old mid m → writer_made new ≡ writer_made mid
    → (length (batches_of new) ≤ MAX_BATCHES) × (length (series_of (batches_of new)) ≤ MAX_COUNT)
stands_limits k c old mid new m writer stands made =
    let same : appended (writer_saw mid) ≡ batches_of new = stands_few k c old mid m writer stands ∙ sym (ap appended made) in (
      subst (λ bs. length bs ≤ MAX_BATCHES) same stands.batches,
      subst (λ bs. length (series_of bs) ≤ MAX_COUNT) same
          (let e = stands.count in let s = stands.series in omega arith),
    )

-- what an append refuses, its dialogue refuses
pub refuses_append : (s : Dialogue) (c : Collection) (new : Writer) (e : AppendError) → IsWriterOf s.live s.writer
    → Appends s.live c s.writer new (Err e) → RefusesBatch s c (status_of e)
refuses_append s c new NoMemory writer appends = tt
refuses_append s c new (Full b t) writer appends =
    let same = refused_same s.live c s.writer new b t writer appends in (
      appends.batches ∙ ap length same,
      appends.series ∙ ap (λ bs. length (series_of bs)) same,
      appends.full,
    )
