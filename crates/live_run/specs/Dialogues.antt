-- A live collection with its one writer and its one reader, between two groups.
use Rattle.std.specs.Prelude.{◌≡◌, ℕ, ◌+◌, ◌<◌, ◌≤◌, ◌⊎◌, ◌^◌, List, [], ◌∷◌, ◌++◌, length, map, vec_capacity, Option, None, Some, Result, IfOk}
use Rattle.std.specs.List.{All, flat_map}
use Rattle.outside.specs.declared.faults.NoMemory.{NoMemory}
use mathlib.Core.List.{IsPrefix}
use Rattle.series_core.specs.Collection.{Collection}
use Rattle.series_core.specs.declared.rows.TheConstants.{MAX_COUNT}
use Rattle.live_collection.specs.declared.object.TheConstants.{MAX_BATCHES}
use Rattle.live_collection.specs.declared.batch.Batch.{Batch}
use Rattle.live_collection.specs.declared.live.LiveCollection.{LiveCollection}
use Rattle.live_collection.specs.declared.live.Writer.{Writer}
use Rattle.live_collection.specs.declared.live.Reader.{Reader}
use Rattle.live_collection.specs.Histories.{appended, series_of}
use Rattle.live_collection.specs.Sides.{IsReaderOf, IsWriterOf, points_of, reader_saw, writer_made}
use Rattle.live_run.specs.Replies.{CanAsk, IsAskedText}
use Rattle.live_run.specs.Texts.{Scene, IsQueriesText, all_queries, file_queries, queries_of}
use Rattle.live_run.specs.declared.answering.Answers.{Answers}
use Rattle.live_run.specs.declared.group.Contents.{Contents}
use Rattle.live_run.specs.declared.group.QueryFile.{QueryFile}
use Rattle.live_run.specs.declared.dialogue.Dialogue.{Dialogue}
use Rattle.live_run.specs.declared.status.LiveStatus.{LiveStatus}
use Rattle.live_run.specs.declared.status.LiveStatus.TheVariants.{Memory, Full}

-- the batches that the writer has appended, in order
abbrev pub batches_of : Writer → List Batch
batches_of w = appended (writer_made w)

-- the batches whose appends the reader has seen, in order
abbrev pub batches_seen : Reader → List Batch
batches_seen r = appended (reader_saw r)

-- the reader may ask the queries of these files, the first of which has this number
pub record CanAskAll (live : LiveCollection) (reader : Reader) (askings : List QueryFile) (first : ℕ) : Type 0 where
  pub own : IsReaderOf live reader
  pub askable : All (CanAsk (points_of live)) askings
  pub numbers : first + length (flat_map file_queries askings) < 2 ^ 64

-- it asked them: it is still a reader of the collection, and where memory sufficed, these are the answers
pub record AsksAll (live : LiveCollection) (old new : Reader) (askings : List QueryFile) (first : ℕ)
    (given : Result Answers NoMemory) : Type 0 where
  pub reader : IsReaderOf live new
  pub number : new.pass.number ≡ old.pass.number
  pub text : IfOk given (λ answers. IsAskedText (points_of live) first (batches_seen old) (flat_map file_queries askings)
      answers.text.items (batches_seen new))
  pub next : IfOk given (λ answers. answers.next ≡ first + length (flat_map file_queries askings))

-- the writer and the one reader are those of the collection, there is room for the reader, and it has seen all appends
pub record IsDialogue (s : Dialogue) : Type 0 where
  pub writer : IsWriterOf s.live s.writer
  pub reader : IsReaderOf s.live s.reader
  pub readers : s.live.readers ≡ 1
  pub number : s.reader.pass.number ≡ 1
  pub empty : s.room.items ≡ []
  pub room : 0 < vec_capacity s.room
  pub points : s.points ≡ points_of s.live
  pub seen : IsPrefix (batches_of s.writer) (batches_seen s.reader)

-- the dialogue is new: nothing was appended or asked
pub record IsNew (n : ℕ) (s : Dialogue) : Type 0 where
  pub dialogue : IsDialogue s
  pub points : s.points ≡ n
  pub batches : batches_of s.writer ≡ []
  pub asked : s.asked ≡ 0

-- what a dialogue knows of the series while it takes a batch: all that stood, and those of the batch
abbrev pub scene_of : Dialogue → Collection → Scene
scene_of s c = record {
  points = s.points;
  series = series_of (batches_of s.writer) ++ c.series;
  before = length (series_of (batches_of s.writer));
  after = length (series_of (batches_of s.writer)) + length c.series;
}

-- the dialogue took a group: one batch more stands, which has the group's series, and found room; its queries were asked
pub record Takes (old : Dialogue) (c : Contents) (new : Dialogue) : Type 0 where
  pub dialogue : IsDialogue new
  pub points : new.points ≡ old.points
  pub batch : Batch
  pub series : batch.series ≡ c.batch
  pub batches : batches_of new.writer ≡ batches_of old.writer ++ batch ∷ []
  pub few : length (batches_of new.writer) ≤ MAX_BATCHES
  pub fits : length (series_of (batches_of new.writer)) ≤ MAX_COUNT
  pub asked : new.asked ≡ old.asked + length (queries_of c)

-- why a dialogue did not take a group: memory ran out, or what stands leaves no room
abbrev pub RefusesBatch : Dialogue → Collection → LiveStatus → Type 0
RefusesBatch s c Memory = Unit {0}
RefusesBatch s c (Full b t) = (b ≡ length (batches_of s.writer)) × (t ≡ length (series_of (batches_of s.writer)))
    × ((b ≡ MAX_BATCHES) ⊎ (MAX_COUNT < t + length c.series))
RefusesBatch s c _ = ⊥

-- the text of a group that a dialogue took
abbrev pub IsTextOfGroup : Dialogue → Contents → List ℕ → Type 0
IsTextOfGroup s c text = (last : ℕ)
    × IsQueriesText (scene_of s c.batch) s.asked (scene_of s c.batch).before (queries_of c) text last

-- the batches have the series of these groups
abbrev pub AreBatchesOf : List Contents → List Batch → Type 0
AreBatchesOf cs bs = map (λ (b : Batch). b.series) bs ≡ map (λ (c : Contents). c.batch) cs

-- the dialogue took all of these groups
pub record HasTaken (cs : List Contents) (s : Dialogue) : Type 0 where
  pub dialogue : IsDialogue s
  pub batches : AreBatchesOf cs (batches_of s.writer)
  pub asked : s.asked ≡ length (all_queries cs)

-- the dialogue began with the first of these groups and took them all; where there are no groups it did not begin
abbrev pub Stands : List Contents → Option Dialogue → Type 0
Stands [] (Some s) = ⊥
Stands [] None = Unit {0}
Stands (c ∷ cs) (Some s) = HasTaken (c ∷ cs) s × (s.points ≡ c.batch.points)
Stands (c ∷ cs) None = ⊥

-- the length of the series of a dialogue, where one has begun
abbrev pub length_of : Option Dialogue → Option ℕ
length_of None = None
length_of (Some s) = Some s.points
