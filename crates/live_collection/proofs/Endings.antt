-- The end of a collection: all passes are there (`passes_are`, `numbers_are`), and their one history is that of the writer's
-- appends (`closes`). What stands never grows less (`standing_grows`).
use Rattle.std.proofs.Common.{◌≡◌, ℕ, zero, suc, ◌+◌, ◌≤◌, List, [], ◌∷◌, ◌++◌, All, length, map, refl, sym, ap, ◌∙◌, subst, inl, inr, append_assoc, length-append, arith}
use Rattle.std.proofs.lemmas.List.{length-map, get_or-map}
use Rattle.std.proofs.lemmas.List.Concat.{flat_map-append}
use Rattle.std.proofs.lemmas.List.Elements.{All-cons, All-head, All-map, All-tail, All-weaker}
use Rattle.list_totals.specs.Standing.{In}
use Rattle.turn_lock.specs.declared.object.Entry.{Entry}
use Rattle.turn_lock.specs.History.{IsLegal, EndsWith, calls_by, state_after}
use Rattle.turn_lock.specs.Passes.{AgreesWith, AreAll, HasOneHistory, IsPassOf}
use Rattle.live_collection.specs.declared.batch.Batch.{Batch}
use Rattle.live_collection.specs.declared.calls.Call.{Call}
use Rattle.live_collection.specs.declared.calls.Reply.{Reply}
use Rattle.live_collection.specs.declared.live.LiveCollection.{LiveCollection}
use Rattle.live_collection.specs.declared.live.Reader.{Reader}
use Rattle.live_collection.specs.declared.live.Writer.{Writer}
use Rattle.live_collection.specs.PlainLive.{PlainLive, empty_live, next}
use Rattle.live_collection.specs.Histories.{Log, appended, appended_by, series_of, standing}
use Rattle.live_collection.specs.Sides.{AreAllReaders, IsReaderOf, IsWriterOf, points_of}
use Rattle.live_collection.specs.Steps.{Closes, LivePass}
use Rattle.live_collection.proofs.Holding.{held}
use Rattle.live_collection.proofs.Takings.{writer_appends}

-- the passes of the writer and of the readers
abbrev pub all_of : Writer → List Reader → List LivePass
all_of w rs = w.pass ∷ map (λ (r : Reader). r.pass) rs

pub passes_are : (k : LiveCollection) (w : Writer) (rs : List Reader) → IsWriterOf k w → AreAllReaders k rs
    → All (λ p. IsPassOf k.lock p) (all_of w rs)
passes_are k w rs writer readers =
    All-cons (λ p. IsPassOf k.lock p) w.pass (map (λ (r : Reader). r.pass) rs) writer.pass
    (All-map (λ p. IsPassOf k.lock p) (λ (r : Reader). r.pass) rs
    (All-weaker (IsReaderOf k) (λ r. IsPassOf k.lock r.pass) (λ r h. h.pass) rs readers.each))

numbers_same : (rs : List Reader) → map (λ (p : LivePass). p.number) (map (λ (r : Reader). r.pass) rs) ≡ map (λ (r : Reader). r.pass.number) rs
numbers_same [] = refl
numbers_same (r ∷ rs) = ap (λ (ns : List ℕ). r.pass.number ∷ ns) (numbers_same rs)

pub numbers_are : (k : LiveCollection) (w : Writer) (rs : List Reader) → IsWriterOf k w → AreAllReaders k rs
    → AreAll k.lock (all_of w rs)
numbers_are k w rs writer readers zero h = inl (sym writer.number)
numbers_are k w rs writer readers (suc n) h =
    inr (subst (λ (ns : List ℕ). In (suc n) ns) (sym (numbers_same rs))
    (readers.numbers (suc n) (omega arith) (let c = k.callers in omega arith)))

-- what holds of each image holds of each
of_images : {X Y : Type 0} (P : Y → Type 0) (f : X → Y) (xs : List X) → All P (map f xs) → All (λ x. P (f x)) xs
of_images P f xs all i d h =
    subst P (get_or-map f xs i d (f d) h) (all i (f d) (let l = length-map xs f in omega arith))

pub closes : (k : LiveCollection) (w : Writer) (rs : List Reader) (o : PlainLive) → IsWriterOf k w
    → HasOneHistory next k.lock (all_of w rs) o → Closes k w rs o.series
closes k w rs o writer whole =
    let legal = subst (λ (s : PlainLive). IsLegal next s whole.log) k.opened whole.legal in
    let first = empty_live (points_of k) k.readers in
    let leads : o ≡ state_after next first whole.log
    = whole.leads ∙ ap (λ (s : PlainLive). state_after next s whole.log) k.opened in
    let own : AgreesWith whole.log w.pass = All-head (AgreesWith whole.log) w.pass (map (λ (r : Reader). r.pass) rs) whole.passes in record {
      log = whole.log;
      legal = legal;
      count = ap (λ (s : PlainLive). s.series) leads ∙ (held (points_of k) k.readers whole.log legal).series;
      appends = writer_appends first whole.log legal
          ∙ ap (λ n. appended (calls_by n whole.log)) (sym writer.number) ∙ ap appended own.1;
      writer = own;
      readers = of_images (AgreesWith whole.log) (λ (r : Reader). r.pass) rs
          (All-tail (AgreesWith whole.log) w.pass (map (λ (r : Reader). r.pass) rs) whole.passes);
    }

-- what stands never grows less
pub standing_grows : (old new : Log) (e : Entry Call Reply) → EndsWith old e new → length (standing old) ≤ length (standing new)
standing_grows old new e (between, whole) =
    let more = between ++ e ∷ [] in
    let split : appended new ≡ appended old ++ appended more
    = ap appended (whole ∙ append_assoc old between (e ∷ []))
    ∙ flat_map-append (λ (x : Entry Call Reply). appended_by x.call x.reply) old more in
    let both : standing new ≡ standing old ++ series_of (appended more)
    = ap series_of split ∙ flat_map-append (λ (b : Batch). b.series.series) (appended old) (appended more) in
    let l : length (standing new) ≡ length (standing old) + length (series_of (appended more))
    = ap length both ∙ length-append (standing old) (series_of (appended more)) in
    omega arith
