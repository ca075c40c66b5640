-- What one call that appends a batch did to the writer's pass, and what it was answered (`called`).
use Rattle.std.proofs.Common.{◌≡◌, ◌++◌, [], ◌∷◌, ap, ◌∙◌, subst}
use Rattle.turn_lock.specs.History.{EndsWith, IsLegal, calls_by, entry}
use Rattle.turn_lock.specs.Passes.{made_by, seen_by}
use Rattle.series_core.specs.Collection.{Collection}
use Rattle.live_collection.specs.declared.calls.Call.{Call}
use Rattle.live_collection.specs.declared.calls.Call.TheVariants.{Append}
use Rattle.live_collection.specs.declared.calls.Reply.{Reply}
use Rattle.live_collection.specs.declared.live.LiveCollection.{LiveCollection}
use Rattle.live_collection.specs.PlainAppend.{PlainAppend}
use Rattle.live_collection.specs.PlainLive.{PlainLive, empty_live, next}
use Rattle.live_collection.specs.Sides.{IsHistoryOf, points_of}
use Rattle.live_collection.specs.Steps.{LivePass, MakesCall, appends}
use Rattle.live_collection.proofs.LastCalls.{AppendEnds, append_ends}

-- the writer appended a batch with these series, and the reply is what then stands
pub record Called (k : LiveCollection) (c : Collection) (old new : LivePass) (a : PlainAppend) (reply : Reply) : Type 0 where
  pub series : a.batch.series ≡ c
  pub legal : IsHistoryOf k (seen_by new)
  pub makes : MakesCall k old new (appends a.batch k.readers) reply
  pub ends : AppendEnds (points_of k) k.readers a (seen_by new) reply

-- so it is after one call of the writer with a part for each reader
pub called : (k : LiveCollection) (c : Collection) (old new : LivePass) (a : PlainAppend) (reply : Reply) (opening : PlainLive)
    → opening ≡ empty_live (points_of k) k.readers → c.points ≡ points_of k → old.number ≡ 0
    → a.parts ≡ k.readers → a.batch.series ≡ c
    → IsLegal next opening (seen_by new) → new.number ≡ old.number → calls_by old.number (seen_by new) ≡ made_by new
    → made_by new ≡ made_by old ++ entry old.number (Append a) reply ∷ []
    → EndsWith (seen_by old) (entry old.number (Append a) reply) (seen_by new)
    → Called k c old new a reply
called k c old new a reply opening opened points first parts series legal number own made seen =
    let history : IsHistoryOf k (seen_by new) = subst (λ (o : PlainLive). IsLegal next o (seen_by new)) opened legal in
    let ends : EndsWith (seen_by old) (entry 0 (Append a) reply) (seen_by new)
    = subst (λ n. EndsWith (seen_by old) (entry n (Append a) reply) (seen_by new)) first seen in
    let whole : Append a ≡ appends a.batch k.readers = ap (appends a.batch) parts in
    record {
      series = series;
      legal = history;
      makes = subst (λ (x : Call). MakesCall k old new x reply) whole
          (record { number = number; made = made; seen = seen; legal = history; own = own });
      ends = append_ends (points_of k) k.readers (seen_by old) (seen_by new) a reply parts
          (ap (λ (s : Collection). s.points) series ∙ points) history ends;
    }
