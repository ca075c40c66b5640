-- What every legal history makes of the plain object: its counts are those of the accepted batches, within the limits, and
-- each accepted batch has the one length (`held`).
use Rattle.std.proofs.Common.{◌≡◌, ℕ, zero, suc, ◌+◌, ◌<◌, ◌≤◌, ◌==◌, Bool, true, false, cond, List, [], ◌∷◌, ◌++◌, All, length, set, Option, Some, None, refl, sym, ap, ◌∙◌, subst, nat_lt, eqb-true, ltb-true, leb-true, append_assoc, append-nil, length-append, length-set, arith}
use Rattle.std.specs.Prelude.{slice_get}
use Rattle.std.proofs.lemmas.List.{length-map, length-replicate}
use Rattle.std.proofs.lemmas.List.Elements.{All-push, All-nil}
use Rattle.turn_lock.specs.History.{IsLegal, state_after}
use Rattle.series_core.specs.declared.rows.TheConstants.{MAX_COUNT}
use Rattle.live_collection.specs.declared.object.TheConstants.{MAX_BATCHES}
use Rattle.live_collection.specs.declared.batch.Batch.{Batch}
use Rattle.live_collection.specs.declared.calls.Call.{Call}
use Rattle.live_collection.specs.declared.calls.Call.TheVariants.{Append, Ask}
use Rattle.live_collection.specs.declared.calls.Reply.{Reply}
use Rattle.live_collection.specs.declared.calls.Reply.TheVariants.{Stands, Refused}
use Rattle.live_collection.specs.PlainAppend.{PlainAppend}
use Rattle.live_collection.specs.PlainLive.{PlainLive, empty_live, next, accepts, taken, grown, with_lists}
use Rattle.live_collection.specs.Histories.{Log, appended, appended_by, series_of}
use Rattle.live_collection.specs.Numbers.{HasPoints}
use Rattle.live_collection.proofs.PartsSoFar.{series_of-push}

-- the object in which just these batches stand
pub record Holds (n readers : ℕ) (bs : List Batch) (o : PlainLive) : Type 0 where
  pub points : o.points ≡ n
  pub lists : length o.lists ≡ readers
  pub batches : o.batches ≡ length bs
  pub series : o.series ≡ length (series_of bs)
  pub few : o.batches ≤ MAX_BATCHES
  pub limit : o.series ≤ MAX_COUNT
  pub each : All (HasPoints n) bs

-- what an accepted append asks
pub record Accepted (o : PlainLive) (caller : ℕ) (a : PlainAppend) : Type 0 where
  pub writer : caller ≡ 0
  pub points : a.batch.series.points ≡ o.points
  pub batches : o.batches < MAX_BATCHES
  pub series : o.series + length a.batch.series.series ≤ MAX_COUNT

both_true : (b c : Bool) → cond b c false ≡ true → (b ≡ true) × (c ≡ true)
both_true true c e = (refl, e)
both_true false c e = (e, absurd (true_not_false (sym e)))
  where
    true_not_false : true ≡ false → ⊥
    true_not_false t = cc

pub accepted : (o : PlainLive) (caller : ℕ) (a : PlainAppend) → accepts o caller a ≡ true → Accepted o caller a
accepted o caller a e =
    let one = both_true (caller == 0) _ e in
    let two = both_true (a.parts == length o.lists) _ one.1 in
    let three = both_true (a.batch.series.points == o.points) _ two.1 in
    let four = both_true (nat_lt o.batches MAX_BATCHES) _ three.1 in
    record {
      writer = eqb-true caller 0 one.0;
      points = eqb-true a.batch.series.points o.points three.0;
      batches = ltb-true o.batches MAX_BATCHES four.0;
      series = leb-true (o.series + length a.batch.series.series) MAX_COUNT four.1;
    }

-- one batch more has its series behind
pub length-series_of-push : (bs : List Batch) (b : Batch)
    → length (series_of (bs ++ b ∷ [])) ≡ length (series_of bs) + length b.series.series
length-series_of-push bs b =
    ap length (series_of-push bs b) ∙ length-append (series_of bs) b.series.series

-- what stands after one call
abbrev HoldsNext : ℕ → ℕ → List Batch → Call → PlainLive × Reply → Type 0
HoldsNext n readers bs c r = Holds n readers (bs ++ appended_by c r.1) r.0

-- a call that appends nothing
same_batches : (n readers : ℕ) (bs : List Batch) (o : PlainLive) → Holds n readers bs o → Holds n readers (bs ++ []) o
same_batches n readers bs o h = subst (λ (l : List Batch). Holds n readers l o) (sym (append-nil bs)) h

appended_next : (n readers caller : ℕ) (bs : List Batch) (o : PlainLive) (a : PlainAppend) (b : Bool) → Holds n readers bs o
    → accepts o caller a ≡ b
    → HoldsNext n readers bs (Append a)
    (cond b (grown o a.batch, Stands (o.series + length a.batch.series.series)) (o, Refused o.batches o.series))
appended_next n readers caller bs o a false h e = same_batches n readers bs o h
appended_next n readers caller bs o a true h e =
    let yes = accepted o caller a e in record {
      points = h.points;
      lists = length-map o.lists (λ l. l ++ a.batch ∷ []) ∙ h.lists;
      batches = let l = length-append bs (a.batch ∷ []) in let k = h.batches in omega arith;
      series = let l = length-series_of-push bs a.batch in let k = h.series in omega arith;
      few = let k = yes.batches in omega arith;
      limit = yes.series;
      each = All-push (HasPoints n) bs a.batch h.each (yes.points ∙ h.points);
    }

taken_next : (n readers at : ℕ) (bs : List Batch) (o : PlainLive) (m : Option (List Batch)) → Holds n readers bs o
    → HoldsNext n readers bs Ask (taken o at m)
taken_next n readers at bs o None h = same_batches n readers bs o h
taken_next n readers at bs o (Some l) h =
    same_batches n readers bs (with_lists o (set o.lists at [])) (record {
      points = h.points;
      lists = length-set o.lists at [] ∙ h.lists;
      batches = h.batches;
      series = h.series;
      few = h.few;
      limit = h.limit;
      each = h.each;
    })

-- one call more
pub holds_next : (n readers : ℕ) (bs : List Batch) (o : PlainLive) (caller : ℕ) (c : Call) → Holds n readers bs o
    → HoldsNext n readers bs c (next o caller c)
holds_next n readers bs o caller (Append a) h = appended_next n readers caller bs o a (accepts o caller a) h refl
holds_next n readers bs o zero Ask h = same_batches n readers bs o h
holds_next n readers bs o (suc at) Ask h = taken_next n readers at bs o (slice_get o.lists at) h

holds_after : (n readers : ℕ) (bs : List Batch) (o : PlainLive) (log : Log) → Holds n readers bs o → IsLegal next o log
    → Holds n readers (bs ++ appended log) (state_after next o log)
holds_after n readers bs o [] h legal = same_batches n readers bs o h
holds_after n readers bs o (e ∷ es) h (r, rest) =
    let more = subst (λ (z : Reply). Holds n readers (bs ++ appended_by e.call z) (next o e.caller e.call).0) (sym r)
    (holds_next n readers bs o e.caller e.call h) in
    subst (λ (l : List Batch). Holds n readers l (state_after next (next o e.caller e.call).0 es))
    (append_assoc bs (appended_by e.call e.reply) (appended es))
    (holds_after n readers (bs ++ appended_by e.call e.reply) (next o e.caller e.call).0 es more rest)

-- what a legal history makes of the object in which no batch stands
pub held : (n readers : ℕ) (log : Log) → IsLegal next (empty_live n readers) log
    → Holds n readers (appended log) (state_after next (empty_live n readers) log)
held n readers log legal =
    holds_after n readers [] (empty_live n readers) log (record {
      points = refl;
      lists = length-replicate readers [];
      batches = refl;
      series = refl;
      few = (let z : 0 ≤ MAX_BATCHES = omega arith in z);
      limit = (let z : 0 ≤ MAX_COUNT = omega arith in z);
      each = All-nil (HasPoints n);
    }) legal
