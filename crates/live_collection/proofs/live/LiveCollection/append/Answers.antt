-- The reply is that of the plain object to the writer's append of this batch.
use Rattle.std.proofs.Common.{◌≡◌, ◌+◌, ◌++◌, ◌<◌, ◌⊎◌, [], ◌∷◌, length, refl, ap, ◌∙◌, subst}
use Rattle.turn_lock.specs.declared.object.Entry.{Entry}
use Rattle.turn_lock.specs.History.{EndsWith, IsLegal, entry, state_after}
use Rattle.turn_lock.specs.Passes.{made_by, seen_by}
use Rattle.series_core.specs.Collection.{Collection}
use Rattle.live_collection.specs.declared.batch.Batch.{Batch}
use Rattle.live_collection.specs.declared.calls.Call.{Call}
use Rattle.live_collection.specs.declared.calls.Call.TheVariants.{Append}
use Rattle.live_collection.specs.declared.calls.Reply.{Reply}
use Rattle.live_collection.specs.declared.calls.Reply.TheVariants.{Stands, Refused, Parts}
use Rattle.live_collection.specs.PlainAppend.{PlainAppend}
use Rattle.live_collection.specs.PlainLive.{empty_live, next}
use Rattle.live_collection.specs.Histories.{Log}
use Rattle.live_collection.specs.Sides.{points_of}
use Rattle.live_collection.specs.Steps.{appends}
use Rattle.live_collection.proofs.Called.{Called, called}
use Rattle.live_collection.proofs.LastCalls.{refused_same}
use Rattle.live_collection.proofs.live.LiveCollection.append.Given as given
use Rattle.live_collection.proofs.live.LiveCollection.append.Goals as goal
use Rattle.live_collection.proofs.live.LiveCollection.append.Goals.{After-call}

-- what the call on the lock did and was answered, by what its reply says of the writer's pass
told : (g : given.Over) (c : After-call g) (reply : Reply)
    → let w = c.args.writer.now.pass in let a : PlainAppend = c.in_ok-call.call in
    made_by c.call.new.pass ≡ made_by w ++ entry w.number (Append a) reply ∷ []
    → EndsWith (seen_by w) (entry w.number (Append a) reply) (seen_by c.call.new.pass)
    → Called c.args.self.now c.args.batch w c.call.new.pass a reply
told g c reply made seen =
    let series = ap (λ (b : Batch). b.series) (c.in_ok-call.ensures.batch ∙ c.in_ok-another.ensures ∙ c.in_ok-own.ensures)
    ∙ c.in_ok-batch.ensures in
    called c.args.self.now c.args.batch c.args.writer.now.pass c.call.new.pass c.in_ok-call.call reply _
    c.args.self.now.opened c.requires.length c.requires.writer.number c.in_ok-call.ensures.parts series
    c.call.ensures.legal c.call.ensures.number c.call.ensures.own made seen

pub unreachable-requires : goal.unreachable-requires
unreachable-requires g c =
    let call = told g c.before (Parts c.in-Parts.field-0) c.in-Parts.ensures.made c.in-Parts.ensures.seen in
    call.ends

pub returns-in-Stands-clause-appends : goal.returns-in-Stands-clause-appends
returns-in-Stands-clause-appends g c =
    let a : PlainAppend = c.in_ok-call.call in
    let call = told g c.before.before (Stands c.in-Stands.count) c.in-Stands.ensures.made c.in-Stands.ensures.seen in
    record {
      call = record { batch = a.batch; series = call.series; makes = call.makes };
      count = call.ends.count;
      batches = call.ends.batches;
      series = call.ends.series;
    }

pub returns-in-Refused-clause-appends : goal.returns-in-Refused-clause-appends
returns-in-Refused-clause-appends g c =
    let k = c.args.self.now in
    let w = c.args.writer.now.pass in
    let a : PlainAppend = c.in_ok-call.call in
    let reply : Reply = Refused c.in-Refused.batches c.in-Refused.series in
    let call = told g c.before.before reply c.in-Refused.ensures.made c.in-Refused.ensures.seen in
    record {
      call = record { batch = a.batch; series = call.series; makes = call.makes };
      batches = call.ends.batches;
      series = call.ends.series;
      full = subst (λ (s : Collection). (c.in-Refused.batches ≡ 1024) ⊎ (16777216 < c.in-Refused.series + length s.series))
          call.series call.ends.full;
      unchanged = λ before is.
          let e : Entry Call Reply = entry w.number (appends a.batch k.readers) reply in
          let first = empty_live (points_of k) k.readers in
          ap (state_after next first) is
          ∙ refused_same first before e (record { batch = a.batch; parts = k.readers }) c.in-Refused.batches c.in-Refused.series
          (subst (λ (z : Log). IsLegal next first z) is call.legal) refl refl;
    }
