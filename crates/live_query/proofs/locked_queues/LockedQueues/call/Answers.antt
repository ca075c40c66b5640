-- The pass of the queue made the call.
use Rattle.std.proofs.Common.{◌≡◌, ◌<◌, Some, length, sym, ap, ◌∙◌, arith}
use Rattle.std.specs.Prelude.{slice_get, slice_set}
use Rattle.std.proofs.lemmas.Option.{slice_get-get_or}
use Rattle.turn_lock.specs.Passes.{opening_of, seen_by}
use Rattle.live_query.specs.LockedQueues.{LockedKept}
use Rattle.live_query.proofs.LastReplies.{answers_it}
use Rattle.live_query.proofs.LockPasses.{own_set}
use Rattle.live_query.proofs.locked_queues.LockedQueues.call.Goals as goal

pub invariant_of-self : goal.invariant_of-self
invariant_of-self g c =
    let own = c.self.invariant in
    let passes = c.self.inside.passes in
    let lock = c.index-locks-queue.result in
    let seen : length passes.items ≡ length c.args.self.now.passes = ap (λ (h : LockedKept). length h.passes) c.self.view_is in
    let low : c.args.queue < length c.self.inside.locks.now = omega (arith, c.requires, seen, own.count) in
    own_set c.self.inside.locks.now passes.items c.args.queue lock c.call.new.pass own
    (slice_get-get_or c.self.inside.locks.now c.args.queue lock low ∙ ap Some (sym c.index-locks-queue.is))
    c.call.ensures.pass

pub returns-clause-made : goal.returns-clause-made
returns-clause-made g c =
    let passes = c.self.inside.passes in
    let before = c.index_mut.result.now in
    let seen : length passes.items ≡ length c.args.self.now.passes = ap (λ (h : LockedKept). length h.passes) c.self.view_is in
    let low : c.args.queue < length passes.items = omega (arith, c.requires, seen) in
    let was : LockedKept → LockedKept = λ h. record h { passes = slice_set h.passes c.args.queue c.call.new.pass } in
    record {
      before = before;
      pass = c.call.new.pass;
      at = ap (λ (h : LockedKept). slice_get h.passes c.args.queue) (sym c.self.view_is)
          ∙ slice_get-get_or passes.items c.args.queue before low ∙ ap Some (sym c.index_mut.ensures.value);
      after = ap was c.self.view_is;
      number = c.call.ensures.number;
      made = c.call.ensures.made;
    }

pub returns-clause-answers : goal.returns-clause-answers
returns-clause-answers g c =
    let lock = c.index-locks-queue.result in
    let before = c.index_mut.result.now in
    answers_it (opening_of lock) (seen_by before) (seen_by c.call.new.pass) before.number c.args.call c.call.result
    c.call.ensures.seen c.call.ensures.legal
