-- The ask gives all batches that were accepted and that the reader had not been given, and these are few.
use Rattle.std.proofs.Common.{◌≡◌, ◌+◌, ◌≤◌, length, sym, ap, ◌∙◌, subst, length-append, arith}
use Rattle.turn_lock.specs.History.{IsLegal}
use Rattle.live_collection.specs.PlainLive.{PlainLive, next}
use Rattle.live_collection.specs.Histories.{appended, given_by}
use Rattle.live_collection.specs.Sides.{points_of}
use Rattle.live_collection.proofs.Holding.{held}
use Rattle.live_collection.proofs.LastCalls.{ask_gives, learnt}
use Rattle.live_collection.proofs.live.LiveCollection.learn.Goals as goal

pub unreachable-requires : goal.unreachable-requires
unreachable-requires g c =
    let k = c.args.self.now in
    let legal = subst (λ (o : PlainLive). IsLegal next o c.call.new.pass.seat.me.0.seen) k.opened c.call.ensures.legal in
    c.in_default.not-Parts (given_by c.call.result)
    (ask_gives (points_of k) k.readers c.args.reader.now.pass.number c.args.reader.now.pass.seat.me.0.seen
    c.call.new.pass.seat.me.0.seen c.call.result legal c.call.ensures.seen)

pub returns-clause-all : goal.returns-clause-all
returns-clause-all g c =
    let k = c.args.self.now in
    let r = c.args.reader.now in
    let legal = subst (λ (o : PlainLive). IsLegal next o c.call.new.pass.seat.me.0.seen) k.opened c.call.ensures.legal in
    c.link.ensures
    ∙ learnt (points_of k) k.readers r.pass.number r.pass.seat.me.0.seen c.call.new.pass.seat.me.0.seen r.pass.seat.me.0.mine
    c.call.new.pass.seat.me.0.mine r.parts c.in-Parts.taken c.requires.parts c.requires.some c.requires.limit legal
    c.in-Parts.ensures.seen c.in-Parts.ensures.made c.call.ensures.own

pub link-requires : goal.link-requires
link-requires g c =
    let k = c.args.self.now in
    let r = c.args.reader.now in
    let seen = c.call.new.pass.seat.me.0.seen in
    let legal = subst (λ (o : PlainLive). IsLegal next o seen) k.opened c.call.ensures.legal in
    let all = learnt (points_of k) k.readers r.pass.number r.pass.seat.me.0.seen seen r.pass.seat.me.0.mine
    c.call.new.pass.seat.me.0.mine r.parts c.in-Parts.taken c.requires.parts c.requires.some c.requires.limit legal
    c.in-Parts.ensures.seen c.in-Parts.ensures.made c.call.ensures.own in
    let holds = held (points_of k) k.readers seen legal in
    let size : length r.parts + length c.in-Parts.taken ≡ length (appended seen)
    = sym (length-append r.parts c.in-Parts.taken) ∙ ap length all in
    let few : length (appended seen) ≤ 1024 = subst (λ n. n ≤ 1024) holds.batches holds.few in
    omega (arith, size, few)
