use Rattle.std.proofs.Common.{◌<◌, ◌≤◌, length, sym, subst, arith}
use Rattle.query_core.specs.Turning.{search_of}
use Rattle.query_core.specs.Working.{Shows}
use Rattle.query_core.proofs.TurnLaws.{late_taken, turned_here}
use Rattle.query_core.proofs.worker.Worker.scan_late.Goals as goal

pub returns-then-entry-far : goal.returns-then-entry-far
returns-then-entry-far g c =
    let old = c.args.self.now in
    let leaf : c.args.entry.leaf < length old.index.leaves = c.requires.entry.0 in
    let near : (search_of old 1).bound c.args.entry.leaf ≤ c.read-limit.result =
    omega (arith, c.requires.entry.1, c.far.ensures, c.if-entry-far.true) in
    record {
      turns = turned_here g.S.Shared.did c.args.hand.now c.read-limit.new.self old c.take.new.self _ _ c.requires.phase
          (λ workers m shows. c.read-limit.ensures.did)
          (λ workers. tt)
          (omega (arith, c.read-limit.ensures.low, c.requires.floor))
          (λ workers m shows.
          subst (Shows c.take.new.self) (sym (late_taken (search_of old workers) m c.args.entry.leaf c.read-limit.result leaf near))
          (c.take.ensures.taken workers m shows));
      place = c.take.ensures.place;
      shares = c.take.ensures.shares;
      hand = (c.read-limit.ensures.floor, c.read-limit.ensures.roots);
    }
