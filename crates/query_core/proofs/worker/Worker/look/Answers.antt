-- The worker becomes what the walk came to.
use Rattle.std.proofs.Common.{refl}
use Rattle.std.specs.Prelude.{Some, None}
use Rattle.query_core.proofs.TurnLaws.{looked}
use Rattle.query_core.proofs.worker.Worker.look.Goals as goal

pub returns-in-Some : goal.returns-in-Some
returns-in-Some g c =
    looked g.S.Shared.floor g.S.Shared.roots g.S.Shared.did (Some c.in-Some.entry.leaf) c.args.hand.now c.read-limit.new.self
    _ c.args.self.now c.read-limit.result _ c.self.inside.start c.self.inside.walk.leaves c.next.new.self.leaves
    c.view.result.now c.self.inside.walk.index c.self.view_is c.requires.phase c.requires.floor c.read-limit.ensures.low
    c.read-limit.ensures.did (c.read-limit.ensures.floor, c.read-limit.ensures.roots) refl c.view.ensures.view
    c.self.invariant.0.walk_index c.far.ensures c.in-Some.ensures.next

pub returns-in-None : goal.returns-in-None
returns-in-None g c =
    looked g.S.Shared.floor g.S.Shared.roots g.S.Shared.did None c.args.hand.now c.read-limit.new.self
    _ c.args.self.now c.read-limit.result _ c.self.inside.start c.self.inside.walk.leaves c.next.new.self.leaves
    c.view.result.now c.self.inside.walk.index c.self.view_is c.requires.phase c.requires.floor c.read-limit.ensures.low
    c.read-limit.ensures.did (c.read-limit.ensures.floor, c.read-limit.ensures.roots) refl c.view.ensures.view
    c.self.invariant.0.walk_index c.far.ensures c.in-None.ensures.next
