-- The worker pops with the less of what it read and what is no less than the limits of all portions.
use Rattle.std.proofs.Common.{◌∙◌, arith}
use Rattle.query_core.proofs.TurnLaws.{aimed}
use Rattle.query_core.proofs.worker.Worker.aim.Goals as goal

pub returns : goal.returns
returns g c = (
  c.min-limit.result,
  aimed g.S.Shared.floor g.S.Shared.roots g.S.Shared.did c.args.hand.now c.read-seen.new.self _ c.args.self.now c.args.place
      c.read-seen.result c.most-most.result c.min-limit.result (c.self.view_is ∙ c.most-most.ensures.same) c.requires.phase
      c.requires.floor c.read-seen.ensures.low c.most-most.ensures.low c.most-most.ensures.none (omega (arith, c.read-seen.type_inv))
      c.min-limit.ensures c.read-seen.ensures.did (c.read-seen.ensures.floor, c.read-seen.ensures.roots),
)
