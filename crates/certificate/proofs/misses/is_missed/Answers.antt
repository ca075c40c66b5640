use Rattle.std.proofs.Common.{◌<◌, subst}
use Rattle.series_core.specs.Distance.{squared_distance}
use Rattle.certificate.proofs.Distances.{far_not_missed}
use Rattle.certificate.proofs.misses.is_missed.Goals as goal

pub returns-in-None : goal.returns-in-None
returns-in-None c =
    far_not_missed c.args.query.now c.args.last c.args.answers.now c.args.number c.args.row.now
    c.values_fit.ensures c.values_fit-2.ensures c.requires.short
    (subst (λ n. n < squared_distance c.args.row.now c.args.query.now) c.last_distance.ensures c.in-None.ensures)
