-- What the limits of a worker that has some are then.
use Rattle.std.proofs.Common.{◌-◌, ℕ, Option, Some, sym, subst}
use Rattle.series_core.specs.Order.{distance_at}
use Rattle.query_core.specs.Portions.{CanLimit, HasScanned, IfScanned, Limited}
use Rattle.query_core.proofs.limits.note_scan.Goals as goal

pub returns-in-Some : goal.returns-in-Some
returns-in-Some c = record {
  scanned = λ h can.
      let has = subst (CanLimit h c.args.portion (distance_at (c.args.rank - 1) c.args.list.now.pairs)) c.in-Some.is can in
      subst (λ (o : Option Limited). IfScanned h c.args.portion (distance_at (c.args.rank - 1) c.args.list.now.pairs) o
      (Some c.scanned.new.self)) (sym c.in-Some.is)
      (subst (λ (n : ℕ). HasScanned h c.args.portion n c.in-Some.limits c.scanned.new.self) c.distance_of_rank.ensures
      (c.scanned.ensures.scanned h has.0));
}
