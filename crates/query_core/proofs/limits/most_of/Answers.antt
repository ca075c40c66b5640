-- What the limits of a worker that has some are then.
use Rattle.std.proofs.Common.{Option, Some, sym, subst}
use Rattle.query_core.specs.Portions.{HasLimits, IfRead, Limited}
use Rattle.query_core.proofs.limits.most_of.Goals as goal

pub returns-in-Some : goal.returns-in-Some
returns-in-Some c = record {
  read = λ h has.
      subst (λ (o : Option Limited). IfRead h o (Some c.most.new.self) c.most.result) (sym c.in-Some.is)
      (c.most.ensures.read h (subst (HasLimits h) c.in-Some.is has));
}
