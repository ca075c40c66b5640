use Rattle.std.proofs.lemmas.List.Elements.{All-set}
use Rattle.sealed_runs.specs.Visits.{IsPass}
use Rattle.ground_tests.proofs.tests.sealed.calls.call.Goals as goal

pub returns-clause-own : goal.returns-clause-own
returns-clause-own c =
    All-set (IsPass c.args.runs.now.runs) c.args.passes.now.items c.args.place c.pop_open.new.pass
    c.pop_open.ensures c.requires.own
