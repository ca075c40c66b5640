use Rattle.std.proofs.Common.{refl}
use Rattle.turn_lock.specs.declared.object.Last.{Last}
use Rattle.turn_lock.proofs.turns.apply_once.Goals as goal

pub returns-clause-last : goal.returns-clause-last
returns-clause-last g c =
    let last : Last _ _ = record { call = c.of-named.result; reply = c.of.result } in
    (last, refl, c.of-named.ensures, c.of.ensures)
