use Rattle.outside.proofs.HeldLists.{place_of-position}
use Rattle.outside.proofs.held_files.place_of.Goals as goal

pub returns-clause-found : goal.returns-clause-found
returns-clause-found c =
    (place_of-position c.args.name.now c.args.files.now _ c.first_named.ensures).0

pub returns-clause-absent : goal.returns-clause-absent
returns-clause-absent c =
    (place_of-position c.args.name.now c.args.files.now _ c.first_named.ensures).1
