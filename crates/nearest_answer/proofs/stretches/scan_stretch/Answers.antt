-- What is scanned is the stretch of this way.
use Rattle.std.proofs.Common.{subst, sym}
use Rattle.nearest_answer.specs.declared.telling.ApartBy.{ApartBy}
use Rattle.nearest_answer.specs.Stretches.{stretch}
use Rattle.search_task.specs.Scanning.{AreScanned}
use Rattle.nearest_answer.proofs.stretches.scan_stretch.Goals as goal

pub returns-in-Means-clause-pairs : goal.returns-in-Means-clause-pairs
returns-in-Means-clause-pairs g c =
    subst (λ (by : ApartBy). AreScanned c.args.search.now.question c.args.limit (stretch c.args.search.now by c.args.number)
    c.args.list.now.pairs c.sweep_leaves.new.list.pairs) (sym c.in-Means.is) c.sweep_leaves.ensures.pairs

pub returns-in-Codes-clause-pairs : goal.returns-in-Codes-clause-pairs
returns-in-Codes-clause-pairs g c =
    subst (λ (by : ApartBy). AreScanned c.args.search.now.question c.args.limit (stretch c.args.search.now by c.args.number)
    c.args.list.now.pairs c.sweep_leaves-in-Codes.new.list.pairs) (sym c.in-Codes.is) c.sweep_leaves-in-Codes.ensures.pairs

pub returns-in-Nothing-clause-pairs : goal.returns-in-Nothing-clause-pairs
returns-in-Nothing-clause-pairs g c =
    subst (λ (by : ApartBy). AreScanned c.args.search.now.question c.args.limit (stretch c.args.search.now by c.args.number)
    c.args.list.now.pairs c.scan_rows.new.list.pairs) (sym c.in-Nothing.is) c.scan_rows.ensures.pairs
