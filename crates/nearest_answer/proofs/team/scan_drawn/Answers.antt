-- What is scanned is a stretch of what is drawn.
use Rattle.std.proofs.Common.{ap, length, subst, arith}
use Rattle.nearest_answer.specs.declared.team.Drawn.{Drawn}
use Rattle.nearest_answer.specs.Stretches.{stretch}
use Rattle.nearest_answer.specs.Team.{AreCut}
use Rattle.nearest_answer.proofs.Drawing.{found_by, listed_found, whole_found}
use Rattle.nearest_answer.proofs.Nearest.{scan_size}
use Rattle.search_task.specs.Questions.{ground_of}
use Rattle.nearest_answer.proofs.team.scan_drawn.Goals as goal

pub scan_listed-requires-clause-number : goal.scan_listed-requires-clause-number
scan_listed-requires-clause-number g c =
    let real = c.requires.number in
    (subst (λ (w : Drawn). AreCut c.args.search.now w real.0) c.in-Listed.is real.1).cut.real c.args.number real.2

pub scan_listed-requires-clause-leaves : goal.scan_listed-requires-clause-leaves
scan_listed-requires-clause-leaves g c =
    let real = c.requires.number in
    (subst (λ (w : Drawn). AreCut c.args.search.now w real.0) c.in-Listed.is real.1).entries

pub scan_stretch-requires-clause-number : goal.scan_stretch-requires-clause-number
scan_stretch-requires-clause-number g c =
    let real = c.requires.number in
    (subst (λ (w : Drawn). AreCut c.args.search.now w real.0) c.in-Whole.is real.1).real c.args.number real.2

pub returns-in-Listed-clause-found : goal.returns-in-Listed-clause-found
returns-in-Listed-clause-found g c count ns cut low above =
    found_by c.args.search.now c.in-Listed.is count c.args.number ns c.args.list.now.pairs c.scan_listed.new.list.pairs
    (λ cut. listed_found c.args.search.now c.in-Listed.entries count cut c.args.number ns c.args.list.now.pairs
    c.scan_listed.new.list.pairs above c.scan_listed.ensures.met) cut

pub returns-in-Whole-clause-list : goal.returns-in-Whole-clause-list
returns-in-Whole-clause-list g c =
    let s = c.args.search.now in
    let few = scan_size (ground_of s) c.args.limit (stretch s c.in-Whole.by c.args.number) c.args.list.now.pairs in
    (c.scan_stretch.ensures.k, omega (arith, ap length (c.scan_stretch.ensures.pairs s.index 1 1), few))

pub returns-in-Whole-clause-found : goal.returns-in-Whole-clause-found
returns-in-Whole-clause-found g c count ns cut low above =
    let s = c.args.search.now in
    found_by s c.in-Whole.is count c.args.number ns c.args.list.now.pairs c.scan_stretch.new.list.pairs
    (λ cut. whole_found s c.k-k.ensures.searched c.in-Whole.by count cut c.args.number c.args.limit ns c.args.list.now.pairs
    c.scan_stretch.new.list.pairs low above c.requires.limit c.scan_stretch.ensures.pairs) cut
