-- The leaf is scanned, or passed over.
use Rattle.std.proofs.Common.{◌≡◌, ◌<◌, ◌≤◌, ◌-◌, ◌++◌, ◌∷◌, [], List, length, ap, sym, subst, ◌∙◌, arith}
use Rattle.series_core.specs.Order.{distance_at}
use Rattle.series_core.specs.declared.pair.Pair.{Pair}
use Rattle.search_machine.specs.Ground.{last, scan, worst}
use Rattle.search_machine.specs.Sound.{ListSound}
use Rattle.search_task.specs.Questions.{ground_of, leaf_series}
use Rattle.nearest_answer.proofs.Nearest.{next_passed, next_scanned, scan_size, worst_enough}
use Rattle.search_task.proofs.Grounds.{ground_fits, ground_last}
use Rattle.nearest_answer.proofs.near_leaves.scan_entry.Goals as goal

pub returns-then-entry-min-clause-met : goal.returns-then-entry-min-clause-met
returns-then-entry-min-clause-met g c met unmet sound =
    let ground = ground_of c.args.search.now in
    let fits = ground_fits c.args.search.now c.k-k.ensures.searched in
    let list = c.args.list.now in
    let entry = c.args.entry.now in
    let least = worst_enough ground fits met list.pairs sound in
    let kth : c.distance_of_worst.result ≡ worst ground list.pairs
    = c.distance_of_worst.ensures ∙ ap (λ k. distance_at (k - 1) list.pairs) c.requires.k in
    let enough = ground_last c.args.search.now c.k-k.ensures.searched in
    let far : last ground < entry.bound
    = omega (arith, least, kth, enough, c.requires.limit, c.min.ensures, c.if-entry-min.true) in
    next_passed ground fits met entry.leaf entry.bound list.pairs c.requires.entry.low far sound

pub returns-clause-size : goal.returns-clause-size
returns-clause-size g c was =
    let a = c.args.search.now.question in
    let ground = ground_of c.args.search.now in
    subst (λ (ps : List Pair). length ps ≤ a.k) (sym (c.scan_leaf.ensures.pairs c.args.search.now.index 1 1))
    (scan_size ground c.args.limit (leaf_series c.args.search.now.index c.args.entry.now.leaf) c.args.list.now.pairs)

pub returns-clause-met : goal.returns-clause-met
returns-clause-met g c met unmet sound =
    let a = c.args.search.now.question in
    let ix = c.args.search.now.index in
    let ground = ground_of c.args.search.now in
    let fits = ground_fits c.args.search.now c.k-k.ensures.searched in
    let leaf = c.args.entry.now.leaf in
    let old = c.args.list.now.pairs in
    let scanned : c.scan_leaf.new.list.pairs ≡ scan ground c.args.limit (leaf_series ix leaf) old
    = c.scan_leaf.ensures.pairs ix 1 1 in
    let enough : last ground ≤ c.args.limit = omega (arith, ground_last c.args.search.now c.k-k.ensures.searched, c.requires.limit) in
    subst (ListSound ground (met ++ leaf ∷ [])) (sym scanned)
    (next_scanned ground fits met leaf c.args.limit old c.requires.entry.leaf unmet enough sound)
