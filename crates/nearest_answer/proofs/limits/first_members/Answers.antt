-- One leaf more was scanned, and the k-th pair of a list is no nearer than the last of the answer.
use Rattle.std.proofs.Common.{◌≡◌, ◌-◌, ◌++◌, ◌∷◌, [], ℕ, List, ap, sym, subst, arith}
use Rattle.std.specs.List.{range_with_len}
use Rattle.series_core.specs.Best.{Best}
use Rattle.series_core.specs.Order.{distance_at}
use Rattle.series_core.specs.declared.distance.TheConstants.{NONE}
use Rattle.search_machine.specs.Ground.{scan, worst}
use Rattle.search_machine.specs.Sound.{ListSound}
use Rattle.search_machine.proofs.PlainList.{last_none}
use Rattle.search_task.specs.Questions.{ground_of, leaf_series}
use Rattle.nearest_answer.proofs.Nearest.{next_scanned, worst_enough}
use Rattle.nearest_answer.proofs.Ranges.{none_at_end, range_next}
use Rattle.search_task.proofs.Grounds.{ground_fits, ground_last}
use Rattle.nearest_answer.proofs.limits.first_members.Goals as goal

pub returns-in_default-clause-limit : goal.returns-in_default-clause-limit
returns-in_default-clause-limit g c =
    let ground = ground_of c.args.search.now in
    let fits = ground_fits c.args.search.now c.k-k.ensures.searched in
    let none : distance_at (c.in_ok-list.list.k - 1) c.in_ok-list.list.pairs ≡ NONE
    = ap (λ (b : Best). distance_at (b.k - 1) b.pairs) c.in_ok-list.ensures in
    omega (arith, last_none ground fits, ground_last c.args.search.now c.k-k.ensures.searched, none)

pub loop-leaf-preserved : goal.loop-leaf-preserved
loop-leaf-preserved g c =
    let a = c.args.search.now.question in
    let ix = c.args.search.now.index in
    let ground = ground_of c.args.search.now in
    let fits = ground_fits c.args.search.now c.k-k.ensures.searched in
    let first = c.in-Some.first in
    let leaf = c.loop-leaf.leaf in
    let met = range_with_len first (leaf - first) in
    let was = c.loop-leaf.list.pairs in
    let scanned : c.scan_leaf.new.list.pairs ≡ scan ground NONE (leaf_series ix leaf) was
    = c.scan_leaf.ensures.pairs ix 1 1 in
    let next = next_scanned ground fits met leaf NONE was (omega arith) (none_at_end first leaf (omega arith))
    (last_none ground fits) c.loop-leaf.invariant.sound in
    record {
      k = c.scan_leaf.ensures.k;
      sound =
          subst (λ (ls : List ℕ). ListSound ground ls c.scan_leaf.new.list.pairs) (sym (range_next first leaf (omega arith)))
          (subst (ListSound ground (met ++ leaf ∷ [])) (sym scanned) next);
    }

pub returns-clause-limit : goal.returns-clause-limit
returns-clause-limit g c =
    let ground = ground_of c.args.search.now in
    let fits = ground_fits c.args.search.now c.k-k.ensures.searched in
    let list = c.loop-leaf.list in
    let least = worst_enough ground fits _ list.pairs c.loop-leaf.invariant.sound in
    let kth : distance_at (list.k - 1) list.pairs ≡ worst ground list.pairs
    = ap (λ k. distance_at (k - 1) list.pairs) c.loop-leaf.invariant.k in
    omega (arith, least, kth, ground_last c.args.search.now c.k-k.ensures.searched)
