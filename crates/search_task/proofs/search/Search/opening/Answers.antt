-- The start leaf is that which the index told, and its members were scanned into an empty list.
use Rattle.std.proofs.Common.{◌≡◌, refl, ◌∙◌, ap, sym, ℕ, []}
use Rattle.std.specs.Prelude.{Some}
use Rattle.subtree_build.specs.Index.{leaf_at}
use Rattle.subtree_build.specs.Start.{start_leaf_of}
use Rattle.search_task.specs.Questions.{view_in}
use Rattle.search_task.proofs.StartScan.{opening_is, start_is}
use Rattle.search_task.proofs.search.Search.opening.Given as given
use Rattle.search_task.proofs.search.Search.opening.Goals as goal
use Rattle.search_task.proofs.search.Search.opening.Goals.{In-Some}

-- the start leaf is that which the index told
starts : (g : given.Over) (c : In-Some g) → start_leaf_of (view_in c.args.self.now.question) c.args.self.now.index ≡ Some c.in-Some.leaf
starts g c = sym c.start_leaf.ensures.start ∙ c.in-Some.is

pub returns-clause-list : goal.returns-clause-list
returns-clause-list g c =
    let a = c.args.self.now.question in
    let ix = c.args.self.now.index in
    let empty : c.in_ok-list.list ≡ record { k = a.k; pairs = [] } =
    c.in_ok-list.ensures ∙ ap (λ (n : ℕ). record { k = n; pairs = [] }) c.k.ensures.k in
    opening_is a ix c.in-Some.leaf (leaf_at ix.leaves c.in-Some.leaf).members c.in_ok-list.list c.scan_leaf.new.list
    c.k.ensures.searched (starts g (goal.at.returns-clause-list g c).In-Some) refl empty c.scan_leaf.ensures.k
    (c.scan_leaf.ensures.pairs ix 1 1)

pub returns-clause-start : goal.returns-clause-start
returns-clause-start g c =
    start_is c.args.self.now.question c.args.self.now.index c.in-Some.leaf c.distance_of_worst-limit.result c.scan_leaf.new.list
    (starts g (goal.at.returns-clause-start g c).In-Some) (returns-clause-list g c) c.distance_of_worst-limit.ensures
