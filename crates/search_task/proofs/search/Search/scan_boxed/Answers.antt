-- A leaf beyond the list is passed over; of another its members are scanned.
use Rattle.subtree_build.specs.Index.{leaf_at}
use Rattle.search_task.proofs.Homes.{leaf_is_members}
use Rattle.search_task.proofs.Meeting.{beyond_members, far_scanned}
use Rattle.search_task.proofs.search.Search.scan_boxed.Goals as goal

pub returns-then-leaf_bound-most_to_add-clause-pairs :
    goal.returns-then-leaf_bound-most_to_add-clause-pairs
returns-then-leaf_bound-most_to_add-clause-pairs g c =
    let a = c.args.self.now.question in
    let ix = c.args.self.now.index in
    let l = c.args.leaf in
    let most = c.most_to_add.result in
    far_scanned a c.args.limit most c.args.list.now (leaf_at ix.leaves l).members c.k-k.ensures.searched.question
    (leaf_is_members a ix l c.k-k.ensures.searched c.requires.leaf)
    (beyond_members a ix l c.leaf_bound.result most c.leaf_bound.ensures c.if-leaf_bound-most_to_add.true)
    (record { wanted = c.requires.k; is_best = c.most_to_add.ensures.sound; most_is = c.most_to_add.ensures.most })
