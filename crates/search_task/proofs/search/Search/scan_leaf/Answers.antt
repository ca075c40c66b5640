-- The members of a leaf, with their means and their codes, or without.
use Rattle.std.proofs.Common.{All, ◌∙◌, List, ap, subst, sym}
use Rattle.isax_word.specs.declared.member.Member.{Member}
use Rattle.subtree_build.specs.Means.{all_means}
use Rattle.subtree_build.specs.Members.{numbers_of}
use Rattle.subtree_build.proofs.Meaning.{means_of_leaf}
use Rattle.search_task.specs.Questions.{IsMemberOf, Searched, leaf_series}
use Rattle.search_task.specs.Scanning.{AreScanned}
use Rattle.search_task.proofs.CodeRows.{leaf_coded}
use Rattle.search_task.proofs.Homes.{leaf_is_members}
use Rattle.search_task.proofs.Searching.{leaf_is_there}
use Rattle.search_task.proofs.search.Search.scan_leaf.Goals as goal

pub scan_members-requires-clause-means : goal.scan_members-requires-clause-means
scan_members-requires-clause-means g c =
    let a = c.self.inside.task.now in
    c.leaf_means-means.ensures
    ∙ means_of_leaf a.collection a.layout c.self.inside.index.now c.args.leaf c.self.invariant.fits
    (c.has_tables.ensures.0 c.if-has_tables.true).means
    (leaf_is_there _ c.args.self.now c.args.leaf c.self.view_is c.requires.leaf)
    ∙ ap (all_means a.collection a.layout) (sym c.leaf_members-members.ensures)

pub scan_members-requires-clause-coded : goal.scan_members-requires-clause-coded
scan_members-requires-clause-coded g c =
    leaf_coded c.self.inside.task.now c.self.inside.index.now c.args.leaf c.leaf_members-members.result.now
    c.leaf_codes-codes.result.now c.self.invariant (c.has_tables.ensures.0 c.if-has_tables.true).codes
    (leaf_is_there _ c.args.self.now c.args.leaf c.self.view_is c.requires.leaf) c.leaf_members-members.ensures
    c.leaf_codes-codes.ensures

pub returns-then-has_tables-clause-pairs : goal.returns-then-has_tables-clause-pairs
returns-then-has_tables-clause-pairs g c =
    subst (λ (s : Searched). AreScanned s.question c.args.limit (leaf_series s.index c.args.leaf) c.args.list.now.pairs
    c.scan_members.new.list.pairs)
    c.self.view_is
    (subst (λ (ms : List Member). AreScanned c.self.inside.task.now c.args.limit (numbers_of ms) c.args.list.now.pairs
    c.scan_members.new.list.pairs)
    c.leaf_members-members.ensures
    c.scan_members.ensures.pairs)

pub scan_by_words-requires-clause-members : goal.scan_by_words-requires-clause-members
scan_by_words-requires-clause-members g c =
    let a = c.self.inside.task.now in
    subst (λ (ms : List Member). All (IsMemberOf a) ms) (sym c.leaf_members-members.ensures)
    (leaf_is_members a c.self.inside.index.now c.args.leaf c.self.invariant
    (leaf_is_there _ c.args.self.now c.args.leaf c.self.view_is c.requires.leaf))

pub returns-else-has_tables-clause-pairs : goal.returns-else-has_tables-clause-pairs
returns-else-has_tables-clause-pairs g c =
    subst (λ (s : Searched). AreScanned s.question c.args.limit (leaf_series s.index c.args.leaf) c.args.list.now.pairs
    c.scan_by_words.new.list.pairs)
    c.self.view_is
    (subst (λ (ms : List Member). AreScanned c.self.inside.task.now c.args.limit (numbers_of ms) c.args.list.now.pairs
    c.scan_by_words.new.list.pairs)
    c.leaf_members-members.ensures
    c.scan_by_words.ensures.pairs)
