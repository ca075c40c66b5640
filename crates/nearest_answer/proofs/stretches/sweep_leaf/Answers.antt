-- The members of a leaf and their codes are lent.
use Rattle.std.proofs.Common.{◌∙◌, ◌<◌, List, length, subst, sym}
use Rattle.isax_word.specs.declared.member.Member.{Member}
use Rattle.subtree_build.specs.Index.{IndexParts}
use Rattle.subtree_build.specs.Members.{numbers_of}
use Rattle.search_task.specs.Questions.{Question, leaf_series}
use Rattle.search_task.specs.Scanning.{AreScanned}
use Rattle.search_task.proofs.CodeRows.{leaf_coded}
use Rattle.search_task.proofs.Searching.{lent_same, lent_searched}
use Rattle.nearest_answer.proofs.stretches.sweep_leaf.Goals as goal

pub sweep-requires-clause-coded : goal.sweep-requires-clause-coded
sweep-requires-clause-coded g c =
    let a = c.task.result.now in
    let ix = c.index-index.result.now in
    leaf_coded a ix c.args.leaf c.leaf_members.result.now c.leaf_codes.result.now
    (lent_searched c.args.search.now a ix c.task.ensures.task c.index-index.ensures.index c.task.ensures.searched)
    (sym c.has_codes.ensures ∙ c.if-has_codes.true)
    (subst (λ (x : IndexParts). c.args.leaf < length x.leaves) (sym c.index-index.ensures.index) c.requires.leaf)
    c.leaf_members.ensures c.leaf_codes.ensures

pub returns-then-has_codes-clause-pairs : goal.returns-then-has_codes-clause-pairs
returns-then-has_codes-clause-pairs g c =
    let s = c.args.search.now in
    let a = c.task.result.now in
    let ix = c.index-index.result.now in
    lent_same s a ix
    (λ (b : Question) (x : IndexParts). AreScanned b c.args.limit (leaf_series x c.args.leaf) c.args.list.now.pairs
    c.sweep.new.list.pairs)
    c.task.ensures.task c.index-index.ensures.index
    (subst (λ (ms : List Member). AreScanned a c.args.limit (numbers_of ms) c.args.list.now.pairs c.sweep.new.list.pairs)
    c.leaf_members.ensures c.sweep.ensures.pairs)
