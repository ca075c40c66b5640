-- All members were scanned, each series once, so the list is the answer.
use Rattle.std.proofs.Common.{◌≡◌, ◌∙◌, ◌≤◌, List, [], ap, sym, subst, arith}
use Rattle.std.specs.Prelude.{Option, flat_map, option_copied}
use Rattle.std.specs.Borrow.{Bor}
use Rattle.std.specs.List.{All}
use Rattle.isax_word.specs.declared.member.Member.{Member}
use Rattle.row_codes.specs.Rows.{Block}
use Rattle.series_core.specs.Answer.{answer}
use Rattle.series_core.specs.Best.{Best}
use Rattle.series_core.specs.declared.pair.Pair.{Pair}
use Rattle.subtree_build.specs.declared.leaf.TreeLeaf.{TreeLeaf}
use Rattle.subtree_build.specs.Members.{numbers_of}
use Rattle.search_machine.specs.Ground.{last, scan}
use Rattle.search_task.specs.Questions.{CanBeSearched, IsMemberOf, Question, last_of, search_over}
use Rattle.search_task.specs.Scanning.{AreScanned}
use Rattle.search_task.proofs.CodeRows.{all_are_members, all_coded, each_met}
use Rattle.search_task.proofs.OfIndex.{answer_is, last_is, search_fits}
use Rattle.search_task.proofs.Searching.{lent_searched}
use Rattle.nearest_answer.proofs.Nearest.{answer_scanned}
use Rattle.nearest_answer.proofs.sweep.answer_by_codes.Given as given
use Rattle.nearest_answer.proofs.sweep.answer_by_codes.Goals as goal
use Rattle.nearest_answer.proofs.sweep.answer_by_codes.Goals.{After-members-members}

-- what all members were scanned into is the answer
all_scanned : (g : given.Over) (c : After-members-members g) (after : List Pair)
    → AreScanned c.task-task.result.now c.args.limit (numbers_of c.members-members.result.now) c.args.list.pairs after
    → let asked = c.args.search.now.question in after ≡ answer asked.collection asked.query asked.k
all_scanned g c after scanned =
    let s = c.args.search.now in
    let a = c.task-task.result.now in
    let ix = c.index-index.result.now in
    let same : a ≡ s.question = c.task-task.ensures.task in
    let searched : CanBeSearched a ix
    = lent_searched s a ix same c.index-index.ensures.index c.task-task.ensures.searched in
    let limit = c.args.limit in
    let ground = search_over a ix 1 1 in
    let fits = search_fits a ix 1 1 searched (omega arith) (omega arith) in
    let low : last_of a ≤ limit = subst (λ (b : Question). last_of b ≤ limit) (sym same) c.requires.limit in
    let enough : last ground ≤ limit = omega (arith, last_is a ix 1 1 searched.question, low) in
    let all : List Member = flat_map (λ (x : TreeLeaf). x.members) ix.leaves in
    subst (λ (b : Question). after ≡ answer b.collection b.query b.k) same
    (scanned ix 1 1
    ∙ ap (λ (ps : List Pair). scan ground limit (numbers_of c.members-members.result.now) ps)
    (ap (λ (best : Best). best.pairs) c.requires.empty)
    ∙ ap (λ (ms : List Member). scan ground limit (numbers_of ms) []) c.members-members.ensures
    ∙ answer_scanned ground fits limit (numbers_of all) enough (each_met a.collection a.layout ix searched.fits)
    ∙ answer_is a ix 1 1)

pub measure_members-requires-clause-members : goal.measure_members-requires-clause-members
measure_members-requires-clause-members g c =
    let a = c.task-task.result.now in
    let ix = c.index-index.result.now in
    subst (λ (ms : List Member). All (IsMemberOf a) ms) (sym c.members-members.ensures)
    (all_are_members a ix
    (lent_searched c.args.search.now a ix c.task-task.ensures.task c.index-index.ensures.index c.task-task.ensures.searched))

pub sweep-requires-clause-coded : goal.sweep-requires-clause-coded
sweep-requires-clause-coded g c =
    let a = c.task-task.result.now in
    let ix = c.index-index.result.now in
    all_coded a ix c.members-members.result.now c.in-Some.codes.now
    (lent_searched c.args.search.now a ix c.task-task.ensures.task c.index-index.ensures.index c.task-task.ensures.searched)
    c.members-members.ensures (ap (λ (o : Option (Bor (List Block))). option_copied o) (sym c.in-Some.is) ∙ c.codes.ensures)

pub returns : goal.returns
returns g c = all_scanned g (goal.at.returns g c).After-members-members c.sweep.new.list.pairs c.sweep.ensures.pairs

pub returns-in_default : goal.returns-in_default
returns-in_default g c =
    all_scanned g (goal.at.returns-in_default g c).After-members-members c.measure_members.new.list.pairs
    c.measure_members.ensures.pairs
