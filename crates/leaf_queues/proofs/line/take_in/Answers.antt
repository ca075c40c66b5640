use Rattle.std.proofs.Common.{◌-◌, ◌<◌, inl, inr, length, sym, ◌∙◌, arith}
use Rattle.std.proofs.lemmas.List.Sorted.{IsPermutation-trans}
use Rattle.series_core.specs.declared.queue_words.Entry.{Entry}
use Rattle.leaf_queues.proofs.Lines.{stays_behind, joins, compared, compared_before}
use Rattle.leaf_queues.proofs.line.take_in.Goals as goal
use Rattle.leaf_queues.proofs.line.take_in.Goals.{then-run-eq0-via-then-run-eq0, then-run-eq0-via-else-run-eq0+then-not-comes_before}

pub returns-then-run-eq0-clause-run : goal.returns-then-run-eq0-clause-run
returns-then-run-eq0-clause-run c = elim c.then-run-eq0.branch [
  | then-run-eq0-via-then-run-eq0 w ↦ stays_behind c.args.run c.args.entries.now c.requires.inside
      c.requires.run (inl w.if-run-eq0.true)
  | then-run-eq0-via-else-run-eq0+then-not-comes_before w ↦ stays_behind c.args.run c.args.entries.now
      c.requires.inside c.requires.run (inr (compared c.args.entries.now
      (c.args.run - 1) (length c.args.entries.now - 1) _ _ (omega arith) (omega arith)
      (sym w.comes_before.ensures ∙ w.if-not-comes_before.true)))
]

pub sort_front-requires-clause-cut : goal.sort_front-requires-clause-cut
sort_front-requires-clause-cut c =
    let some : 0 < c.args.run = omega (arith, c.if-run-eq0.false) in
    let none : Entry = record { bound = 0; leaf = 0 } in
    joins c.args.run c.args.entries.now c.requires.inside c.requires.run c.swap.new.self some
    (compared_before c.args.entries.now (length c.args.entries.now - 1) (c.args.run - 1) none none
    (omega arith) (omega arith) (sym c.comes_before.ensures ∙ c.if-not-comes_before.false))
    c.swap.ensures.len c.swap.ensures.by_index

pub returns-clause-permutation : goal.returns-clause-permutation
returns-clause-permutation c =
    IsPermutation-trans c.args.entries.now c.swap.new.self c.sort_front.new.entries
    c.swap.ensures.permutation c.sort_front.ensures.permutation
