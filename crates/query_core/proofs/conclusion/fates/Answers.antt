use Rattle.std.proofs.Common.{List, Option, Some, ap, arith, drop, length, map, subst, sym, ℕ, ◌+◌, ◌∙◌, ◌≡◌}
use Rattle.std.proofs.Math.Seq.{drop-length}
use Rattle.std.specs.Prelude.{slice_get}
use Rattle.search_machine.specs.declared.outcome.Fate.{Fate}
use Rattle.search_machine.specs.declared.outcome.QueueLine.{QueueLine}
use Rattle.search_machine.specs.Outcome.{fate, line_of}
use Rattle.query_core.specs.Fates.{AreUnqueued, fate_queued, fate_unqueued, leaf_of}
use Rattle.search_task.specs.Questions.{search_over}
use Rattle.query_core.proofs.FatesWritten.{fates_listed, queued_fate, unqueued_more}
use Rattle.query_core.proofs.conclusion.fates.Goals as goal

pub loop-leaf-preserved : goal.loop-leaf-preserved
loop-leaf-preserved g c = record {
  len = let was = c.loop-leaf.invariant.len in let e = c.push_reserved.ensures.len in omega arith;
  room = let was = c.loop-leaf.invariant.room in let e = c.push_reserved.ensures.capacity in omega arith;
  each = λ n m s shown.
      subst (AreUnqueued (search_over c.args.search.now.question c.args.search.now.index n m) s (c.loop-leaf.leaf + 1))
      (sym c.push_reserved.ensures.items)
      (unqueued_more (search_over c.args.search.now.question c.args.search.now.index n m) s c.loop-leaf.leaf c.loop-leaf.fates.items
      c.unqueued_fate.result (c.loop-leaf.invariant.each n m s shown) (c.unqueued_fate.ensures n m s shown));
}

pub loop-m-init : goal.loop-m-init
loop-m-init g c =
    let all : c.loop-leaf.leaf ≡ length c.args.search.now.index.leaves = omega arith in
    record {
      within = omega arith;
      count = λ s shown. (c.loop-leaf.invariant.each 1 1 s shown).count ∙ all;
      each = λ n q s shown k low.
          let f : Fate = fate_unqueued (search_over c.args.search.now.question c.args.search.now.index n q) s k in
          subst (λ (ls : List QueueLine). slice_get c.loop-leaf.fates.items k
          ≡ Some (fate_queued (leaf_of c.args.start) (length c.args.lines.now) ls k f))
          (sym (drop-length c.args.lines.now)) ((c.loop-leaf.invariant.each n q s shown).each k (omega (arith, all, low)));
    }

pub returns : goal.returns
returns g c =
    λ n q s ends.
    let none : c.loop-m.m ≡ 0 = omega arith in
    let rest : drop c.loop-m.m c.args.lines.now ≡ map line_of s.queues =
    ap (λ (i : ℕ). drop i c.args.lines.now) none ∙ ends.lines in
    fates_listed (search_over c.args.search.now.question c.args.search.now.index n q) s (length c.args.search.now.index.leaves) 0
    c.loop-m.fates.items (c.loop-m.invariant.count s ends.workers)
    (λ k low.
    let z : k ≡ 0 + k = omega arith in
    let f : Fate = fate_unqueued (search_over c.args.search.now.question c.args.search.now.index n q) s k in
    c.loop-m.invariant.each n q s ends.workers k low
    ∙ ap (λ (o : Option ℕ). Some (fate_queued o c.loop-m.m (drop c.loop-m.m c.args.lines.now) k f)) c.requires.ended.start_is
    ∙ ap (λ (m : ℕ). Some (fate_queued (search_over c.args.search.now.question c.args.search.now.index n q).start m
    (drop c.loop-m.m c.args.lines.now) k f)) none
    ∙ ap (λ (ls : List QueueLine). Some (fate_queued (search_over c.args.search.now.question c.args.search.now.index n q).start 0 ls k f)) rest
    ∙ ap (λ (x : Fate). Some x) (queued_fate (search_over c.args.search.now.question c.args.search.now.index n q) s k)
    ∙ ap (λ (j : ℕ). Some (fate (search_over c.args.search.now.question c.args.search.now.index n q) s j)) z)
