-- The next leaf has its entry where some searcher put it.
use Rattle.std.proofs.Common.{◌≡◌, ℕ, ◌+◌, Vec, Global, ap, length, refl, subst, sym, ◌∙◌, vec_capacity, vec_len, arith}
use Rattle.series_core.specs.declared.queue_words.Entry.{Entry}
use Rattle.lower_bound.specs.Bound.{View}
use Rattle.search_task.specs.Questions.{view_in}
use Rattle.live_query.specs.Marked.{AreMarked}
use Rattle.live_query.specs.Parts.{marks_of}
use Rattle.live_query.proofs.Marks.{entries_more, entries_skip}
use Rattle.live_query.proofs.marked.marked_entries.Goals as goal
use Rattle.live_query.proofs.marked.marked_entries.Goals.{then-was_put, else-was_put}

pub loop-leaf-preserved : goal.loop-leaf-preserved
loop-leaf-preserved g c =
    let was = c.loop-leaf.invariant in
    let view : View = view_in c.args.plan.now.search.question in
    elim c.if-was_put.branch [
      | then-was_put w ↦
          let items = ap (λ (v : Vec Entry Global). v.items) w.entries-is ∙ w.push_reserved.ensures.items in
          record {
            len = let a = ap (λ (v : Vec Entry Global). vec_len v) w.entries-is in
                let b = w.push_reserved.ensures.len in omega arith;
            room = let a = ap (λ (v : Vec Entry Global). vec_capacity v) w.entries-is in
                let b = w.push_reserved.ensures.capacity in omega arith;
            marked = subst (AreMarked view c.args.plan.now.search.index (marks_of c.args.team.now) (c.loop-leaf.leaf + 1))
                (sym items)
                (entries_more view c.args.plan.now.search.index (marks_of c.args.team.now) c.loop-leaf.leaf
                c.loop-leaf.entries.items was.marked _ refl
                w.bound_in-bound.ensures
                (c.was_put.ensures.yes w.if-was_put.true));
          }
      | else-was_put w ↦ record {
        len = let a = ap (λ (v : Vec Entry Global). vec_len v) w.entries-is in omega arith;
        room = let a = ap (λ (v : Vec Entry Global). vec_capacity v) w.entries-is in omega arith;
        marked = subst (AreMarked view c.args.plan.now.search.index (marks_of c.args.team.now) (c.loop-leaf.leaf + 1))
            (sym (ap (λ (v : Vec Entry Global). v.items) w.entries-is))
            (entries_skip view c.args.plan.now.search.index (marks_of c.args.team.now) c.loop-leaf.leaf
            c.loop-leaf.entries.items was.marked (c.was_put.ensures.no w.if-was_put.false));
      }
    ]

pub returns : goal.returns
returns g c =
    let all : c.loop-leaf.leaf ≡ length c.args.plan.now.search.index.leaves =
    omega (arith, c.leaf_count-leaves.ensures.count, c.loop-leaf.auto.leaf-end, c.loop-leaf-test.false) in
    subst (λ (n : ℕ). AreMarked (view_in c.args.plan.now.search.question) c.args.plan.now.search.index (marks_of c.args.team.now) n
    c.loop-leaf.entries.items) all c.loop-leaf.invariant.marked
