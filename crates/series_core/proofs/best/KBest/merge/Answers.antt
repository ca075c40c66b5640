use Rattle.std.proofs.Common.{arith, ℕ, ◌+◌, List, sym, ◌∙◌, ◌++◌, ◌≤◌, take, length, length-append, length-take}
use Rattle.series_core.proofs.Room.{ascending_take}
use Rattle.series_core.proofs.Sorting.{sorted_ascending, ascending_sorted}
use Rattle.series_core.proofs.Joining.{smallest_all, smallest_behind}
use Rattle.series_core.proofs.Plain.{length-ascending}
use Rattle.series_core.specs.declared.pair.Pair.{Pair}
use Rattle.series_core.proofs.best.KBest.merge.Goals as goal

pub returns-then-are_behind-clause-pairs : goal.returns-then-are_behind-clause-pairs
returns-then-are_behind-clause-pairs c =
    let k = c.self.inside.k in
    let held = c.self.inside.pairs.items in
    let behind = rw c.deref.ensures.value at (c.are_behind.ensures c.if-are_behind.true) in
    rw (← c.self.view_is, ← c.pairs-others.ensures.pairs)
    (sym (smallest_behind k c.pairs-others.result.now held (omega (arith, c.self.inside.pairs.ok.0)) behind
    ∙ smallest_all k held c.self.invariant.0.size ∙ c.self.invariant.0.ordered))

pub join-requires-clause-others : goal.join-requires-clause-others
join-requires-clause-others c =
    ascending_take c.cut_to-count.result c.pairs-others.result.now
    (rw (← c.pairs-others.ensures.pairs) at c.pairs-others.ensures.sound.ordered)

-- what is left is no more than there is room for
left_size : (others held : List Pair) (count k : ℕ) → count ≤ length others → length held + count ≤ k
    → length (take count others ++ held) ≤ k
left_size others held count k bound h =
    omega (arith, length-append (take count others) held, length-take count others)

pub invariant_of-self : goal.invariant_of-self
invariant_of-self c =
    let cut = c.cut_to-count in
    let others = c.pairs-others.result.now in
    let held = cut.new.pairs.items in
    let all = take cut.result others ++ held in
    let size = left_size others held cut.result c.self.inside.k cut.ensures.bound cut.ensures.size in (
      record {
        some = c.self.invariant.0.some;
        limit = c.self.invariant.0.limit;
        size = rw (c.join.ensures.items, length-ascending all) size;
        ordered = rw c.join.ensures.items (ascending_sorted _ (sorted_ascending all));
      },
      omega (arith, c.join.ensures.room, cut.ensures.capacity, c.self.invariant.1),
    )

pub returns-clause-pairs : goal.returns-clause-pairs
returns-clause-pairs c =
    let cut = c.cut_to-count in
    let others = c.pairs-others.result.now in
    let held = cut.new.pairs.items in
    let size = left_size others held cut.result c.self.inside.k cut.ensures.bound cut.ensures.size in
    rw (← c.self.view_is, ← c.pairs-others.ensures.pairs)
    (c.join.ensures.items ∙ sym (smallest_all c.self.inside.k (take cut.result others ++ held) size)
    ∙ cut.ensures.smallest)
