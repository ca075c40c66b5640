use Rattle.std.proofs.Common.{arith, ap, take, ◌-◌, ◌∙◌, ◌≡◌, length}
use Rattle.series_core.proofs.Joining.{drop_other, drop_held}
use Rattle.series_core.proofs.Room.{ascending_take}
use Rattle.series_core.proofs.best.cut_to.Goals as goal

pub loop-count-preserved-then-is_behind : goal.loop-count-preserved-then-is_behind
loop-count-preserved-then-is_behind c = record {
  bound = omega arith;
  size = c.loop-count.invariant.size;
  ordered = c.loop-count.invariant.ordered;
  smallest =
      let size : c.len-in-loop-count.result ≡ length c.loop-count.pairs.items = omega (arith, c.loop-count.pairs.ok.0) in
      drop_other c.args.k c.args.others.now c.loop-count.pairs.items c.loop-count.count c.len-in-loop-count.result _
      c.requires.others c.loop-count.invariant.bound c.loop-count.invariant.size (omega (arith, c.loop-count.pairs.ok.0)) size
      (rw c.deref.ensures.value at (c.is_behind.ensures.yes c.if-is_behind.true))
      ∙ c.loop-count.invariant.smallest;
  capacity = c.loop-count.invariant.capacity;
}

pub loop-count-preserved : goal.loop-count-preserved
loop-count-preserved c =
    let held = c.loop-count.pairs.ok.0 in
    let size : c.len-in-loop-count.result ≡ length c.loop-count.pairs.items = omega (arith, held) in
    let no = c.is_behind.ensures.no c.if-is_behind.false in
    let rest : c.pop.new.self.items ≡ take (c.len-in-loop-count.result - 1) c.loop-count.pairs.items =
    c.pop.ensures.rest ∙ ap (λ n. take (n - 1) c.loop-count.pairs.items) (omega (arith, held)) in
    record {
      bound = c.loop-count.invariant.bound;
      size = omega (arith, held, c.pop.ensures.len, c.pop.new.self.ok.0);
      ordered = rw rest (ascending_take _ c.loop-count.pairs.items c.loop-count.invariant.ordered);
      smallest = rw rest
          (drop_held c.args.k c.args.others.now c.loop-count.pairs.items c.loop-count.count c.len-in-loop-count.result _
          c.requires.others c.loop-count.invariant.bound c.loop-count.invariant.size (omega (arith, held)) size
          _ c.loop-count.invariant.ordered no.0 (rw c.deref.ensures.value at no.1)
          ∙ c.loop-count.invariant.smallest);
      capacity = c.pop.ensures.capacity ∙ c.loop-count.invariant.capacity;
    }
