-- One query more is answered.
use Rattle.std.proofs.Common.{◌≡◌, ◌+◌, ◌-◌, ◌/◌, ◌++◌, ◌≤◌, List, suc, length, take, drop, ap, sym, ◌∙◌, subst, arith}
use Rattle.series_core.specs.declared.pair.Pair.{Pair}
use Rattle.isearch_c.specs.Found.{filled, wanted_of}
use Rattle.isearch_c.proofs.Filling.{few_wanted, next_query, shorter}
use Rattle.isearch_c.proofs.answers.IndexedRows.answers.Goals as goal

pub put-requires : goal.put-requires
put-requires g c =
    let all = g.R.Rows.collection c.args.self.now.rows.now in
    let P : List Pair → Type 0 = λ ps. length ps ≤ c.args.asked.k in
    subst P (sym (c.deref.ensures.value ∙ c.pairs.view_is ∙ c.in_ok-pairs.ensures)) (few_wanted c.args.asked all c.split_at.result.0.now)

pub loop-preserved : goal.loop-preserved
loop-preserved g c =
    let all = g.R.Rows.collection c.args.self.now.rows.now in
    let n = all.points in
    let long : c.length-length.result ≡ n = c.length-length.ensures.length in
    let rest = c.loop.rest.now in
    let front : c.split_at.result.0.now ≡ take c.length-length.result rest = c.split_at.ensures.front in
    let back : c.split_at.result.1.now ≡ drop c.length-length.result rest = c.split_at.ensures.back in
    let count = length c.args.queries.now / n in
    let end : length c.args.queries.now / c.length-length.result ≡ count = ap (λ k. length c.args.queries.now / k) long in
    let left : count - c.loop.counter ≡ suc (count - (c.loop.counter + 1)) = omega (arith, c.loop-test.true, end) in
    let less = shorter n (count - (c.loop.counter + 1)) (count - c.loop.counter) (length rest) left c.loop.invariant.long in
    record {
      long = let behind = c.split_at.ensures.back_len in omega (arith, less, behind, long);
      all = next_query (wanted_of c.args.asked all) c.args.asked.k n (count - (c.loop.counter + 1)) (count - c.loop.counter)
          rest c.split_at.result.0.now c.split_at.result.1.now c.loop.found.items c.put.new.found.items left
          (front ∙ ap (λ k. take k rest) long) (back ∙ ap (λ k. drop k rest) long)
          (c.in_ok-put.ensures ∙ ap (λ ps. c.loop.found.items ++ filled c.args.asked.k ps) (c.deref.ensures.value ∙ c.pairs.view_is ∙ c.in_ok-pairs.ensures))
          ∙ c.loop.invariant.all;
    }
