use Rattle.std.proofs.Common.{set, ap, ◌∙◌}
use Rattle.std.proofs.lemmas.List.{set-get_or}
use Rattle.live_query.proofs.opening.take_shares.Goals as goal

pub loop-i-preserved : goal.loop-i-preserved
loop-i-preserved g c =
    let was = c.loop-i.invariant in
    record {
      same = ap (set c.loop-i.workers.items c.loop-i.i) (c.take_share.ensures.same ∙ c.index_mut.ensures.value)
          ∙ set-get_or c.loop-i.workers.items c.loop-i.i c.index_mut.result.now ∙ was.same;
      len = was.len;
    }
