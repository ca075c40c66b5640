-- The lists so far are merged, and the next is in order as they are.
use Rattle.std.proofs.Common.{◌≡◌, List, ap, refl, subst, sym, take, ◌∙◌, ◌++◌, ℕ}
use Rattle.std.proofs.lemmas.Option.{slice_get_read}
use Rattle.series_core.specs.Best.{Best}
use Rattle.series_core.specs.Pairs.{ascending, smallest}
use Rattle.series_core.specs.declared.pair.Pair.{Pair}
use Rattle.query_core.specs.Teams.{all_lists}
use Rattle.query_core.proofs.ListsMerged.{held_ascends, merge_next}
use Rattle.query_core.proofs.conclusion.merged.Goals as goal

pub merge-requires : goal.merge-requires
merge-requires g c = record {
  ordered = (
    subst (λ (ps : List Pair). ascending ps ≡ ps) (sym c.pairs.ensures.pairs) c.pairs.ensures.sound.ordered,
    held_ascends c.args.k (all_lists (take c.loop-worker.worker-index c.args.workers.now)) c.deref.result.now
        (c.deref.ensures.value ∙ c.loop-worker.invariant),
  );
}

pub loop-worker-preserved : goal.loop-worker-preserved
loop-worker-preserved g c =
    let k : ℕ = c.args.k in
    c.in_ok-pairs.ensures
    ∙ ap (λ (ps : List Pair). smallest k (ps ++ c.deref.result.now))
    (c.pairs.ensures.pairs ∙ ap (λ (b : Best). b.pairs) c.list.ensures.list)
    ∙ merge_next k c.args.workers.now c.loop-worker.worker-index
    c.worker-item.result c.deref.result.now
    (slice_get_read c.args.workers.now _ c.loop-worker.worker-index _ refl c.loop-worker-test.true
    c.worker-item.is) (c.deref.ensures.value ∙ c.loop-worker.invariant)
