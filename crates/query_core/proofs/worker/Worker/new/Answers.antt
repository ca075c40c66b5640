use Rattle.std.proofs.Common.{◌≡◌, List, [], false, refl, sym, ap, ◌∙◌, subst, arith}
use Rattle.series_core.specs.Best.{Best}
use Rattle.series_core.specs.declared.pair.Pair.{Pair}
use Rattle.search_machine.specs.declared.phase.Phase.TheVariants.{Claim}
use Rattle.search_machine.specs.Workers.{without}
use Rattle.search_task.specs.Questions.{CanBeSearched, Searched, search_over, view_in}
use Rattle.query_core.specs.Walks.{Walked}
use Rattle.query_core.specs.BoundShares.{AreBounds}
use Rattle.query_core.specs.Working.{IsFound, IsWorking, working}
use Rattle.query_core.specs.declared.stage.Stage.TheVariants.{Claim as ClaimStage}
use Rattle.query_core.proofs.BoundShares.{no_bounds}
use Rattle.search_task.proofs.OfIndex.{search_fits}
use Rattle.query_core.proofs.Openers.{opener_found, opener_leaf, opener_marks, opener_shows, opener_start}
use Rattle.query_core.proofs.TurnLaws.{none_without}
use Rattle.query_core.proofs.worker.Worker.new.Goals as goal

pub opened_marks-requires : goal.opened_marks-requires
opened_marks-requires g c =
    opener_leaf c.args.task.now c.args.index.now c.args.queues c.args.start c.leaf_of-start.result c.requires.start
    c.leaf_of-start.ensures c.leaf_count.ensures.is_index c.leaf_count.result c.leaf_count.ensures.count

pub invariant_of-result : goal.invariant_of-result
invariant_of-result g c =
    let a = c.args.task.now in
    let ix = c.args.index.now in
    let search = search_over a ix 1 c.args.queues in
    let marks =
    opener_marks a ix c.args.queues c.args.start c.leaf_of-start.result c.requires.start c.leaf_of-start.ensures
    c.args.number c.leaf_count.result c.in_ok-marks.marks.items c.leaf_count.ensures.count c.in_ok-marks.ensures in
    let searched : CanBeSearched a ix = c.new-search.ensures.searched in
    let fits = search_fits a ix 1 c.args.queues searched (omega arith) c.requires.queues.0 in
    let start = c.leaf_of-start.result in
    let rest = without start c.new-walk.result.leaves in
    subst (λ (s : Searched).
    IsWorking start c.new-walk.result c.args.list ClaimStage
    (working s.question s.index c.args.number c.args.queues Claim rest c.args.list.pairs c.in_ok-marks.marks.items false)
    × Unit {0} × AreBounds (view_in s.question) s.index c.none.result) (sym c.new-search.ensures.search) (
      record {
        searched = searched;
        number_limit = c.requires.number;
        some_queue = c.requires.queues.0;
        few_queues = c.requires.queues.1;
        start_is = opener_start a ix c.args.queues c.args.start c.leaf_of-start.result c.requires.start
            c.leaf_of-start.ensures;
        walk_index = ap (λ (w : Walked). w.index) c.new-walk.ensures;
        wanted = ap (λ (b : Best). b.k) c.requires.list;
        found = subst (λ (ps : List Pair). IsFound search c.in_ok-marks.marks.items ps)
            (sym (ap (λ (b : Best). b.pairs) c.requires.list))
            (opener_found search fits c.args.number c.in_ok-marks.marks.items marks);
        marks = marks.count;
        range = tt;
      },
      tt,
      no_bounds (view_in a) ix c.none.result 0 0 c.none.ensures (omega arith),
    )

pub returns-clause-opens : goal.returns-clause-opens
returns-clause-opens g c =
    let a = c.args.task.now in
    let ix = c.args.index.now in
    let marks =
    opener_marks a ix c.args.queues c.args.start c.leaf_of-start.result c.requires.start c.leaf_of-start.ensures
    c.args.number c.leaf_count.result c.in_ok-marks.marks.items c.leaf_count.ensures.count c.in_ok-marks.ensures in
    let rest : without c.leaf_of-start.result c.new-walk.result.leaves ≡ [] =
    ap (λ (w : Walked). without c.leaf_of-start.result w.leaves) c.new-walk.ensures
    ∙ none_without c.leaf_of-start.result in
    opener_shows (search_over a ix 1 c.args.queues) c.args.number _ refl rest
    (ap (λ (b : Best). b.pairs) c.requires.list) marks
