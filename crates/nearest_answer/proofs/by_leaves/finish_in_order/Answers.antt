-- The order changes nothing of what is left.
use Rattle.search_task.specs.Questions.{ground_of}
use Rattle.nearest_answer.proofs.LeavesLeft.{left_moved}
use Rattle.nearest_answer.proofs.by_leaves.finish_in_order.Goals as goal

pub finish-requires-2 : goal.finish-requires-2
finish-requires-2 g c =
    let b = c.args.begun in
    let was = c.requires.begun in
    record {
      begun = record {
        limit = was.limit;
        list = was.list;
        left = (
          was.left.0,
          left_moved (ground_of c.args.search.now) b.limit was.left.0 b.list.pairs b.left.items c.ordered-left.result.items
              c.ordered-left.ensures was.left.1,
        );
      };
    }
