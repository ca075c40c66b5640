-- What was gathered so far is right, and so is what is still to come.
use Rattle.std.proofs.Common.{All}
use Rattle.std.specs.Vec.Iter.{into_iter_items}
use Rattle.group_answer.specs.Asking.{AreAnswers}
use Rattle.search_run.specs.declared.dealing.Share.{Share}
use Rattle.search_run.proofs.batch.Batch.gather.Given as goal

abbrev pub invariant-loop-share : goal.invariant-loop-share
invariant-loop-share g l = record {
  right : AreAnswers g.R.Rows.collection l.self.asked l.all.items;
  left : All (λ (s : Share). AreAnswers g.R.Rows.collection l.self.asked s.found.items) (into_iter_items l.share-iterator);
}

abbrev pub invariant-loop-found : goal.invariant-loop-found
invariant-loop-found g l = record {
  right : AreAnswers g.R.Rows.collection l.self.asked l.all.items;
  here : AreAnswers g.R.Rows.collection l.self.asked (into_iter_items l.found-iterator);
  left : All (λ (s : Share). AreAnswers g.R.Rows.collection l.self.asked s.found.items) (into_iter_items l.share-iterator);
}
