-- What a share has found is right, and so is all of it in whatever order.
use Rattle.std.proofs.Common.{List, All, subst, sym}
use Rattle.std.specs.Vec.Iter.{into_iter_items}
use Rattle.std.proofs.lemmas.List.Elements.{All-head, All-push, All-tail}
use Rattle.std.proofs.lemmas.List.Sorted.{All-permutation}
use Rattle.group_answer.specs.Asking.{AreAnswers, IsAnswer}
use Rattle.group_answer.specs.declared.asked.Answered.{Answered}
use Rattle.search_run.specs.declared.dealing.Share.{Share}
use Rattle.search_run.proofs.batch.Batch.gather.Goals as goal

pub loop-found-init : goal.loop-found-init
loop-found-init g c =
    let was = c.loop-share.invariant in
    let Right : List Answered → Type 0 = AreAnswers g.R.Rows.collection c.args.self.now.asked in
    let P : Share → Type 0 = λ s. Right s.found.items in
    let rest = into_iter_items c.next.new.self in
    let all = subst (All P) c.in-Some.ensures.steps.0 was.left in
    record {
      right = was.right;
      here = subst Right (sym c.into_iter-found-iterator.ensures.into_iter_gives.0) (All-head P c.in-Some.share rest all);
      left = All-tail P c.in-Some.share rest all;
    }

pub loop-found-preserved : goal.loop-found-preserved
loop-found-preserved g c =
    let was = c.loop-found.invariant in
    let P : Answered → Type 0 = IsAnswer g.R.Rows.collection c.args.self.now.asked in
    let found = c.in-Some-found.found in
    let rest = into_iter_items c.next-in-loop-found.new.self in
    let here = subst (All P) c.in-Some-found.ensures.steps.0 was.here in
    record {
      right = subst (All P) (sym c.in_ok-push.ensures.items)
          (All-push P c.loop-found.all.items found was.right (All-head P found rest here));
      here = All-tail P found rest here;
      left = was.left;
    }

pub returns : goal.returns
returns g c =
    All-permutation (IsAnswer g.R.Rows.collection c.args.self.now.asked)
    c.loop-share.all.items c.sort_unstable_by_key.new.self.items c.sort_unstable_by_key.ensures.permutation
    c.loop-share.invariant.right
