-- The last four has met all members, and those before it have.
use Rattle.std.proofs.Common.{◌≡◌, ◌++◌, ◌∷◌, [], List, ap, length, subst, arith}
use Rattle.std.specs.Prelude.{IfSome}
use Rattle.std.specs.Option.{option_to_list}
use Rattle.std.proofs.lemmas.List.{length_push}
use Rattle.std.proofs.lemmas.List.Elements.{All-pop}
use Rattle.group_answer.specs.Sweeping.{AreSwept, members_of}
use Rattle.group_answer.specs.declared.four.Four.{Four}
use Rattle.group_answer.proofs.together.answers_of.Goals as goal

pub push_four-requires-clause-swept : goal.push_four-requires-clause-swept
push_four-requires-clause-swept g c =
    let a = c.args.asked.now in
    let P = AreSwept g.R.Rows.collection a (length (members_of a.index.now)) in
    let popped = All-pop P c.loop-four.fours.items c.pop.new.self.items c.pop.result c.pop.ensures.items c.loop-four.invariant.left in
    subst (λ r. IfSome r P) c.in-Some.is popped.1

pub loop-four-preserved : goal.loop-four-preserved
loop-four-preserved g c =
    let a = c.args.asked.now in
    let P = AreSwept g.R.Rows.collection a (length (members_of a.index.now)) in
    let before = c.loop-four.fours.items in
    let after = c.pop.new.self.items in
    let four = c.in-Some.four in
    let whole : before ≡ after ++ four ∷ []
    = subst (λ r. before ≡ after ++ option_to_list r) c.in-Some.is c.pop.ensures.items in
    let count : length before ≡ length (after ++ four ∷ []) = ap (λ (fs : List (Four g.row.R.Denot)). length fs) whole in
    record {
      few = omega (arith, count, length_push after four, c.in_ok-push_four.ensures.few, c.loop-four.invariant.few);
      left = (All-pop P before after c.pop.result c.pop.ensures.items c.loop-four.invariant.left).0;
      right = c.in_ok-push_four.ensures.right;
    }
