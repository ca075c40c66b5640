-- One four more has met nothing.
use Rattle.std.proofs.Common.{◌≡◌, ◌++◌, ◌∷◌, [], List, length, subst, sym, ap, arith, length-append}
use Rattle.std.specs.List.{All}
use Rattle.std.proofs.lemmas.List.Elements.{All-push}
use Rattle.group_answer.specs.Sweeping.{AreSwept}
use Rattle.group_answer.specs.declared.four.Four.{Four}
use Rattle.group_answer.proofs.together.fours_of.Goals as goal

pub loop-i-preserved : goal.loop-i-preserved
loop-i-preserved g c =
    let P = AreSwept g.R.Rows.collection c.args.asked.now 0 in
    let was = c.loop-i.invariant in
    let items = c.loop-i.fours.items in
    let four = c.in_ok-begin.field-0 in
    let whole : length c.push.new.self.items ≡ length (items ++ four ∷ [])
    = ap (λ (fs : List (Four g.row.R.Denot)). length fs) c.in_ok-push.ensures.items in
    record {
      count = omega (arith, whole, length-append items (four ∷ []), was.count);
      swept = subst (All P) (sym c.in_ok-push.ensures.items) (All-push P items four was.swept c.in_ok-begin.ensures);
    }
