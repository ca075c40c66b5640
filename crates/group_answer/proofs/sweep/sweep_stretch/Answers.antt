-- One four more has met the members of the stretch.
use Rattle.std.proofs.Common.{◌<◌, ◌≢◌, length, sym, subst, arith, get_or-set_other, length-set}
use Rattle.std.proofs.lemmas.List.Elements.{AllWithin-more_set}
use Rattle.group_answer.specs.Sweeping.{AreSwept}
use Rattle.group_answer.proofs.sweep.sweep_stretch.Goals as goal

pub loop-four-preserved : goal.loop-four-preserved
loop-four-preserved g c =
    let i = c.loop-four.four-index in
    let fours = c.loop-four.fours in
    let new = c.sweep.new.self in
    let a = c.args.asked.now in
    let was = c.loop-four.invariant in
    let inside : i < length fours = omega arith in
    record {
      done = AllWithin-more_set fours i new inside (AreSwept g.R.Rows.collection a c.args.to) was.done c.sweep.ensures;
      left = λ k d low high.
          let other : k ≢ i = omega arith in
          let there : k < length fours = omega (arith, high, length-set fours i new) in
          subst (AreSwept g.R.Rows.collection a c.args.from) (sym (get_or-set_other fours i k new d other))
          (was.left k d (omega arith) there);
    }
