use Rattle.std.proofs.Common.{◌≡◌, ℕ, ◌+◌, ◌<◌, length, Vec, Global, vec_len, vec_capacity, sym, ap, ◌∙◌, subst, arith}
use Rattle.series_core.specs.declared.queue_words.Entry.{Entry}
use Rattle.sealed_runs.specs.Tallied.{Takes}
use Rattle.sealed_runs.proofs.Taking.{takes_past, takes_more}
use Rattle.sealed_runs.proofs.closed.take_entries.Goals as goal
use Rattle.sealed_runs.proofs.closed.take_entries.Goals.{then-not-stands_in, else-not-stands_in}

pub loop-place-preserved : goal.loop-place-preserved
loop-place-preserved c =
    let es = c.args.entries.now in
    let refused = c.args.refused.now in
    let place = c.loop-place.place in
    let low : place < length es = omega (arith, c.loop-place-test.true, c.requires.reach) in
    let was = c.loop-place.taken in
    let inv = c.loop-place.invariant in
    elim c.if-not-stands_in.branch [
      | then-not-stands_in w ↦
          let items = ap (λ (v : Vec Entry Global). v.items) w.taken-is
          ∙ w.push_reserved.ensures.items in
          let more = takes_more es refused place was.items c.requires.ascending low
          (c.stands_in.ensures.no w.if-not-stands_in.true) inv.takes in
          record {
            takes = subst (Takes es refused (place + 1)) (sym items) more;
            len = omega (arith, inv.len, ap vec_len w.taken-is, w.push_reserved.ensures.len);
            room = omega (arith, inv.room, ap vec_capacity w.taken-is, w.push_reserved.ensures.capacity);
          }
      | else-not-stands_in w ↦
          let past = takes_past es refused place was.items
          (c.stands_in.ensures.yes w.if-not-stands_in.false) inv.takes in
          record {
            takes = subst (λ (v : Vec Entry Global). Takes es refused (place + 1) v.items)
                (sym w.taken-is) past;
            len = omega (arith, inv.len, ap vec_len w.taken-is);
            room = omega (arith, inv.room, ap vec_capacity w.taken-is);
          }
    ]

pub returns : goal.returns
returns c =
    let inv = c.loop-place.invariant in
    let done : c.loop-place.place ≡ c.args.reach =
    omega (arith, c.loop-place-test.false, c.loop-place.auto.place-end) in
    subst (λ (n : ℕ). Takes c.args.entries.now c.args.refused.now n c.loop-place.taken.items) done
    inv.takes
