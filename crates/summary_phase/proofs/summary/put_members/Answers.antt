use Rattle.std.proofs.Common.{◌<◌, ◌∙◌, sym, ap, length, refl, arith}
use Rattle.std.proofs.lemmas.List.{length-set}
use Rattle.summary_phase.proofs.Members.{length-row, root_is_below}
use Rattle.summary_phase.proofs.Putting.{put_more}
use Rattle.summary_phase.proofs.summary.put_members.Goals as goal

pub of-full-requires : goal.of-full-requires
of-full-requires g c =
    let all = g.R.Rows.collection c.args.rows.now in
    let low : c.loop-number.number < length all.series = omega arith in
    length-row all c.requires.sound c.loop-number.number c.row.result.now low c.row.ensures
    ∙ sym c.requires.length

pub put-requires : goal.put-requires
put-requires g c =
    root_is_below c.args.layout.now c.row.result.now c.of-full.result c.root_of.result _
    c.of-full.ensures c.root_of.ensures.bits c.loop-number.invariant.roots

pub loop-number-preserved : goal.loop-number-preserved
loop-number-preserved g c = record {
  roots =
      ap (λ lists. length lists) c.in_ok-put.ensures
      ∙ length-set c.loop-number.buffers c.root_of.result _
      ∙ c.loop-number.invariant.roots;
  found = λ before was.
      let all = g.R.Rows.collection c.args.rows.now in
      let low : c.loop-number.number < length all.series = omega arith in
      let from = c.loop-number.auto.number in
      put_more c.args.layout.now all c.args.numbers.start c.loop-number.number c.row.result.now
      before _ c.root_of.result c.of-full.result c.loop-number.buffers c.put.new.self from low
      c.row.ensures c.of-full.ensures c.root_of.ensures.value
      (root_is_below c.args.layout.now c.row.result.now c.of-full.result c.root_of.result _
      c.of-full.ensures c.root_of.ensures.bits refl)
      (c.loop-number.invariant.found before was) c.in_ok-put.ensures;
}
