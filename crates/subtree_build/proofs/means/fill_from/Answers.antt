-- One member more stands at its place.
use Rattle.std.proofs.Common.{◌≡◌, ◌≢◌, ◌+◌, ◌*◌, ◌≤◌, List, [], length, take, sym, ap, ◌∙◌, arith, below_more}
use Rattle.std.proofs.lemmas.List.{ext_get_or, get_or-set_other, get_or-set_same, length-map, take_all}
use Rattle.std.proofs.lemmas.Slice.{take-put_mid}
use Rattle.std.proofs.Math.Nat.{mul-le-mul_right}
use Rattle.row_codes.specs.Rows.{Block, block_count}
use Rattle.row_codes.proofs.Below.{have_squares}
use Rattle.subtree_build.specs.Means.{all_codes, all_means, means_of}
use Rattle.subtree_build.proofs.MemberCodes.{coded_row, codes_push}
use Rattle.subtree_build.proofs.SideBySide.{IsPart, part_ends, part_is, part_means}
use Rattle.subtree_build.proofs.means.fill_from.Goals as goal

pub loop-i-init : goal.loop-i-init
loop-i-init g c =
    let none : 0 * block_count c.args.source.now.coded ≡ 0 = omega arith in
    record {
      means = λ k low. absurd (omega (arith, low));
      codes = ap (λ k. take k c.args.codes.now) none;
    }

pub slice_bounds-row-end : goal.slice_bounds-row-end
slice_bounds-row-end g c =
    part_ends (g.R.Rows.collection c.args.source.now.rows.now) c.args.members.now c.args.values.now c.loop-i.i c.length-length.result
    (part_is _ _ _ _ _ c.length-length.ensures.sound c.requires.places.series c.loop-i-test.true
    c.requires.values c.length-length.ensures.length)

pub loop-i-preserved : goal.loop-i-preserved
loop-i-preserved g c =
    let i = c.loop-i.i in
    let all = g.R.Rows.collection c.args.source.now.rows.now in
    let is : IsPart all c.args.members.now c.args.values.now i c.length-length.result
    = part_is _ _ _ _ _ c.length-length.ensures.sound c.requires.places.series c.loop-i-test.true
    c.requires.values c.length-length.ensures.length in
    let means = c.loop-i.means in
    let y = c.of.result in
    let coded = c.args.source.now.coded in
    let n = block_count coded in
    let blocks = c.block_count-blocks.result in
    let at : i * blocks ≡ i * n = ap (λ k. i * k) c.block_count-blocks.ensures.value in
    let up_to : (i + 1) * n ≤ length c.args.members.now * n = mul-le-mul_right n (omega (arith, c.loop-i-test.true)) in
    let new = c.code_row.new.codes in
    let long : length new ≡ n
    = ap (λ (cs : List Block). length cs) c.code_row.ensures
    ∙ (have_squares _).count
    ∙ ap block_count (coded_row all c.args.members.now c.args.values.now i c.length-length.result coded is c.requires.places.coded_length).1 in
    record {
      means = below_more _ _
          (λ k low. let other : k ≢ i = omega (arith, low) in
          get_or-set_other means i k y [] other ∙ c.loop-i.invariant.means k low)
          (get_or-set_same means i y [] (omega (arith, c.loop-i-test.true, c.loop-i.auto.means, c.requires.places.means_places))
          ∙ c.of.ensures
          ∙ part_means all c.args.members.now c.args.values.now i c.length-length.result is c.args.source.now.layout.now);
      codes = take-put_mid (i * blocks) _ c.loop-i.codes new ((i + 1) * n) (omega (arith, at, long))
          (omega (arith, at, up_to, c.loop-i.auto.codes, c.requires.places.codes_places))
          ∙ codes_push all c.args.members.now c.args.values.now i c.length-length.result coded (take (i * blocks) c.loop-i.codes) new is
          c.requires.places.coded_length (ap (λ k. take k c.loop-i.codes) at ∙ c.loop-i.invariant.codes) c.code_row.ensures;
    }

pub returns : goal.returns
returns g c =
    let all = g.R.Rows.collection c.args.source.now.rows.now in
    let members = c.args.members.now in
    let n = block_count c.args.source.now.coded in
    let end : c.loop-i.i ≡ length members = omega (arith, c.loop-i-test.false, c.loop-i.auto.i-end) in
    let whole : length c.loop-i.codes ≤ c.loop-i.i * n
    = omega (arith, c.loop-i.auto.codes, c.requires.places.codes_places, ap (λ k. k * n) end) in
    record {
      own_means = ext_get_or [] c.loop-i.means (all_means all c.args.source.now.layout.now members)
          (c.loop-i.auto.means ∙ c.requires.places.means_places ∙ sym (length-map members (means_of all c.args.source.now.layout.now)))
          (λ k inside. c.loop-i.invariant.means k
          (omega (arith, inside, end, c.loop-i.auto.means, c.requires.places.means_places)));
      own_codes = sym (take_all (c.loop-i.i * n) c.loop-i.codes whole)
          ∙ c.loop-i.invariant.codes
          ∙ ap (all_codes all) (take_all c.loop-i.i members (omega (arith, end)));
    }
