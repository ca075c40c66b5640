-- The row of one member more stands behind those before it.
use Rattle.std.proofs.Common.{◌≡◌, ◌∙◌, ◌+◌, ◌*◌, ◌≤◌, ℤ, List, [], arith, sym, ap, length, take}
use Rattle.std.proofs.Math.Nat.{mul-le-mul_right}
use Rattle.std.proofs.lemmas.Slice.{take-put_mid}
use Rattle.std.proofs.lemmas.List.{take_all}
use Rattle.std.proofs.lemmas.Option.{get_or_from_slice_get}
use Rattle.isax_word.specs.declared.member.Member.{Member}
use Rattle.subtree_build.specs.Means.{all_values}
use Rattle.subtree_build.specs.Members.{series_at}
use Rattle.subtree_build.proofs.Flattened.{piece_push}
use Rattle.subtree_build.proofs.SideBySide.{series_long}
use Rattle.subtree_build.proofs.fetched.fetch.Goals as goal

pub loop-i-preserved : goal.loop-i-preserved
loop-i-preserved g c =
    let all = g.R.Rows.collection c.args.rows.now in
    let members = c.args.members.now in
    let n = all.points in
    let i = c.loop-i.i in
    let m = c.index-members-i.result in
    let start = i * c.length-length.result in
    let same : c.length-length.result ≡ n = c.length-length.ensures.length in
    let at : start ≡ i * n = ap (λ k. i * k) same in
    let there = c.index-members-i.is in
    let inside = c.requires.series i m c.loop-i-test.true in
    let own : c.row.result.now ≡ series_at all m.number
    = sym (get_or_from_slice_get all.series _ c.row.result.now [] c.row.ensures)
    ∙ ap (λ (x : Member). series_at all x.number) (sym there) in
    let long : length c.row.result.now ≡ n
    = ap (λ (xs : List ℤ). length xs) (sym (get_or_from_slice_get all.series _ c.row.result.now [] c.row.ensures))
    ∙ series_long all _ c.length-length.ensures.sound inside in
    let up_to : (i + 1) * n ≤ length members * n = mul-le-mul_right n (omega (arith, c.loop-i-test.true)) in
    let low : start ≤ length c.loop-i.into = omega (arith, at, up_to, c.loop-i.auto.into, c.requires.places) in
    let after : c.copy_from_slice.new.self ≡ c.row.result.now = c.copy_from_slice.ensures.after in
    let end : (i + 1) * n ≡ start + length c.copy_from_slice.new.self
    = omega (arith, at, ap (λ (xs : List ℤ). length xs) after, long) in
    take-put_mid start _ c.loop-i.into c.copy_from_slice.new.self ((i + 1) * n) end low
    ∙ piece_push (λ (x : Member). series_at all x.number) members i m (take start c.loop-i.into) c.copy_from_slice.new.self c.loop-i-test.true there
    (ap (λ k. take k c.loop-i.into) at ∙ c.loop-i.invariant) (after ∙ own)

pub returns : goal.returns
returns g c =
    let all = g.R.Rows.collection c.args.rows.now in
    let members = c.args.members.now in
    let end : c.loop-i.i ≡ length members = omega (arith, c.loop-i-test.false, c.loop-i.auto.i-end) in
    let whole : length c.loop-i.into ≤ c.loop-i.i * all.points
    = omega (arith, c.loop-i.auto.into, c.requires.places, ap (λ k. k * all.points) end) in
    sym (take_all (c.loop-i.i * all.points) c.loop-i.into whole)
    ∙ c.loop-i.invariant
    ∙ ap (all_values all) (take_all c.loop-i.i members (omega (arith, end)))
