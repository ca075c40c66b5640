-- The next member is put in both.
use Rattle.std.proofs.Common.{◌≡◌, ◌++◌, ◌<◌, ◌==◌, cond, length, get_or, take, ap, ◌∙◌, arith}
use Rattle.std.proofs.lemmas.List.Elements.{All-get_or}
use Rattle.isax_word.specs.declared.member.Member.{Member}
use Rattle.subtree_build.specs.Splitting.{goes_high}
use Rattle.subtree_build.proofs.Dividing.{all_are_divided, bit_is, next_in_both, same_next}
use Rattle.subtree_build.proofs.subtree.move_apart.Goals as goal

pub next_bit-requires-clause-full : goal.next_bit-requires-clause-full
next_bit-requires-clause-full c =
    let all = c.args.members.now in
    let m = c.index-members-i.result in
    let is : m ≡ get_or all c.loop-i.i m
    = same_next _ all c.loop-i.members _ _ c.loop-i.i c.loop-i.invariant.0 m c.index-members-i.is c.loop-i-test.true in
    let long = All-get_or (λ (x : Member). length x.full ≡ length c.args.word.now) all c.loop-i.i m (omega arith)
    c.requires.segments in
    omega (arith, c.requires.used, ap (λ (x : Member). length x.full) is, long)

pub loop-i-preserved : goal.loop-i-preserved
loop-i-preserved c =
    let m = c.index-members-i.result in
    let p = goes_high c.args.word.now c.args.segment in
    let bit : c.from-bit.result ≡ cond (p m) 1 0
    = c.from-bit.ensures ∙ bit_is c.next_bit.result c.next_bit.ensures.bit ∙ ap (λ n. cond (n == 1) 1 0) c.next_bit.ensures.value in
    let few : c.from-bit.result < 2 = omega (arith, c.from-bit.ensures, c.next_bit.ensures.bit) in (
      next_in_both p c.args.members.now c.loop-i.members c.loop-i.scratch c.loop-i.low c.loop-i.high c.loop-i.i c.from-bit.result m
          c.loop-i.invariant.0 c.index-members-i.is c.loop-i-test.true
          (omega (arith, c.loop-i.invariant.1, c.loop-i-test.true, c.loop-i.auto.scratch, c.requires.room)) bit,
      omega (arith, c.loop-i.invariant.1, few),
    )

pub returns : goal.returns
returns c =
    let was = c.loop-i.invariant.0 in
    let end : c.loop-i.i ≡ length c.args.members.now = omega arith in
    ap (λ ms. ms ++ c.copy_from_slice.new.self) c.split_at_mut-behind.ensures.front
    ∙ ap (λ ms. take c.loop-i.low c.loop-i.members ++ ms) c.copy_from_slice.ensures.after
    ∙ all_are_divided _ c.args.members.now c.loop-i.members (take c.loop-i.high c.loop-i.scratch) c.loop-i.low c.loop-i.i was end
