-- The next buffer's list goes behind, and the buffer is emptied.
use Rattle.std.proofs.Common.{◌≡◌, ◌<◌, List, ◌++◌, length, get_or, [], set, ap, ◌∙◌, arith}
use Rattle.std.specs.Prelude.{slice_index_or}
use Rattle.isax_word.specs.declared.member.Member.{Member}
use Rattle.subtree_build.specs.Splicing.{emptied}
use Rattle.subtree_build.proofs.Spliced.{Lists, list_grows, one_emptied}
use Rattle.subtree_build.proofs.splicing.spliced.Goals as goal

pub loop-own-preserved : goal.loop-own-preserved
loop-own-preserved c =
    let i = c.loop-own.own-index in
    let all = c.args.buffers.now in
    let root = c.args.root in
    let was = c.loop-own.invariant in
    let d = c.own-item.result in
    let b = get_or c.loop-own.buffers i d in
    let inside : i < length all = omega arith in
    let taken : c.take.result ≡ slice_index_or b root [] = c.take.ensures.taken in
    let left : c.take.new.self ≡ emptied root b = c.take.ensures.left in (
      c.append.ensures
          ∙ ap (λ (ms : List Member). c.loop-own.list ++ ms) taken
          ∙ list_grows root i all c.loop-own.buffers d c.loop-own.list inside was.1 was.0,
      ap (λ (x : Lists). set c.loop-own.buffers i x) left
          ∙ one_emptied root i all c.loop-own.buffers d inside was.1,
    )
