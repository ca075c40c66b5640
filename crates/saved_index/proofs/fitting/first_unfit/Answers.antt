-- The members of the next leaf raise the marks of their series.
use Rattle.std.proofs.Common.{◌≡◌, ℕ, ◌+◌, ◌<◌, List, length, take, drop, ◌++◌, min, get_or, sym, ap, ◌∙◌, refl, arith}
use Rattle.std.proofs.lemmas.List.{take_all}
use Rattle.list_totals.specs.Totals.{total}
use Rattle.isax_word.specs.declared.member.Member.{Member}
use Rattle.isax_word.specs.declared.word.Part.{Part}
use Rattle.subtree_build.specs.Index.{leaf_at}
use Rattle.subtree_build.proofs.Meaning.{written_over}
use Rattle.saved_index.specs.Membership.{leaf_weight, weight_for}
use Rattle.saved_index.proofs.Contained.{as_many_parts}
use Rattle.saved_index.proofs.Marks.{first_marked, leaf_more}
use Rattle.saved_index.proofs.fitting.first_unfit.Goals as goal

pub mark_members-requires-clause-segments : goal.mark_members-requires-clause-segments
mark_members-requires-clause-segments c =
    as_many_parts c.args.index.now c.loop-l.l c.leaf_word.result.now c.leaf_members.result.now c.leaf_count-l-end.ensures.is_index
    c.requires.segments (omega arith) c.leaf_word.ensures c.leaf_members.ensures

pub loop-l-preserved : goal.loop-l-preserved
loop-l-preserved c =
    let ix = c.args.index.now in
    let l = c.loop-l.l in
    let low : l < length ix.leaves = omega arith in
    let items = c.loop-l.marks.items in
    let new = c.mark_members.new.marks in
    let value : c.as_mut_slice.result.now ≡ items = c.as_mut_slice.ensures.value in
    let same : length c.as_mut_slice.result.now ≡ length items = ap (λ (xs : List ℕ). length xs) value in
    let long : length new ≡ length items = c.mark_members.ensures.len ∙ same in
    let written : take c.loop-l.marks.len (new ++ drop (length new) items) ≡ new
    = written_over 0 new items new c.loop-l.marks.len c.loop-l.marks.ok.0 long (sym long) (λ i inside. refl) in
    record {
      long = ap (λ (xs : List ℕ). length xs) written ∙ long ∙ c.loop-l.invariant.long;
      each = λ i inside.
          let x = leaf_at ix.leaves l in
          let raised : get_or new i 0 ≡ min 2 (get_or items i 0 + leaf_weight i x)
          = c.mark_members.ensures.each i (omega (arith, same, c.loop-l.invariant.long, inside))
          ∙ ap (λ (xs : List ℕ). min 2 (get_or xs i 0 + total (weight_for i c.leaf_word.result.now) c.leaf_members.result.now)) value
          ∙ ap (λ (w : List Part). min 2 (get_or items i 0 + total (weight_for i w) c.leaf_members.result.now)) c.leaf_word.ensures
          ∙ ap (λ (ms : List Member). min 2 (get_or items i 0 + total (weight_for i x.word) ms)) c.leaf_members.ensures in
          ap (λ (xs : List ℕ). get_or xs i 0) written
          ∙ leaf_more ix.leaves l i (get_or items i 0) (get_or new i 0) low (c.loop-l.invariant.each i inside) raised;
    }

pub returns : goal.returns
returns c =
    let ix = c.args.index.now in
    let marks = c.as_slice.result.now in
    let items = c.loop-l.marks.items in
    let value : marks ≡ items = c.as_slice.ensures.value in
    let all : take c.loop-l.l ix.leaves ≡ ix.leaves = take_all c.loop-l.l ix.leaves (omega arith) in
    c.first_misfit.ensures
    ∙ first_marked marks ix.leaves c.args.count
    (λ i inside. ap (λ (xs : List ℕ). get_or xs i 0) value ∙ c.loop-l.invariant.each i inside
    ∙ ap (λ xs. min 2 (total (leaf_weight i) xs)) all)
