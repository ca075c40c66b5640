-- The leaves of the frame lie in the row of the members, and make the index of its parts.
use Rattle.std.proofs.Common.{◌≡◌, ◌∙◌, ◌<◌, ◌^◌, ℕ, List, length, subst, sym, refl, arith}
use Rattle.isax_word.specs.declared.member.Member.{Member}
use Rattle.subtree_build.specs.declared.leaf.LeafPlace.{LeafPlace}
use Rattle.subtree_build.specs.declared.node.Node.{Node}
use Rattle.subtree_build.specs.Assembly.{IsOfParts, MakeIndex, all_words, counted_leaves, cut_lists}
use Rattle.subtree_build.specs.Frame.{FrameParts, IsFrame}
use Rattle.subtree_build.specs.Index.{IndexParts}
use Rattle.subtree_build.proofs.Assembled.{IsRow, long_words, row_is_index, row_lies, row_ranges, row_is_all, row_of_parts}
use Rattle.subtree_build.proofs.LeafSteps.{counted_cut, counted_in, length-cut_lists}
use Rattle.subtree_build.proofs.index.Index.of_frame.Goals as goal

-- a frame and the row of as many members
frame_row : {w : ℕ} {roots : List ℕ} {nodes : List Node} {counts firsts : List ℕ} {places : List LeafPlace} {n : ℕ}
    (members : List Member) → IsFrame w roots nodes counts firsts places n → length members ≡ n
    → IsRow w roots nodes (all_words w roots nodes) firsts (cut_lists counts members) (counted_leaves (all_words w roots nodes) counts)
    members places
frame_row {w = w} {roots = roots} {nodes = nodes} {counts = counts} members is many =
    let words = all_words w roots nodes in
    let long = sym (length-cut_lists counts members) in
    record {
      some = is.some_segments;
      few = is.few_segments;
      short = subst (λ k. k < 2 ^ 32) long is.few_leaves;
      make = subst (λ k. MakeIndex w roots nodes k) long is.made;
      words_are = refl;
      firsts_are = is.firsts_are;
      cut = counted_cut words counts members;
      whole = counted_in words counts (long_words w roots nodes (length counts) is.made) ∙ is.whole ∙ sym many;
      few_members = omega (arith, many, is.few_members);
      places_are = is.places_are;
    }

pub invariant_of-result : goal.invariant_of-result
invariant_of-result c =
    let row = frame_row c.args.members.items c.frame.invariant (omega (arith, c.if-len-frame.false)) in (
      record { is_index = row_is_index row; places = row_lies row; ranges = row_ranges row; seen = row_is_all row },
      record { means_are = tt; codes_are = tt },
    )

-- what is of the parts of a frame is of those that are seen of it
of_seen : {f seen : FrameParts} (members : List Member) (ix : IndexParts) → f ≡ seen
    → IsOfParts f.segments f.roots f.nodes (cut_lists f.counts members) ix
    → IsOfParts seen.segments seen.roots seen.nodes (cut_lists seen.counts members) ix
of_seen members ix same is =
    subst (λ (s : FrameParts). IsOfParts s.segments s.roots s.nodes (cut_lists s.counts members) ix) same is

pub returns-clause-parts : goal.returns-clause-parts
returns-clause-parts c =
    of_seen c.args.members.items _ c.frame.view_is
    (row_of_parts (frame_row c.args.members.items c.frame.invariant (omega (arith, c.if-len-frame.false))))
