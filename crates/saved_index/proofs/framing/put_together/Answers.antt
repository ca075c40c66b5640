-- The frame and as many members make an index, whose leaves have the members of the lists that were read.
use Rattle.std.proofs.Common.{List, subst}
use Rattle.isax_word.specs.declared.member.Member.{Member}
use Rattle.subtree_build.specs.Assembly.{IsOfParts, cut_lists}
use Rattle.subtree_build.specs.Frame.{FrameParts}
use Rattle.saved_index.specs.Membership.{words_of}
use Rattle.saved_index.proofs.MemberRows.{row_cut}
use Rattle.saved_index.proofs.framing.put_together.Goals as goal

pub returns : goal.returns
returns g c =
    let w = c.requires in
    let lists = w.spelled.found.lists in
    let framed = c.args.framed in
    let cut = row_cut (words_of (g.R.Rows.collection c.args.rows.now) framed.settings.layout) lists framed.members.items w.members in
    record {
      spelled = w.spelled;
      saved = w.parts.saved;
      layout = w.parts.layout;
      leaf_size = w.parts.leaf_size;
      is_index = c.leaf_count-leaves.ensures.is_index;
      parts = subst (λ (ls : List (List Member)). IsOfParts framed.settings.layout.cuts.segments w.spelled.found.roots.items
          w.spelled.found.nodes.items ls c.in-Some.index) cut
          (subst (λ (f : FrameParts). IsOfParts f.segments f.roots f.nodes (cut_lists f.counts framed.members.items) c.in-Some.index)
          w.parts.frame_is c.in-Some.ensures.parts);
    }
