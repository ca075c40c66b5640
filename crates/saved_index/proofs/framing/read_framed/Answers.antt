-- What was read makes the frame of its members.
use Rattle.std.proofs.Common.{◌∙◌, ℕ, List, length, sym, ap, subst}
use Rattle.isax_word.specs.declared.layout.Layout.{Layout}
use Rattle.subtree_build.specs.Assembly.{AddUp, MakeIndex}
use Rattle.subtree_build.specs.Frame.{frame_parts}
use Rattle.saved_index.proofs.Loaded.{makes, series_below}
use Rattle.saved_index.proofs.MemberRows.{row_adds_up, row_long}
use Rattle.saved_index.proofs.framing.read_framed.Goals as goal

pub into_members-row-requires-clause-below : goal.into_members-row-requires-clause-below
into_members-row-requires-clause-below g c =
    series_below (g.R.Rows.collection c.args.rows.now) c.args.bytes.now c.in-Ok.read c.type_inv.bytes c.in-Ok.ensures.read

pub frame_of-requires-clause-make : goal.frame_of-requires-clause-make
frame_of-requires-clause-make g c =
    let all = g.R.Rows.collection c.args.rows.now in
    let r = c.in-Ok.read in
    let layout = c.settings_of-settings.result.layout in
    let shown = row_long all layout r.found.lists c.into_members-row.result c.into_members-row.ensures in
    subst (λ n. MakeIndex layout.cuts.segments r.found.roots.items r.found.nodes.items n) (sym shown)
    (subst (λ (l : Layout). MakeIndex l.cuts.segments r.found.roots.items r.found.nodes.items (length r.found.lists))
    (sym c.settings_of-settings.ensures.layout) (makes all c.args.bytes.now r c.type_inv.bytes c.in-Ok.ensures.read))

pub frame_of-requires-clause-whole : goal.frame_of-requires-clause-whole
frame_of-requires-clause-whole g c =
    let row = c.into_members-row.result in
    subst (AddUp row.counts.items) (sym (c.len-many.ensures ∙ row.members.ok.0))
    (row_adds_up (g.R.Rows.collection c.args.rows.now) c.settings_of-settings.result.layout c.in-Ok.read.found.lists row
    c.into_members-row.ensures)

pub returns-clause-read : goal.returns-clause-read
returns-clause-read g c =
    let r = c.in-Ok.read in
    let layout = c.settings_of-settings.result.layout in
    let row = c.into_members-row.result in
    let is = c.into_members-row.ensures in
    record {
      spelled = r;
      parts = record {
        saved = c.in-Ok.ensures.read;
        layout = c.settings_of-settings.ensures.layout;
        leaf_size = c.settings_of-settings.ensures.leaf_size;
        frame_is = c.in_ok-frame.ensures
            ∙ ap (frame_parts layout.cuts.segments r.found.roots.items r.found.nodes.items row.counts.items) (c.len-many.ensures ∙ row.members.ok.0)
            ∙ ap (λ (ns : List ℕ). frame_parts layout.cuts.segments r.found.roots.items r.found.nodes.items ns (length row.members.items))
            is.counts;
      };
      can = is.can;
      own = is.own;
    }
