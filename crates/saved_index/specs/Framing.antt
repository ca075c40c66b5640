-- What a saved index is framed as: its settings, its frame, and its members, by their numbers and then with the words of their series.
use Rattle.std.specs.Prelude.{◌≡◌, ℕ, List, length, map}
use Rattle.series_core.specs.Collection.{Collection}
use Rattle.subtree_build.specs.declared.settings.Settings.{Settings}
use Rattle.subtree_build.specs.Frame.{FrameParts, frame_parts}
use Rattle.subtree_build.specs.Members.{with_own_word}
use Rattle.saved_index.specs.declared.framing.Framed.{Framed}
use Rattle.saved_index.specs.declared.reading.Spelled.{Spelled}
use Rattle.saved_index.specs.Faults.{layout_for}
use Rattle.saved_index.specs.Fields.{header_of}
use Rattle.saved_index.specs.Loading.{IsSavedFor}
use Rattle.saved_index.specs.Membership.{CanHaveWords, all_members, words_of}

-- what was read of bytes has these settings, and this frame of so many members
pub record IsFrameFor (c : Collection) (bytes : List ℕ) (r : Spelled) (settings : Settings) (frame : FrameParts) (members : ℕ)
    : Type 0 where
  pub saved : IsSavedFor c bytes r
  pub layout : settings.layout ≡ layout_for (header_of r.fields)
  pub leaf_size : settings.leaf_size ≡ r.fields.leaf_size
  pub frame_is : frame
      ≡ frame_parts settings.layout.cuts.segments r.found.roots.items r.found.nodes.items (map (λ ns. length ns) r.found.lists) members

-- bytes are framed as this: the members are those of the lists that were read as soon as each has the full word of its series
pub record IsFramed (c : Collection) (bytes : List ℕ) (f : Framed) : Type 0 where
  pub spelled : Spelled
  pub parts : IsFrameFor c bytes spelled f.settings f.frame (length f.members.items)
  pub can : CanHaveWords c f.settings.layout f.members.items
  pub own : map (with_own_word c f.settings.layout) f.members.items ≡ all_members (words_of c f.settings.layout) spelled.found.lists

-- and each has it
pub record IsWorded (c : Collection) (bytes : List ℕ) (f : Framed) : Type 0 where
  pub spelled : Spelled
  pub parts : IsFrameFor c bytes spelled f.settings f.frame (length f.members.items)
  pub members : f.members.items ≡ all_members (words_of c f.settings.layout) spelled.found.lists
