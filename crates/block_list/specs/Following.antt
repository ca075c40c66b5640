-- What becomes of a row of nodes once the borrow of its last element ends.
use Rattle.std.specs.Prelude.{◌-◌, length, slice_set}
use mathlib.Core.Path.{sym, ◌∙◌}
use lib.ListN.{length-set}
use base.Fml.{Fml}
use denote.RattleType.{RattleType}
use denote.Ref.{MutBor}
use denote.Follow.{follows}
use Rattle.core.specs.declared.alloc.Allocator.{Ghosts}
use Rattle.block_list.specs.declared.nodes.Nodes.{Nodes}
use Rattle.block_list.specs.contracts.nodes.Nodes.{the_row}

-- the same nodes with w as the last element
abbrev pub with_last : {X Z : Type 0} → Nodes X Z → X → Nodes X Z
with_last n w = record {
  head = n.head;
  tail = n.tail;
  items = slice_set n.items (length n.items - 1) w;
  blocks = n.blocks;
  counted = n.counted ∙ sym (length-set n.items (length n.items - 1) w);
  linked = n.linked;
}

-- the last element is the last value that was written through r
abbrev pub nodes_follow_last : (R Z : RattleType) (g : Ghosts Z.Denot) → MutBor (Nodes R.Denot Z.Denot) → MutBor R.Denot → Fml
nodes_follow_last R Z g n r = follows (the_row R Z g) R n.ghost_name r.ghost_name (with_last n.now)
