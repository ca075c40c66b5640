-- The numbers of the members so far stand behind their count.
use Rattle.std.proofs.Common.{◌≡◌, ◌∷◌, ◌++◌, take, length}
use Rattle.byteorder.specs.Endian.{little_bytes}
use Rattle.subtree_build.specs.Members.{numbers_of}
use Rattle.saved_index.specs.Saved.{numbers_text}
use Rattle.saved_index.proofs.saving.put_leaf.Given as goal

abbrev pub invariant-loop-member : goal.invariant-loop-member
invariant-loop-member l =
    l.bytes.items ≡ (l.fn.bytes.items ++ 0 ∷ little_bytes 4 (length l.members))
    ++ numbers_text (numbers_of (take l.member-index l.members))
