-- The words so far and those below the nodes that are left are all words; so are the numbers of first leaves.
use Rattle.std.proofs.Common.{◌≡◌, ◌++◌, drop, length, map}
use Rattle.subtree_build.specs.Assembly.{all_words}
use Rattle.subtree_build.specs.Outline.{outline}
use Rattle.subtree_build.specs.Places.{tree_firsts}
use Rattle.subtree_build.proofs.leaf_row.words_below.Given as goal

abbrev pub invariant-loop-i : goal.invariant-loop-i
invariant-loop-i l = record {
  words : l.words.items ++ all_words l.segments (drop l.i l.roots) (drop l.i l.nodes)
      ≡ all_words l.segments l.roots l.nodes;
  firsts : l.firsts.items ++ tree_firsts (length l.words.items) (map outline (drop l.i l.nodes))
      ≡ tree_firsts 0 (map outline l.nodes);
}
