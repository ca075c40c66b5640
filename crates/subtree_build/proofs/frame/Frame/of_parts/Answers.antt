-- The leaves of the parts have their words, and lie one behind another by their counts.
use Rattle.std.proofs.Common.{◌≡◌, ◌∙◌, ℕ, List, length, map, ap, sym, arith}
use Rattle.list_totals.specs.Totals.{total}
use Rattle.isax_word.specs.declared.word.Part.{Part}
use Rattle.subtree_build.specs.declared.node.Node.{Node}
use Rattle.subtree_build.specs.Assembly.{MakeIndex, all_words, counted_leaves}
use Rattle.subtree_build.specs.Grown.{members_in}
use Rattle.subtree_build.specs.Outline.{outline}
use Rattle.subtree_build.specs.Places.{places_from, tree_firsts}
use Rattle.subtree_build.proofs.Assembled.{long_words}
use Rattle.subtree_build.proofs.LeafSteps.{counted_in}
use Rattle.subtree_build.proofs.frame.Frame.of_parts.Goals as goal

-- the words of slices that show these lists
same_words : (w : ℕ) {roots rs : List ℕ} {nodes ns : List Node} {words ws : List (List Part)}
    → rs ≡ roots → ns ≡ nodes → ws ≡ words → words ≡ all_words w rs ns → ws ≡ all_words w roots nodes
same_words w {roots = roots} {ns = ns} rs_is ns_is ws_is words_are =
    ws_is ∙ words_are ∙ ap (λ (rs : List ℕ). all_words w rs ns) rs_is ∙ ap (all_words w roots) ns_is

-- there are as many words as counts
same_long : (w : ℕ) {roots : List ℕ} {nodes : List Node} {ws : List (List Part)} {counts cs : List ℕ}
    → MakeIndex w roots nodes (length counts) → ws ≡ all_words w roots nodes → cs ≡ counts → length ws ≡ length cs
same_long w {roots = roots} {nodes = nodes} {counts = counts} made ws_are cs_is =
    ap (λ (xs : List (List Part)). length xs) ws_are
    ∙ long_words w roots nodes (length counts) made
    ∙ ap (λ (xs : List ℕ). length xs) (sym cs_is)

pub words_below-requires-clause-few : goal.words_below-requires-clause-few
words_below-requires-clause-few c =
    omega (
      arith,
      ap (λ (rs : List ℕ). length (all_words c.args.segments rs c.as_slice-2.result.now)) c.as_slice.ensures.value,
      ap (λ (ns : List Node). length (all_words c.args.segments c.args.roots.items ns)) c.as_slice-2.ensures.value,
      long_words c.args.segments c.args.roots.items c.args.nodes.items (length c.args.counts.items) c.requires.made,
      c.requires.few_leaves,
    )

pub counted_leaves-requires : goal.counted_leaves-requires
counted_leaves-requires c =
    same_long c.args.segments c.requires.made
    (same_words c.args.segments c.as_slice.ensures.value c.as_slice-2.ensures.value c.as_slice-3.ensures.value c.in_ok-words.ensures.words)
    c.as_slice-4.ensures.value

pub placed-requires : goal.placed-requires
placed-requires c =
    omega (
      arith,
      ap members_in c.as_slice-5.ensures.value,
      ap members_in c.in_ok-own.ensures,
      counted_in c.as_slice-3.result.now c.as_slice-4.result.now
          (same_long c.args.segments c.requires.made
          (same_words c.args.segments c.as_slice.ensures.value c.as_slice-2.ensures.value c.as_slice-3.ensures.value c.in_ok-words.ensures.words)
          c.as_slice-4.ensures.value),
      ap (total (λ n. n)) c.as_slice-4.ensures.value,
      c.requires.whole,
    )

pub invariant_of-result : goal.invariant_of-result
invariant_of-result c = record {
  some_segments = c.requires.some_segments;
  few_segments = c.requires.few_segments;
  few_leaves = c.requires.few_leaves;
  made = c.requires.made;
  whole = c.requires.whole;
  few_members = omega arith;
  firsts_are = c.in_ok-words.ensures.firsts ∙ ap (λ (ns : List Node). tree_firsts 0 (map outline ns)) c.as_slice-2.ensures.value;
  places_are = c.in_ok-leaves.ensures
      ∙ ap (places_from 0) (c.as_slice-5.ensures.value ∙ c.in_ok-own.ensures
      ∙ ap (λ (ws : List (List Part)). counted_leaves ws c.as_slice-4.result.now)
      (same_words c.args.segments c.as_slice.ensures.value c.as_slice-2.ensures.value c.as_slice-3.ensures.value c.in_ok-words.ensures.words)
      ∙ ap (counted_leaves (all_words c.args.segments c.args.roots.items c.args.nodes.items)) c.as_slice-4.ensures.value);
}
