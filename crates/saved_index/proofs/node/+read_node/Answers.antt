-- A node is a leaf behind 0, and else a split with the children that are read behind one another.
use Rattle.std.proofs.Common.{ℕ, ◌+◌, ◌<◌, true, false, length, drop, get_or, ap, sym, ◌∙◌, subst, arith}
use Rattle.std.proofs.lemmas.Result.{IfOk-weaker}
use Rattle.isax_word.specs.Word.{part_at}
use Rattle.subtree_build.specs.Division.{bits_left}
use Rattle.subtree_build.specs.Outline.{outline, child_outline}
use Rattle.subtree_build.specs.Tree.{Tree}
use Rattle.subtree_build.proofs.Divisions.{bits_left-child}
use Rattle.subtree_build.proofs.Outlines.{outline_of_split}
use Rattle.saved_index.specs.declared.node.NodeAt.{NodeAt}
use Rattle.saved_index.specs.declared.error.IndexFault.TheVariants.{NotIndex}
use Rattle.saved_index.specs.Parsed.{IsNodeRead}
use Rattle.saved_index.specs.Reading.{node_in}
use Rattle.saved_index.proofs.NodesRead.{end_read, leaf_read, short_read, unsplit_read, split_read, split_kind, split_segment_past, split_full, node_from, split_is_read, low_child_unread, high_child_unread, err_again}
use Rattle.saved_index.proofs.node.+read_node.Goals as goal
use Rattle.saved_index.proofs.node.+read_node.Goals.{read_node-then-bytes-at-lt2-via-then-bytes-at-lt2, read_node-then-bytes-at-lt2-via-else-bytes-at-lt2+then-kind-gt3, read_node-then-segment-segments-via-then-segment-segments, read_node-then-segment-segments-via-else-segment-segments+then-bits-ge8}

pub read_node-returns-then-at-bytes-clause-refused : goal.read_node-returns-then-at-bytes-clause-refused
read_node-returns-then-at-bytes-clause-refused t c = λ refused.
    end_read (bits_left c.args.word.now) c.args.count c.args.word.now c.args.bytes.now c.args.at (omega arith)

pub read_node-returns-then-kind-eq0-clause-read : goal.read_node-returns-then-kind-eq0-clause-read
read_node-returns-then-kind-eq0-clause-read t c =
    let bytes = c.args.bytes.now in
    let at = c.args.at in
    let is = leaf_read (bits_left c.args.word.now) c.args.count c.args.word.now bytes at (omega arith) (omega arith) in
    IfOk-weaker _ _ _ (λ (r : NodeAt) was. node_from bytes (at + 1) at r.at _ _ c.args.lists.now (outline r.node)
    c.read_leaf.new.lists (omega arith) is was) c.read_leaf.ensures.read

pub read_node-returns-then-kind-eq0-clause-refused : goal.read_node-returns-then-kind-eq0-clause-refused
read_node-returns-then-kind-eq0-clause-refused t c = λ refused.
    sym (leaf_read (bits_left c.args.word.now) c.args.count c.args.word.now c.args.bytes.now c.args.at (omega arith) (omega arith))
    ∙ c.read_leaf.ensures.refused refused

pub read_node-returns-then-bytes-at-lt2-clause-refused : goal.read_node-returns-then-bytes-at-lt2-clause-refused
read_node-returns-then-bytes-at-lt2-clause-refused t c = λ refused.
    let word = c.args.word.now in
    let bytes = c.args.bytes.now in
    let at = c.args.at in
    elim c.then-bytes-at-lt2.branch [
      | read_node-then-bytes-at-lt2-via-then-bytes-at-lt2 w ↦
          short_read (bits_left word) c.args.count word bytes at (omega arith) (omega arith) (omega arith)
      | read_node-then-bytes-at-lt2-via-else-bytes-at-lt2+then-kind-gt3 w ↦
          unsplit_read (bits_left word) c.args.count word bytes at (omega arith) (omega arith)
          (split_kind word (get_or bytes at 0) (get_or bytes (at + 1) 0) (omega arith))
    ]

pub read_node-returns-then-segment-segments-clause-refused : goal.read_node-returns-then-segment-segments-clause-refused
read_node-returns-then-segment-segments-clause-refused t c = λ refused.
    let word = c.args.word.now in
    let bytes = c.args.bytes.now in
    let at = c.args.at in
    let j = c.from-segment.result in
    let kind = get_or bytes at 0 in
    let next = get_or bytes (at + 1) 0 in
    unsplit_read (bits_left word) c.args.count word bytes at (omega arith) (omega arith)
    (elim c.then-segment-segments.branch [
      | read_node-then-segment-segments-via-then-segment-segments w ↦
          split_segment_past word kind next j c.from-segment.ensures (omega arith)
      | read_node-then-segment-segments-via-else-segment-segments+then-bits-ge8 w ↦
          split_full word kind next j c.from-segment.ensures (omega arith)
    ])

pub read_node-read_child-requires : goal.read_node-read_child-requires
read_node-read_child-requires t c =
    let word = c.args.word.now in
    let j = c.from-segment.result in
    let used : j < length word = omega arith in
    let divisible : (part_at word j).bits < 8 = omega arith in
    let fewer = bits_left-child word j false used divisible in (
      omega (arith, fewer, ap bits_left c.child-low_word.ensures, c.decreases),
      ((omega arith, c.requires.place.1), omega (arith, c.requires.room)),
    )

pub read_node-returns-in-Err-clause-refused : goal.read_node-returns-in-Err-clause-refused
read_node-returns-in-Err-clause-refused t c = λ refused.
    low_child_unread c.args.count c.args.word.now c.child-low_word.result c.args.bytes.now c.args.at c.from-segment.result
    (omega arith) (omega arith) (omega arith) c.from-segment.ensures (omega arith) (omega arith) c.child-low_word.ensures
    (c.in-Err.ensures.refused (err_again c.in-Err.e NotIndex refused))

pub read_node-read_child-requires-2 : goal.read_node-read_child-requires-2
read_node-read_child-requires-2 t c =
    let word = c.args.word.now in
    let j = c.from-segment.result in
    let used : j < length word = omega arith in
    let divisible : (part_at word j).bits < 8 = omega arith in
    let fewer = bits_left-child word j true used divisible in
    let read = c.in-Ok.ensures.read in (
      omega (arith, fewer, ap bits_left c.child-high_word.ensures, c.decreases),
      (
        (read.within, c.requires.place.1),
        omega (arith, read.fewer, c.requires.room),
      ),
    )

pub read_node-returns-in-Err-read_child-clause-refused : goal.read_node-returns-in-Err-read_child-clause-refused
read_node-returns-in-Err-read_child-clause-refused t c = λ refused.
    let read = c.in-Ok.ensures.read in
    high_child_unread c.args.count c.args.word.now c.child-low_word.result c.args.bytes.now c.args.at c.from-segment.result
    (omega arith) (omega arith) (omega arith) c.from-segment.ensures (omega arith) (omega arith) c.child-low_word.ensures
    c.child-high_word.result c.in-Ok.low.at read.tree c.child-high_word.ensures read.is
    (c.in-Err-read_child.ensures.refused (err_again c.in-Err-read_child.e NotIndex refused))

pub read_node-returns-clause-read : goal.read_node-returns-clause-read
read_node-returns-clause-read t c =
    let word = c.args.word.now in
    let bytes = c.args.bytes.now in
    let at = c.args.at in
    let count = c.args.count in
    let j = c.from-segment.result in
    let kind = get_or bytes at 0 in
    let used : j < length word = omega arith in
    let divisible : (part_at word j).bits < 8 = omega arith in
    let low = c.in-Ok.low in
    let high = c.in-Ok-read_child.high in
    let P : Tree ℕ → Type 0 = λ o. IsNodeRead bytes at high.at (node_in (bits_left word) count word (drop at bytes))
    c.args.lists.now o c.read_child-2.new.lists in
    subst P (sym (outline_of_split j low.child high.child))
    (split_is_read bytes count word c.child-low_word.result c.child-high_word.result at j low.at high.at
    c.args.lists.now c.read_child.new.lists c.read_child-2.new.lists (child_outline low.child)
    (child_outline high.child)
    (split_read c.args.count word bytes at j (omega arith) (omega arith) (omega arith) c.from-segment.ensures used divisible)
    c.child-low_word.ensures c.child-high_word.ensures c.in-Ok.ensures.read c.in-Ok-read_child.ensures.read)
