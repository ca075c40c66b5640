-- What a reading that was reached stands for: the lines that were read, and a file that begins with them.
use Rattle.std.proofs.Common.{◌≡◌, ℕ, suc, ◌+◌, ◌^◌, ◌<◌, ◌≤◌, List, [], ◌∷◌, ◌++◌, length, Bool, true, cond, None, refl, sym, ap, subst, ◌∙◌, append_assoc, append-nil, arith}
use Rattle.std.specs.Prelude.{IfSome}
use Rattle.std.specs.List.{AllByRecursion}
use Rattle.std.proofs.lemmas.Bool.{ltb-true}
use Rattle.series_core.specs.declared.pair.Pair.{Pair}
use Rattle.series_core.specs.declared.queue_words.Entry.{Entry}
use Rattle.certificate.specs.declared.block.Block.{Block}
use Rattle.certificate.specs.declared.block.LeafLine.{LeafLine}
use Rattle.certificate.specs.declared.reader.Stage.{Stage}
use Rattle.certificate.specs.declared.reader.Stage.TheVariants.{Between, Answers, Lines}
use Rattle.certificate.specs.Spelling.{query_line, answer_lines, start_line, queue_line, queue_lines, leaf_lines, block_lines, lines_from, file_lines}
use Rattle.certificate.specs.Grammar.{IsPair, IsEntry, IsStart, IsLeafLine, IsBlock, AreBlocks, Begins}
use Rattle.certificate.specs.Reading.{Reading, empty_block, blocks_of, blocks_read, whole_at, is_whole}
use Rattle.certificate.proofs.LineLists.{blocks_more}

-- answers of an open block, with their labels
pub record AreAnswers (l : Bool) (ps : List Pair) (lb : List ℕ) : Type 0 where
  pub few : length ps ≤ 1024
  pub answers : AllByRecursion IsPair ps
  pub labels_size : length lb ≡ cond l (length ps) 0
  pub labels : AllByRecursion (λ label. label < 2 ^ 64) lb

-- its queues and leaves: it may have no queue yet, and then has no leaf
pub record AreLists (s : ℕ) (ln : List (List Entry)) (lv : List LeafLine) : Type 0 where
  pub few_queues : length ln ≤ 64
  pub queues : AllByRecursion (AllByRecursion IsEntry) ln
  pub few_leaves : length lv ≤ 2 ^ 32
  pub leaves : AllByRecursion (IsLeafLine s) lv
  pub behind : length ln ≡ 0 → lv ≡ []

-- an open block as far as it is read: as a block of the grammar, but for its queues
abbrev pub IsPart : ℕ → Bool → Block → Type 0
IsPart s l b = AreAnswers l b.answers b.labels × IfSome b.start IsStart × AreLists s b.lines b.leaves

-- an open block whose start is not read
pub record IsHead (s : ℕ) (l : Bool) (b : Block) : Type 0 where
  pub part : IsPart s l b
  pub no_start : b.start ≡ None
  pub no_lines : b.lines ≡ []
  pub no_leaves : b.leaves ≡ []

-- what holds of a reading at each stage
abbrev pub IsAt : Stage → ℕ → Bool → List Block → Block → Type 0
IsAt Between s l d b = (d ≡ []) × (b ≡ empty_block)
IsAt Answers s l d b = AreBlocks s l d × IsHead s l b
IsAt Lines s l d b = AreBlocks s l d × IsPart s l b

-- what holds of a reading
abbrev pub IsReading : ℕ → Bool → Reading → Type 0
IsReading s l r = IsAt r.stage s l r.done r.block

-- the lines that were read to come to a stage
abbrev pub lines_at : Stage → List Block → Block → List (List ℕ)
lines_at Between d b = []
lines_at Answers d b = lines_from 0 d ++ (query_line (length d) ∷ answer_lines 1 b.answers b.labels)
lines_at Lines d b = lines_from 0 d ++ block_lines (length d) b

-- the lines that were read
abbrev pub lines_read : Reading → List (List ℕ)
lines_read r = lines_at r.stage r.done r.block

-- one more block behind blocks
pub blocks_push : (s : ℕ) (l : Bool) (d : List Block) (b : Block) → AreBlocks s l d → IsBlock s l b → AreBlocks s l (d ++ b ∷ [])
blocks_push s l [] b are is = (is, tt)
blocks_push s l (a ∷ d) b are is = (are.0, blocks_push s l d b are.1 is)

-- a part that has a queue is a block
pub part_block : (s : ℕ) (l : Bool) (b : Block) → IsPart s l b → 0 < length b.lines → IsBlock s l b
part_block s l b (said, start, lists) some = record {
  few_answers = said.few;
  answers = said.answers;
  labels_size = said.labels_size;
  labels = said.labels;
  start = start;
  some_queue = omega arith;
  few_queues = lists.few_queues;
  queues = lists.queues;
  few_leaves = lists.few_leaves;
  leaves = lists.leaves;
}

-- a part with one empty queue in place of none
one_queue : Block → Block
one_queue b = record b { lines = [] ∷ []; leaves = [] }

-- no queue and no leaf
pub empty_lists : (s : ℕ) → AreLists s [] []
empty_lists s = record {
  few_queues = omega arith;
  queues = tt;
  few_leaves = omega arith;
  leaves = tt;
  behind = λ _. refl;
}

-- one empty queue and no leaf
empty_queue : (s : ℕ) → AreLists s ([] ∷ []) []
empty_queue s = record {
  few_queues = omega arith;
  queues = (tt, tt);
  few_leaves = omega arith;
  leaves = tt;
  behind = λ _. refl;
}

-- it is a block
one_queue_block : (s : ℕ) (l : Bool) (b : Block) → IsPart s l b → IsBlock s l (one_queue b)
unfolding one_queue
one_queue_block s l b part =
    part_block s l (one_queue b) (part.0, part.1, empty_queue s) (omega arith)

-- a file with the blocks so far and one more
file_more : (d : List Block) (b : Block) → file_lines (d ++ b ∷ []) ≡ lines_from 0 d ++ block_lines (length d) b
file_more d b =
    let same : 0 + length d ≡ length d = omega arith in
    blocks_more 0 d b ∙ ap (λ n. lines_from 0 d ++ block_lines n b) same

-- the lines of an open block past its start begin a file
lines_begin : (s : ℕ) (l : Bool) (d : List Block) (b : Block) → AreBlocks s l d → IsPart s l b
    → Begins s l (lines_from 0 d ++ block_lines (length d) b)
unfolding one_queue
lines_begin s l d b are part = by_queues b.lines refl
  where
    by_queues : (ln : List (List Entry)) → b.lines ≡ ln → Begins s l (lines_from 0 d ++ block_lines (length d) b)
    by_queues [] none =
        let front : List (List ℕ) = query_line (length d) ∷ answer_lines 1 b.answers b.labels in
        let fewer : block_lines (length d) b ≡ front ++ (start_line b.start ∷ []) =
        ap (λ (ls : List (List Entry)). front ++ (start_line b.start ∷ (queue_lines 0 ls ++ leaf_lines 0 b.leaves))) none
        ∙ ap (λ (ls : List LeafLine). front ++ (start_line b.start ∷ (queue_lines 0 [] ++ leaf_lines 0 ls)))
        (part.2.behind (ap length none)) in
        record {
          blocks = d ++ one_queue b ∷ [];
          more = queue_line 0 [] ∷ [];
          are_blocks = blocks_push s l d (one_queue b) are (one_queue_block s l b part);
          lines_are = file_more d (one_queue b)
              ∙ ap (λ (ls : List (List ℕ)). lines_from 0 d ++ ls)
              (sym (append_assoc front (start_line b.start ∷ []) (queue_line 0 [] ∷ []))
              ∙ ap (λ (ls : List (List ℕ)). ls ++ queue_line 0 [] ∷ []) (sym fewer))
              ∙ sym (append_assoc (lines_from 0 d) (block_lines (length d) b) (queue_line 0 [] ∷ []));
        }
    by_queues (q ∷ ln) some =
        let count : length b.lines ≡ suc (length ln) = ap length some in
        record {
          blocks = d ++ b ∷ [];
          more = [];
          are_blocks = blocks_push s l d b are (part_block s l b part (omega arith));
          lines_are = file_more d b ∙ sym (append-nil (lines_from 0 d ++ block_lines (length d) b));
        }

-- the lines of an open block before its start begin a file
answers_begin : (s : ℕ) (l : Bool) (d : List Block) (b : Block) → AreBlocks s l d → IsHead s l b
    → Begins s l (lines_from 0 d ++ (query_line (length d) ∷ answer_lines 1 b.answers b.labels))
unfolding one_queue
answers_begin s l d b are head =
    let front : List (List ℕ) = query_line (length d) ∷ answer_lines 1 b.answers b.labels in
    let tail : List (List ℕ) = start_line b.start ∷ queue_line 0 [] ∷ [] in
    record {
      blocks = d ++ one_queue b ∷ [];
      more = tail;
      are_blocks = blocks_push s l d (one_queue b) are (one_queue_block s l b head.part);
      lines_are = file_more d (one_queue b) ∙ sym (append_assoc (lines_from 0 d) front tail);
    }

-- the lines that were read begin a file
pub reading_begins : (s : ℕ) (l : Bool) (r : Reading) → IsReading s l r → Begins s l (lines_read r)
reading_begins s l r is = by_stage r.stage is
  where
    by_stage : (stage : Stage) → IsAt stage s l r.done r.block → Begins s l (lines_at stage r.done r.block)
    by_stage Between at = record { blocks = []; more = []; are_blocks = tt; lines_are = refl }
    by_stage Answers at = answers_begin s l r.done r.block at.0 at.1
    by_stage Lines at = lines_begin s l r.done r.block at.0 at.1

-- where no block is unfinished, the blocks that were read are those of a file with these lines
pub reading_whole : (s : ℕ) (l : Bool) (r : Reading) → IsReading s l r → is_whole r ≡ true
    → AreBlocks s l (blocks_read r) × (lines_read r ≡ file_lines (blocks_read r))
reading_whole s l r is whole = by_stage r.stage is whole
  where
    by_stage : (stage : Stage) → IsAt stage s l r.done r.block → whole_at stage r.block ≡ true
        → AreBlocks s l (blocks_of stage r.done r.block)
        × (lines_at stage r.done r.block ≡ file_lines (blocks_of stage r.done r.block))
    by_stage Between at fine =
        (subst (AreBlocks s l) (sym at.0) tt, ap file_lines (sym at.0))
    by_stage Answers at fine = absurd cc
    by_stage Lines at fine = (
      blocks_push s l r.done r.block at.0 (part_block s l r.block at.1 (ltb-true 0 (length r.block.lines) fine)),
      sym (file_more r.done r.block),
    )
