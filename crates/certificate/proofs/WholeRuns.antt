-- The lines of whole blocks are all taken, and give these blocks.
use Rattle.std.proofs.Common.{◌≡◌, ℕ, ◌+◌, ◌<◌, List, [], ◌∷◌, ◌++◌, length, Bool, true, false, Some, refl, sym, ap, ◌∙◌, append_assoc, append-nil, length-append, arith}
use Rattle.std.proofs.lemmas.Bool.{lt-ltb}
use Rattle.std.proofs.lemmas.List.{nil_from_length}
use Rattle.certificate.specs.declared.block.Block.{Block}
use Rattle.certificate.specs.Spelling.{answer_lines, start_line, queue_lines, leaf_lines, block_lines, lines_from, file_lines}
use Rattle.certificate.specs.Grammar.{IsBlock, AreBlocks}
use Rattle.certificate.specs.Fields.{◌>>=◌}
use Rattle.certificate.specs.Reading.{Reading, nothing_read, blocks_read, count_of, is_whole, opened}
use Rattle.certificate.proofs.Running.{run, at_answers, at_lines, query_taken, answers_run, labelled_run, start_taken, with_lines, queues_run, leaves_run}

-- a reading behind which a block may open: no block is unfinished, and the next one opens empty
pub record Opens (r : Reading) : Type 0 where
  pub whole : is_whole r ≡ true
  pub empty : opened r.stage r ≡ at_answers (blocks_read r) [] []
  pub count : count_of r.stage (length r.done) ≡ length (blocks_read r)

-- nothing read is one
pub nothing_opens : Opens nothing_read
nothing_opens = record { whole = refl; empty = refl; count = refl }

-- so is a block that has a queue
pub lines_open : (d : List Block) (b : Block) → 0 < length b.lines → Opens (at_lines d b)
lines_open d b some = record {
  whole = lt-ltb 0 (length b.lines) some;
  empty = refl;
  count = sym (length-append d (b ∷ []));
}

-- the answers of a block, with labels or without
answers_taken : (s : ℕ) (l : Bool) (d : List Block) (b : Block) (rest : List (List ℕ)) → IsBlock s l b
    → run s l (at_answers d [] []) (answer_lines 1 b.answers b.labels ++ rest)
    ≡ run s l (at_answers d b.answers b.labels) rest
answers_taken s false d b rest is =
    let none : b.labels ≡ [] = nil_from_length b.labels is.labels_size in
    ap (λ (ls : List ℕ). run s false (at_answers d [] []) (answer_lines 1 b.answers ls ++ rest)) none
    ∙ answers_run s d [] b.answers rest (omega (arith, is.few_answers)) is.answers
    ∙ ap (λ (ls : List ℕ). run s false (at_answers d b.answers ls) rest) (sym none)
answers_taken s true d b rest is =
    labelled_run s d [] b.answers [] b.labels rest (omega (arith, is.few_answers)) is.answers is.labels is.labels_size

-- the lines of a whole block are taken
block_run : (s : ℕ) (l : Bool) (r : Reading) (b : Block) (rest : List (List ℕ)) → Opens r → IsBlock s l b
    → run s l r (block_lines (count_of r.stage (length r.done)) b ++ rest) ≡ run s l (at_lines (blocks_read r) b) rest
block_run s l r b rest opens is =
    ap (λ o. o >>= λ next. run s l next ((answer_lines 1 b.answers b.labels ++ behind) ++ rest)) (query_taken s l r opens.whole)
    ∙ ap (λ (next : Reading). run s l next ((answer_lines 1 b.answers b.labels ++ behind) ++ rest)) opens.empty
    ∙ ap (run s l (at_answers d [] [])) (append_assoc (answer_lines 1 b.answers b.labels) behind rest)
    ∙ answers_taken s l d b (behind ++ rest) is
    ∙ ap (λ o. o >>= λ next. run s l next (tail ++ rest)) (start_taken s l d b.answers b.labels b.start is.few_answers is.start)
    ∙ ap (run s l (at_lines d begun)) (append_assoc (queue_lines 0 b.lines) (leaf_lines 0 b.leaves) rest)
    ∙ queues_run s l d begun [] b.lines (leaf_lines 0 b.leaves ++ rest) refl (omega (arith, is.few_queues)) is.queues
    ∙ leaves_run s l d (with_lines begun b.lines) [] b.leaves rest (omega (arith, is.some_queue)) (omega (arith, is.few_leaves)) is.leaves
  where
    d : List Block
    d = blocks_read r

    tail : List (List ℕ)
    tail = queue_lines 0 b.lines ++ leaf_lines 0 b.leaves

    behind : List (List ℕ)
    behind = start_line b.start ∷ tail

    begun : Block
    begun = record { answers = b.answers; labels = b.labels; start = b.start; lines = []; leaves = [] }

-- what the lines of whole blocks are read as
pub record ReadsAll (s : ℕ) (l : Bool) (r : Reading) (lines : List (List ℕ)) (bs : List Block) : Type 0 where
  pub last : Reading
  pub read : run s l r lines ≡ Some last
  pub whole : is_whole last ≡ true
  pub blocks : blocks_read last ≡ blocks_read r ++ bs

-- the lines of whole blocks are read as these blocks
pub blocks_run : (s : ℕ) (l : Bool) (r : Reading) (bs : List Block) → Opens r → AreBlocks s l bs
    → ReadsAll s l r (lines_from (count_of r.stage (length r.done)) bs) bs
blocks_run s l r [] opens are = record {
  last = r;
  read = refl;
  whole = opens.whole;
  blocks = sym (append-nil (blocks_read r));
}
blocks_run s l r (b ∷ bs) opens are =
    let next : Reading = at_lines (blocks_read r) b in
    let n : ℕ = count_of r.stage (length r.done) in
    let others = blocks_run s l next bs (lines_open (blocks_read r) b (omega (arith, are.0.some_queue))) are.1 in
    let same : n + 1 ≡ length (blocks_read r) + 1 = ap (λ m. m + 1) opens.count in
    record {
      last = others.last;
      read = block_run s l r b (lines_from (n + 1) bs) opens are.0
          ∙ ap (λ m. run s l next (lines_from m bs)) same ∙ others.read;
      whole = others.whole;
      blocks = others.blocks ∙ append_assoc (blocks_read r) (b ∷ []) bs;
    }

-- the lines of a file are read as its blocks
pub file_run : (s : ℕ) (l : Bool) (bs : List Block) → AreBlocks s l bs → ReadsAll s l nothing_read (file_lines bs) bs
file_run s l bs are = blocks_run s l nothing_read bs nothing_opens are
