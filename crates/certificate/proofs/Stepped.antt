-- One more line that is read: the reading stands for the lines before and this one.
use Rattle.std.proofs.Common.{◌≡◌, ℕ, zero, ◌+◌, ◌^◌, ◌<◌, ◌≤◌, List, [], ◌∷◌, ◌++◌, length, Bool, true, false, cond, Option, Some, None, refl, sym, ap, subst, ◌∙◌, append_assoc, append-nil, length-append, arith}
use Rattle.std.specs.Prelude.{nat_lt, ◌==◌, ◌&&◌}
use Rattle.std.specs.List.{AllByRecursion}
use Rattle.std.proofs.lemmas.Bool.{and_parts, ltb-true, eqb-true}
use Rattle.std.proofs.lemmas.List.{nil_from_length}
use Rattle.std.proofs.lemmas.Option.{same_Some, none-some}
use Rattle.series_core.specs.declared.pair.Pair.{Pair}
use Rattle.series_core.specs.declared.queue_words.Entry.{Entry}
use Rattle.certificate.specs.declared.block.Block.{Block}
use Rattle.certificate.specs.declared.block.LeafLine.{LeafLine}
use Rattle.certificate.specs.declared.reader.Stage.{Stage}
use Rattle.certificate.specs.declared.reader.Stage.TheVariants.{Between, Answers, Lines}
use Rattle.certificate.specs.Spelling.{query_line, answer_line, answer_lines, start_line, queue_line, queue_lines, leaf_line, leaf_lines, block_lines, lines_from}
use Rattle.certificate.specs.Grammar.{IsPair, IsEntry, IsLeafLine, AreBlocks}
use Rattle.certificate.specs.LineForms.{query_of, answer_of, start_of, queue_of, leaf_of}
use Rattle.certificate.specs.Reading.{Reading, empty_block, count_of, whole_at, is_whole, opened, with_answer, with_start, with_queue, with_leaf, where_holds, query_step, answer_step, start_step, queue_step, leaf_step, or_else, step_at, step}
use Rattle.certificate.proofs.Binding.{bind_then}
use Rattle.certificate.proofs.LineTexts.{query_takes, answer_takes, start_takes, queue_takes, leaf_takes}
use Rattle.certificate.proofs.LineLists.{answers_more, labelled_more, queues_more, leaves_more, blocks_more}
use Rattle.certificate.proofs.Reached.{AreLists, IsPart, empty_lists, IsHead, IsAt, IsReading, lines_at, lines_read, blocks_push, part_block}

-- a reading that stands for the lines of another and one more
pub record OneMore (s : ℕ) (l : Bool) (old new : Reading) (line : List ℕ) : Type 0 where
  pub is : IsReading s l new
  pub lines : lines_read new ≡ lines_read old ++ line ∷ []

-- the first of two, or the other
or_then : {G : Type 0} (a b : Option Reading) (y : Reading) → or_else a b ≡ Some y → (a ≡ Some y → G) → (b ≡ Some y → G) → G
or_then None b y read first second = second read
or_then (Some x) b y read first second = first read

-- what was read where a test holds
where_then : {G : Type 0} (b : Bool) (o : Option Reading) (y : Reading) → where_holds b o ≡ Some y
    → (b ≡ true → o ≡ Some y → G) → G
where_then true o y read go = go refl read
where_then false o y read go = absurd (none-some y read)

-- all of a list and one more
pub all_push : {X : Type 0} (P : X → Type 0) (xs : List X) (x : X) → AllByRecursion P xs → P x → AllByRecursion P (xs ++ x ∷ [])
all_push P [] x all one = (one, tt)
all_push P (y ∷ xs) x all one = (all.0, all_push P xs x all.1 one)

-- all of two lists
pub all_join : {X : Type 0} (P : X → Type 0) (xs ys : List X) → AllByRecursion P xs → AllByRecursion P ys → AllByRecursion P (xs ++ ys)
all_join P [] ys all more = more
all_join P (x ∷ xs) ys all more = (all.0, all_join P xs ys all.1 more)

-- an empty block is the head of one
empty_head : (s : ℕ) (l : Bool) → IsHead s l empty_block
empty_head s l = record {
  part = (record { few = omega arith; answers = tt; labels_size = none l; labels = tt }, tt, empty_lists s);
  no_start = refl;
  no_lines = refl;
  no_leaves = refl;
}
  where
    none : (b : Bool) → zero ≡ cond b zero zero
    none true = refl
    none false = refl

-- a query opens a block
query_more : (s : ℕ) (l : Bool) (r next : Reading) (line : List ℕ) → IsReading s l r → query_step r line ≡ Some next
    → OneMore s l r next line
unfolding query_step
query_more s l r next line is read =
    where_then (is_whole r) _ next read (λ whole read1.
    bind_then (query_of (count_of r.stage (length r.done)) line) _ next read1 (λ i i_is read2.
    let text = query_takes (count_of r.stage (length r.done)) i line i_is in
    subst (λ (x : Reading). OneMore s l r x line) (same_Some (opened r.stage r) next read2)
    (by_stage r.stage refl is whole text)))
  where
    by_stage : (stage : Stage) → r.stage ≡ stage → IsAt stage s l r.done r.block → whole_at stage r.block ≡ true
        → line ≡ query_line (count_of stage (length r.done))
        → OneMore s l r (opened stage r) line
    by_stage Between at is_at fine text = record {
      is = (subst (AreBlocks s l) (sym is_at.0) tt, subst (IsHead s l) (sym is_at.1) (empty_head s l));
      lines = ap (λ (d : List Block). lines_at Answers d r.block) is_at.0
          ∙ ap (λ (b : Block). lines_at Answers [] b) is_at.1
          ∙ ap (λ (t : List ℕ). t ∷ []) (sym (text ∙ ap (λ (d : List Block). query_line (length d)) is_at.0))
          ∙ ap (λ stage. lines_at stage r.done r.block ++ line ∷ []) (sym at);
    }
    by_stage Answers at is_at fine text = absurd cc
    by_stage Lines at is_at fine text =
        let some = ltb-true 0 (length r.block.lines) fine in
        let count : length (r.done ++ r.block ∷ []) ≡ length r.done + 1 = length-append r.done (r.block ∷ []) in
        let same : 0 + length r.done ≡ length r.done = omega arith in
        record {
          is = (blocks_push s l r.done r.block is_at.0 (part_block s l r.block is_at.1 some), empty_head s l);
          lines = ap (λ n. lines_from 0 (r.done ++ r.block ∷ []) ++ query_line n ∷ []) count
              ∙ ap (λ (t : List ℕ). lines_from 0 (r.done ++ r.block ∷ []) ++ t ∷ []) (sym text)
              ∙ ap (λ (ls : List (List ℕ)). ls ++ line ∷ [])
              (blocks_more 0 r.done r.block ∙ ap (λ n. lines_from 0 r.done ++ block_lines n r.block) same)
              ∙ ap (λ stage. lines_at stage r.done r.block ++ line ∷ []) (sym at);
        }

-- the lines of answers with one more
answers_lines_more : (l : Bool) (ps : List Pair) (p : Pair) (lb ls : List ℕ) → length lb ≡ cond l (length ps) 0
    → length ls ≡ cond l 1 0
    → answer_lines 1 (ps ++ p ∷ []) (lb ++ ls) ≡ answer_lines 1 ps lb ++ answer_line (length ps + 1) p ls ∷ []
answers_lines_more false ps p lb ls size one =
    let none : lb ≡ [] = nil_from_length lb size in
    let none_more : ls ≡ [] = nil_from_length ls one in
    let same : 1 + length ps ≡ length ps + 1 = omega arith in
    ap (λ (x : List ℕ). answer_lines 1 (ps ++ p ∷ []) (x ++ ls)) none
    ∙ ap (λ (x : List ℕ). answer_lines 1 (ps ++ p ∷ []) x) none_more
    ∙ answers_more 1 ps p
    ∙ ap (λ n. answer_lines 1 ps [] ++ answer_line n p [] ∷ []) same
    ∙ ap (λ (x : List ℕ). answer_lines 1 ps [] ++ answer_line (length ps + 1) p x ∷ []) (sym none_more)
    ∙ ap (λ (x : List ℕ). answer_lines 1 ps x ++ answer_line (length ps + 1) p ls ∷ []) (sym none)
answers_lines_more true ps p lb [] size one = absurd (omega arith)
answers_lines_more true ps p lb (label ∷ []) size one =
    let same : 1 + length ps ≡ length ps + 1 = omega arith in
    labelled_more 1 ps p lb label size ∙ ap (λ n. answer_lines 1 ps lb ++ answer_line n p (label ∷ []) ∷ []) same
answers_lines_more true ps p lb (label ∷ other ∷ ls) size one = absurd (omega arith)

-- as many labels as answers, with one more
labels_size_more : (l : Bool) (n m k : ℕ) → m ≡ cond l n 0 → k ≡ cond l 1 0 → m + k ≡ cond l (n + 1) 0
labels_size_more true n m k size one = omega arith
labels_size_more false n m k size one = omega arith

-- what has read these blocks, and reads the answers of this one
abbrev answering : List Block → Block → Reading
answering d b = record { done = d; stage = Answers; block = b }

-- and what reads its queues and leaves
abbrev listing : List Block → Block → Reading
listing d b = record { done = d; stage = Lines; block = b }

-- an answer
answer_more : (s : ℕ) (l : Bool) (d : List Block) (b : Block) (next : Reading) (line : List ℕ)
    → AreBlocks s l d → IsHead s l b → answer_step l (answering d b) line ≡ Some next → OneMore s l (answering d b) next line
unfolding answer_step
answer_more s l d b next line are head read =
    where_then (nat_lt (length b.answers) 1024) _ next read (λ room read1.
    bind_then (answer_of l (length b.answers + 1) line) _ next read1 (λ x x_is read2.
    let text = answer_takes l (length b.answers + 1) line x.0 x.1 x_is in
    let few = ltb-true (length b.answers) 1024 room in
    let part = head.part in
    let front : List (List ℕ) = lines_from 0 d in
    subst (λ (y : Reading). OneMore s l (answering d b) y line) (same_Some (with_answer (answering d b) x) next read2)
    (record {
      is = (
        are,
        record {
          part = (
            record {
              few = omega (arith, length-append b.answers (x.0 ∷ []));
              answers = all_push IsPair b.answers x.0 part.0.answers text.1;
              labels_size = length-append b.labels x.1
                  ∙ labels_size_more l (length b.answers) (length b.labels) (length x.1) part.0.labels_size text.3
                  ∙ ap (λ n. cond l n 0) (sym (length-append b.answers (x.0 ∷ [])));
              labels = all_join (λ n. n < 2 ^ 64) b.labels x.1 part.0.labels text.2;
            },
            part.1,
            part.2,
          );
          no_start = head.no_start;
          no_lines = head.no_lines;
          no_leaves = head.no_leaves;
        },
      );
      lines = ap (λ (ls : List (List ℕ)). front ++ (query_line (length d) ∷ ls))
          (answers_lines_more l b.answers x.0 b.labels x.1 part.0.labels_size text.3
          ∙ ap (λ (t : List ℕ). answer_lines 1 b.answers b.labels ++ t ∷ []) (sym text.0))
          ∙ sym (append_assoc front (query_line (length d) ∷ answer_lines 1 b.answers b.labels) (line ∷ []));
    })))

-- the start
start_more : (s : ℕ) (l : Bool) (d : List Block) (b : Block) (next : Reading) (line : List ℕ)
    → AreBlocks s l d → IsHead s l b → start_step (answering d b) line ≡ Some next → OneMore s l (answering d b) next line
unfolding start_step
start_more s l d b next line are head read =
    bind_then (start_of line) _ next read (λ st st_is read1.
    let text = start_takes line st st_is in
    let part = head.part in
    let front : List (List ℕ) = lines_from 0 d in
    let begun : List (List ℕ) = query_line (length d) ∷ answer_lines 1 b.answers b.labels in
    let tail : queue_lines 0 b.lines ++ leaf_lines 0 b.leaves ≡ [] =
    ap (λ (ls : List (List Entry)). queue_lines 0 ls ++ leaf_lines 0 b.leaves) head.no_lines
    ∙ ap (λ (ls : List LeafLine). queue_lines 0 [] ++ leaf_lines 0 ls) head.no_leaves in
    subst (λ (y : Reading). OneMore s l (answering d b) y line) (same_Some (with_start (answering d b) st) next read1)
    (record {
      is = (are, (part.0, text.1, part.2));
      lines = ap (λ (ls : List (List ℕ)). front ++ (begun ++ (start_line st ∷ ls))) tail
          ∙ ap (λ (t : List ℕ). front ++ (begun ++ (t ∷ []))) (sym text.0)
          ∙ sym (append_assoc front begun (line ∷ []));
    }))

-- the lines of an open block, with one more at its end
block_more : (front begun : List (List ℕ)) (st line : List ℕ) (tail more : List (List ℕ)) → more ≡ tail ++ line ∷ []
    → front ++ (begun ++ (st ∷ more)) ≡ (front ++ (begun ++ (st ∷ tail))) ++ line ∷ []
block_more front begun st line tail more same =
    ap (λ (ls : List (List ℕ)). front ++ (begun ++ (st ∷ ls))) same
    ∙ ap (λ (ls : List (List ℕ)). front ++ ls) (sym (append_assoc begun (st ∷ tail) (line ∷ [])))
    ∙ sym (append_assoc front (begun ++ (st ∷ tail)) (line ∷ []))

-- an open block whose queues and leaves have one line more
lists_more : (s : ℕ) (l : Bool) (d : List Block) (b : Block) (ln : List (List Entry)) (lv : List LeafLine) (line : List ℕ)
    → AreBlocks s l d → IsPart s l b → AreLists s ln lv
    → queue_lines 0 ln ++ leaf_lines 0 lv ≡ (queue_lines 0 b.lines ++ leaf_lines 0 b.leaves) ++ line ∷ []
    → OneMore s l (listing d b)
    (record { done = d; stage = Lines; block = record b { lines = ln; leaves = lv } }) line
lists_more s l d b ln lv line are part lists grown = record {
  is = (are, (part.0, part.1, lists));
  lines = block_more (lines_from 0 d) (query_line (length d) ∷ answer_lines 1 b.answers b.labels) (start_line b.start)
      line _ _ grown;
}

-- a queue
queue_more : (s : ℕ) (l : Bool) (d : List Block) (b : Block) (next : Reading) (line : List ℕ)
    → AreBlocks s l d → IsPart s l b → queue_step (listing d b) line ≡ Some next → OneMore s l (listing d b) next line
unfolding queue_step
queue_more s l d b next line are part read =
    where_then (length b.leaves == 0 && nat_lt (length b.lines) 64) _ next read (λ guard read1.
    bind_then (queue_of (length b.lines) line) _ next read1 (λ es es_are read2.
    let text = queue_takes (length b.lines) line es es_are in
    let parts = and_parts (length b.leaves == 0) (nat_lt (length b.lines) 64) guard in
    let no_leaf : b.leaves ≡ [] = nil_from_length b.leaves (eqb-true (length b.leaves) 0 parts.0) in
    let room = ltb-true (length b.lines) 64 parts.1 in
    let same : 0 + length b.lines ≡ length b.lines = omega arith in
    let size = length-append b.lines (es ∷ []) in
    let grown : queue_lines 0 (b.lines ++ es ∷ []) ++ leaf_lines 0 b.leaves
    ≡ (queue_lines 0 b.lines ++ leaf_lines 0 b.leaves) ++ line ∷ [] =
    ap (λ (ls : List LeafLine). queue_lines 0 (b.lines ++ es ∷ []) ++ leaf_lines 0 ls) no_leaf
    ∙ append-nil (queue_lines 0 (b.lines ++ es ∷ []))
    ∙ queues_more 0 b.lines es
    ∙ ap (λ n. queue_lines 0 b.lines ++ queue_line n es ∷ []) same
    ∙ ap (λ (t : List ℕ). queue_lines 0 b.lines ++ t ∷ []) (sym text.0)
    ∙ ap (λ (ls : List (List ℕ)). ls ++ line ∷ []) (sym (append-nil (queue_lines 0 b.lines)))
    ∙ ap (λ (ls : List LeafLine). (queue_lines 0 b.lines ++ leaf_lines 0 ls) ++ line ∷ []) (sym no_leaf) in
    subst (λ (y : Reading). OneMore s l (listing d b) y line) (same_Some (with_queue (listing d b) es) next read2)
    (lists_more s l d b (b.lines ++ es ∷ []) b.leaves line are part (record {
      few_queues = omega (arith, part.2.few_queues);
      queues = all_push (AllByRecursion IsEntry) b.lines es part.2.queues text.1;
      few_leaves = part.2.few_leaves;
      leaves = part.2.leaves;
      behind = λ _. no_leaf;
    }) grown)))

-- a leaf
leaf_more : (s : ℕ) (l : Bool) (d : List Block) (b : Block) (next : Reading) (line : List ℕ) → 1 ≤ s → s ≤ 16
    → AreBlocks s l d → IsPart s l b → leaf_step s (listing d b) line ≡ Some next → OneMore s l (listing d b) next line
unfolding leaf_step
leaf_more s l d b next line some few are part read =
    where_then (nat_lt 0 (length b.lines) && nat_lt (length b.leaves) (2 ^ 32)) _ next read (λ guard read1.
    bind_then (leaf_of s (length b.leaves) line) _ next read1 (λ f f_is read2.
    let text = leaf_takes s (length b.leaves) line f some few f_is in
    let parts = and_parts (nat_lt 0 (length b.lines)) (nat_lt (length b.leaves) (2 ^ 32)) guard in
    let queued = ltb-true 0 (length b.lines) parts.0 in
    let room = ltb-true (length b.leaves) (2 ^ 32) parts.1 in
    let same : 0 + length b.leaves ≡ length b.leaves = omega arith in
    let size = length-append b.leaves (f ∷ []) in
    let grown : queue_lines 0 b.lines ++ leaf_lines 0 (b.leaves ++ f ∷ [])
    ≡ (queue_lines 0 b.lines ++ leaf_lines 0 b.leaves) ++ line ∷ [] =
    ap (λ (ls : List (List ℕ)). queue_lines 0 b.lines ++ ls)
    (leaves_more 0 b.leaves f ∙ ap (λ n. leaf_lines 0 b.leaves ++ leaf_line n f ∷ []) same
    ∙ ap (λ (t : List ℕ). leaf_lines 0 b.leaves ++ t ∷ []) (sym text.0))
    ∙ sym (append_assoc (queue_lines 0 b.lines) (leaf_lines 0 b.leaves) (line ∷ [])) in
    subst (λ (y : Reading). OneMore s l (listing d b) y line) (same_Some (with_leaf (listing d b) f) next read2)
    (lists_more s l d b b.lines (b.leaves ++ f ∷ []) line are part (record {
      few_queues = part.2.few_queues;
      queues = part.2.queues;
      few_leaves = omega arith;
      leaves = all_push (IsLeafLine s) b.leaves f part.2.leaves text.1;
      behind = λ none. absurd (omega arith);
    }) grown)))

-- one more line
pub step_more : (s : ℕ) (l : Bool) (r next : Reading) (line : List ℕ) → 1 ≤ s → s ≤ 16 → IsReading s l r
    → step s l r line ≡ Some next → OneMore s l r next line
unfolding step_at
step_more s l r next line some few is read = by_reading r.done r.stage r.block is read
  where
    by_reading : (d : List Block) (stage : Stage) (b : Block) → IsAt stage s l d b
        → step_at stage s l (record { done = d; stage = stage; block = b }) line ≡ Some next
        → OneMore s l (record { done = d; stage = stage; block = b }) next line
    by_reading d Between b at taken = query_more s l (record { done = d; stage = Between; block = b }) next line at taken
    by_reading d Answers b at taken =
        let r = answering d b in
        or_then (answer_step l r line) (start_step r line) next taken
        (λ e. answer_more s l d b next line at.0 at.1 e)
        (λ e. start_more s l d b next line at.0 at.1 e)
    by_reading d Lines b at taken =
        let r = listing d b in
        or_then (queue_step r line) (or_else (leaf_step s r line) (query_step r line)) next taken
        (λ e. queue_more s l d b next line at.0 at.1 e)
        (λ e. or_then (leaf_step s r line) (query_step r line) next e
        (λ f. leaf_more s l d b next line some few at.0 at.1 f)
        (λ f. query_more s l r next line at f))
