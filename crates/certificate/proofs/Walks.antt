-- A walk over the lines of a text: what has been read, where it stops, and what it finds.
use Rattle.std.proofs.Common.{◌≡◌, ℕ, zero, suc, ◌+◌, ◌^◌, ◌<◌, ◌≤◌, List, [], ◌∷◌, ◌++◌, length, take, drop, take-append-drop, Bool, Ok, true, false, Option, Some, None, refl, sym, ap, subst, ◌∙◌, append_assoc, append-nil, length-drop, ⊎_elim, arith}
use Rattle.std.specs.List.{concat}
use Rattle.std.proofs.lemmas.List.{take_all, take-append-le, length-take-le, nil_from_length}
use Rattle.std.proofs.lemmas.Bool.{cases_lt}
use Rattle.std.proofs.lemmas.Option.{same_Some, none-some}
use Rattle.certificate.specs.declared.block.Block.{Block}
use Rattle.certificate.specs.Spelling.{file_lines}
use Rattle.certificate.specs.Grammar.{AreBlocks, Spells, Begins, lines_of, IsFaultAt}
use Rattle.certificate.specs.Fields.{◌>>=◌}
use Rattle.certificate.specs.Reading.{Reading, nothing_read, blocks_read, is_whole, step, Takes}
use Rattle.certificate.proofs.CutLines.{concat-lines_of}
use Rattle.certificate.proofs.FileLines.{file_text_lines}
use Rattle.certificate.proofs.Reached.{IsReading, lines_read, reading_begins, reading_whole}
use Rattle.certificate.proofs.Running.{run, run-append}
use Rattle.certificate.proofs.Stepped.{step_more}
use Rattle.certificate.proofs.WholeRuns.{file_run}

-- a reading that stands for the lines that were read
record Stands (s : ℕ) (l : Bool) (r : Reading) (lines : List (List ℕ)) : Type 0 where
  is : IsReading s l r
  lines_are : lines_read r ≡ lines

-- a reading that was reached by lines stands for the lines before and these
run_stands : (s : ℕ) (l : Bool) (r last : Reading) (before lines : List (List ℕ)) → 1 ≤ s → s ≤ 16 → Stands s l r before
    → run s l r lines ≡ Some last → Stands s l last (before ++ lines)
run_stands s l r last before [] some few stands read =
    subst (λ (x : Reading). Stands s l x (before ++ [])) (same_Some r last read)
    (record { is = stands.is; lines_are = stands.lines_are ∙ sym (append-nil before) })
run_stands s l r last before (line ∷ lines) some few stands read =
    by_step (step s l r line) refl read
    (λ next here more. run_stands s l next last (before ++ line ∷ []) lines some few here more)
  where
    by_step : (o : Option Reading) → step s l r line ≡ o → (o >>= λ next. run s l next lines) ≡ Some last
        → ((next : Reading) → Stands s l next (before ++ line ∷ []) → run s l next lines ≡ Some last
        → Stands s l last ((before ++ line ∷ []) ++ lines))
        → Stands s l last (before ++ line ∷ lines)
    by_step None at more again = absurd (none-some last more)
    by_step (Some next) at more again =
        let one = step_more s l r next line some few stands.is at in
        let here : Stands s l next (before ++ line ∷ []) = record {
          is = one.is;
          lines_are = one.lines ∙ ap (λ (ls : List (List ℕ)). ls ++ line ∷ []) stands.lines_are;
        } in
        subst (λ (ls : List (List ℕ)). Stands s l last ls) (append_assoc before (line ∷ []) lines) (again next here more)

-- how far a walk over the lines of some bytes has come
pub record Walk (s : ℕ) (l : Bool) (bytes rest : List ℕ) (count : ℕ) (r : Reading) : Type 0 where
  pub seen : run s l nothing_read (take count (lines_of bytes)) ≡ Some r
  pub left : lines_of rest ≡ drop count (lines_of bytes)
  pub within : count ≤ length (lines_of bytes)
  pub room : count + length rest ≤ length bytes

-- a walk begins
pub walk_begins : (s : ℕ) (l : Bool) (bytes : List ℕ) → Walk s l bytes bytes 0 nothing_read
walk_begins s l bytes = record { seen = refl; left = refl; within = omega arith; room = omega arith }

-- one more of a list
next_item : (n : ℕ) (xs ys : List (List ℕ)) (x : List ℕ) → drop n xs ≡ x ∷ ys
    → (take (n + 1) xs ≡ take n xs ++ x ∷ []) × (drop (n + 1) xs ≡ ys) × (n + 1 ≤ length xs)
next_item n xs ys x here =
    let size : length (drop n xs) ≡ suc (length ys) = ap length here in
    let less = length-drop n xs in
    let next : n + 1 ≡ suc n = omega arith in
    (ap (λ m. take m xs) next ∙ taken n xs here, ap (λ m. drop m xs) next ∙ dropped n xs here, omega arith)
  where
    taken : (m : ℕ) (zs : List (List ℕ)) → drop m zs ≡ x ∷ ys → take (suc m) zs ≡ take m zs ++ x ∷ []
    taken zero [] e = absurd cc
    taken zero (z ∷ zs) e = let head : z ≡ x = cc in ap (λ (h : List ℕ). h ∷ []) head
    taken (suc m) [] e = absurd cc
    taken (suc m) (z ∷ zs) e = ap (λ (ls : List (List ℕ)). z ∷ ls) (taken m zs e)

    dropped : (m : ℕ) (zs : List (List ℕ)) → drop m zs ≡ x ∷ ys → drop (suc m) zs ≡ ys
    dropped zero [] e = absurd cc
    dropped zero (z ∷ zs) e = cc
    dropped (suc m) [] e = absurd cc
    dropped (suc m) (z ∷ zs) e = dropped m zs e

-- what the lines so far and one more are read as
run_next : (s : ℕ) (l : Bool) (bytes rest line after : List ℕ) (count : ℕ) (r : Reading) (o : Option Reading)
    → Walk s l bytes rest count r → lines_of rest ≡ line ∷ lines_of after → step s l r line ≡ o
    → run s l nothing_read (take (count + 1) (lines_of bytes)) ≡ (o >>= λ next. Some next)
run_next s l bytes rest line after count r o walk cut at =
    let more = next_item count (lines_of bytes) (lines_of after) line (sym walk.left ∙ cut) in
    ap (run s l nothing_read) more.0
    ∙ run-append s l nothing_read (take count (lines_of bytes)) (line ∷ [])
    ∙ ap (λ p. p >>= λ m. run s l m (line ∷ [])) walk.seen
    ∙ ap (λ p. p >>= λ next. run s l next []) at

-- a walk goes on where a line is taken
pub walk_on : (s : ℕ) (l : Bool) (bytes rest line after : List ℕ) (count : ℕ) (r next : Reading)
    → Walk s l bytes rest count r → lines_of rest ≡ line ∷ lines_of after → length after < length rest
    → step s l r line ≡ Some next → Walk s l bytes after (count + 1) next
walk_on s l bytes rest line after count r next walk cut shorter at =
    let more = next_item count (lines_of bytes) (lines_of after) line (sym walk.left ∙ cut) in
    record {
      seen = run_next s l bytes rest line after count r (Some next) walk cut at;
      left = sym more.1;
      within = more.2;
      room = omega (arith, walk.room);
    }

-- fewer lines begin a file too
begins_take : (s : ℕ) (l : Bool) (lines : List (List ℕ)) (m : ℕ) → Begins s l lines → Begins s l (take m lines)
begins_take s l lines m begins = record {
  blocks = begins.blocks;
  more = drop m lines ++ begins.more;
  are_blocks = begins.are_blocks;
  lines_are = begins.lines_are
      ∙ ap (λ (ls : List (List ℕ)). ls ++ begins.more) (sym (take-append-drop m lines))
      ∙ append_assoc (take m lines) (drop m lines) begins.more;
}

-- the lines that were read begin a file, and each fewer
walked_begin : (s : ℕ) (l : Bool) (bytes rest : List ℕ) (count : ℕ) (r : Reading) → 1 ≤ s → s ≤ 16
    → Walk s l bytes rest count r → (m : ℕ) → m < count + 1 → Begins s l (take m (lines_of bytes))
walked_begin s l bytes rest count r some few walk m below =
    let lines = lines_of bytes in
    let nothing : Stands s l nothing_read [] = record { is = (refl, refl); lines_are = refl } in
    let stands = run_stands s l nothing_read r [] (take count lines) some few nothing walk.seen in
    let begins : Begins s l (take count lines) =
    subst (Begins s l) stands.lines_are (reading_begins s l r stands.is) in
    let size : length (take count lines) ≡ count = length-take-le count lines walk.within in
    let same : take m lines ≡ take m (take count lines) =
    ap (take m) (sym (take-append-drop count lines))
    ∙ take-append-le m (take count lines) (drop count lines) (omega arith) in
    subst (Begins s l) (sym same) (begins_take s l (take count lines) m begins)

-- a file's lines are not refused part way
file_reads : (s : ℕ) (l : Bool) (lines more : List (List ℕ)) (bs : List Block) → AreBlocks s l bs
    → file_lines bs ≡ lines ++ more → run s l nothing_read lines ≡ None → ⊥
file_reads s l lines more bs are same none =
    let all = file_run s l bs are in
    none-some all.last
    (ap (λ o. o >>= λ m. run s l m more) (sym none) ∙ sym (run-append s l nothing_read lines more)
    ∙ ap (run s l nothing_read) (sym same) ∙ all.read)

-- a line that is not taken is the first with which no file begins
pub walk_stops : (s : ℕ) (l : Bool) (bytes rest line after : List ℕ) (count : ℕ) (r : Reading) → 1 ≤ s → s ≤ 16
    → Walk s l bytes rest count r → lines_of rest ≡ line ∷ lines_of after → step s l r line ≡ None
    → IsFaultAt s l bytes (count + 1)
walk_stops s l bytes rest line after count r some few walk cut at =
    let more = next_item count (lines_of bytes) (lines_of after) line (sym walk.left ∙ cut) in
    let none : run s l nothing_read (take (count + 1) (lines_of bytes)) ≡ None =
    run_next s l bytes rest line after count r None walk cut at in
    record {
      before = walked_begin s l bytes rest count r some few walk;
      last = omega (arith, more.2);
      here = λ _ begins. file_reads s l (take (count + 1) (lines_of bytes)) begins.more begins.blocks begins.are_blocks
          begins.lines_are none;
      unfinished = λ e. absurd (omega (arith, more.2));
    }

-- at the end of the bytes all lines were read
all_read : (s : ℕ) (l : Bool) (bytes : List ℕ) (count : ℕ) (r : Reading) → Walk s l bytes [] count r
    → (run s l nothing_read (lines_of bytes) ≡ Some r) × (length (lines_of bytes) ≡ count)
all_read s l bytes count r walk =
    let size : length (drop count (lines_of bytes)) ≡ 0 = sym (ap length walk.left) in
    let less = length-drop count (lines_of bytes) in
    let past : length (lines_of bytes) ≤ count = omega arith in (
      ap (run s l nothing_read) (sym (take_all count (lines_of bytes) past)) ∙ walk.seen,
      omega (arith, walk.within),
    )

-- the lines of bytes that spell blocks are those of the blocks
spelled_lines : (s : ℕ) (l : Bool) (bytes : List ℕ) (bs : List Block) → length bytes < 2 ^ 64 → Spells s l bytes bs
    → lines_of bytes ≡ file_lines bs
spelled_lines s l bytes bs small spells =
    let size = ap length spells.text in
    ap lines_of spells.text ∙ file_text_lines s l bs (omega arith) spells.are_blocks

-- what is read of bytes that spell blocks is whole, and these blocks
spelled_read : (s : ℕ) (l : Bool) (bytes : List ℕ) (bs : List Block) (r : Reading) → length bytes < 2 ^ 64
    → Spells s l bytes bs → run s l nothing_read (lines_of bytes) ≡ Some r
    → (is_whole r ≡ true) × (blocks_read r ≡ bs)
spelled_read s l bytes bs r small spells read =
    let all = file_run s l bs spells.are_blocks in
    let same : all.last ≡ r =
    same_Some all.last r
    (sym all.read ∙ ap (run s l nothing_read) (sym (spelled_lines s l bytes bs small spells)) ∙ read) in
    (ap is_whole (sym same) ∙ all.whole, ap blocks_read (sym same) ∙ all.blocks)

-- where a block is unfinished at the end, the fault is one line past the last
pub walk_short : (s : ℕ) (l : Bool) (bytes : List ℕ) (count : ℕ) (r : Reading) → 1 ≤ s → s ≤ 16 → length bytes < 2 ^ 64
    → Walk s l bytes [] count r → is_whole r ≡ false → IsFaultAt s l bytes (count + 1)
walk_short s l bytes count r some few small walk short =
    let all = all_read s l bytes count r walk in
    record {
      before = walked_begin s l bytes [] count r some few walk;
      last = omega (arith, all.1);
      here = λ inside. absurd (omega (arith, all.1));
      unfinished = λ _ bs spells.
          let e : false ≡ true = sym short ∙ (spelled_read s l bytes bs r small spells all.0).0 in absurd cc;
    }

-- where no block is unfinished at the end, the bytes spell the blocks that were read
pub walk_finds : (s : ℕ) (l : Bool) (bytes : List ℕ) (count : ℕ) (r : Reading) → 1 ≤ s → s ≤ 16
    → Walk s l bytes [] count r → is_whole r ≡ true → Spells s l bytes (blocks_read r)
walk_finds s l bytes count r some few walk whole =
    let all = all_read s l bytes count r walk in
    let nothing : Stands s l nothing_read [] = record { is = (refl, refl); lines_are = refl } in
    let stands = run_stands s l nothing_read r [] (lines_of bytes) some few nothing all.0 in
    let blocks = reading_whole s l r stands.is whole in
    record {
      are_blocks = blocks.0;
      text = sym (concat-lines_of bytes) ∙ ap concat (sym stands.lines_are ∙ blocks.1);
    }

-- no other blocks are spelled
pub walk_alone : (s : ℕ) (l : Bool) (bytes : List ℕ) (count : ℕ) (r : Reading) (bs : List Block) → length bytes < 2 ^ 64
    → Walk s l bytes [] count r → Spells s l bytes bs → blocks_read r ≡ bs
walk_alone s l bytes count r bs small walk spells =
    (spelled_read s l bytes bs r small spells (all_read s l bytes count r walk).0).1

-- bytes with a fault spell no blocks
pub fault_alone : (s : ℕ) (l : Bool) (bytes : List ℕ) (at : ℕ) (bs : List Block) → length bytes < 2 ^ 64
    → IsFaultAt s l bytes at → Spells s l bytes bs → ⊥
fault_alone s l bytes at bs small fault spells =
    ⊎_elim
    (λ (inside : at < length (lines_of bytes) + 1).
    fault.here (omega arith) (record {
      blocks = bs;
      more = drop at (lines_of bytes);
      are_blocks = spells.are_blocks;
      lines_are = sym (spelled_lines s l bytes bs small spells) ∙ sym (take-append-drop at (lines_of bytes));
    }))
    (λ (past : length (lines_of bytes) + 1 ≤ at). fault.unfinished (omega (arith, fault.last)) bs spells)
    (cases_lt at (length (lines_of bytes) + 1))

-- a line that was taken
pub was_taken : (E : Type 0) (b : Bool) (old new : Reading) (next : Option Reading) → b ≡ true
    → Takes {E = E} (Ok b) old new next → next ≡ Some new
was_taken E b old new next taken said = let P : Bool → Type 0 = λ t. Takes {E = E} (Ok t) old new next in subst P taken said

-- a line that was not taken
pub not_taken : (E : Type 0) (b : Bool) (old new : Reading) (next : Option Reading) → b ≡ false
    → Takes {E = E} (Ok b) old new next → next ≡ None
not_taken E b old new next refused said =
    let P : Bool → Type 0 = λ t. Takes {E = E} (Ok t) old new next in
    let both : (next ≡ None) × (new ≡ old) = subst P refused said in
    both.0

-- nothing is left where no byte is
pub walk_ends : (s : ℕ) (l : Bool) (bytes rest : List ℕ) (count : ℕ) (r : Reading) → Walk s l bytes rest count r
    → length rest ≡ 0 → Walk s l bytes [] count r
walk_ends s l bytes rest count r walk none =
    subst (λ (t : List ℕ). Walk s l bytes t count r) (nil_from_length rest none) walk
