-- Lines read one after another: the lines of blocks are all read, and give these blocks.
use Rattle.std.proofs.Common.{◌≡◌, ℕ, ◌+◌, ◌^◌, ◌<◌, ◌≤◌, List, [], ◌∷◌, ◌++◌, length, Bool, true, false, Option, Some, None, refl, sym, ap, ◌∙◌, append_assoc, append-nil, length-append, arith}
use Rattle.std.specs.Prelude.{nat_lt, ◌==◌, ◌&&◌, IfSome}
use Rattle.std.specs.List.{AllByRecursion}
use Rattle.std.proofs.lemmas.Bool.{and_from, lt-ltb, eq-eqb, false≢true as false_not_true}
use Rattle.series_core.specs.declared.pair.Pair.{Pair}
use Rattle.series_core.specs.declared.queue_words.Entry.{Entry}
use Rattle.search_machine.specs.declared.outcome.Start.{Start}
use Rattle.certificate.specs.declared.block.Block.{Block}
use Rattle.certificate.specs.declared.block.LeafLine.{LeafLine}
use Rattle.certificate.specs.declared.reader.Stage.{Stage}
use Rattle.certificate.specs.declared.reader.Stage.TheVariants.{Between, Answers, Lines}
use Rattle.certificate.specs.Spelling.{query_line, answer_line, answer_lines, start_line, queue_line, queue_lines, leaf_line, leaf_lines}
use Rattle.certificate.specs.Grammar.{IsPair, IsEntry, IsStart, IsLeafLine}
use Rattle.certificate.specs.Fields.{◌>>=◌}
use Rattle.certificate.specs.LineForms.{query_of, answer_of, queue_of, leaf_of}
use Rattle.certificate.specs.Reading.{Reading, count_of, whole_at, is_whole, opened, with_answer, with_start, with_queue, with_leaf, where_holds, query_step, answer_step, start_step, queue_step, leaf_step, or_else, step_at, step}
use Rattle.certificate.proofs.Again.{number_not}
use Rattle.certificate.proofs.LineTexts.{query_again, answer_again, labelled_again, start_again, queue_again, leaf_again}

-- lines read one after another
abbrev pub run : ℕ → Bool → Reading → List (List ℕ) → Option Reading
run s l r [] = Some r
run s l r (line ∷ lines) = step s l r line >>= λ next. run s l next lines

-- a step and further steps in two ways
bind_both : {X Y Z : Type 0} (o : Option X) (f : X → Option Z) (g : X → Option Y) (h : Y → Option Z)
    → ((x : X) → f x ≡ (g x >>= h)) → (o >>= f) ≡ ((o >>= g) >>= h)
bind_both None f g h same = refl
bind_both (Some x) f g h same = same x

-- lines and further lines
pub run-append : (s : ℕ) (l : Bool) (r : Reading) (xs ys : List (List ℕ))
    → run s l r (xs ++ ys) ≡ (run s l r xs >>= λ m. run s l m ys)
run-append s l r [] ys = refl
run-append s l r (line ∷ xs) ys =
    bind_both (step s l r line) (λ next. run s l next (xs ++ ys)) (λ next. run s l next xs) (λ m. run s l m ys)
    (λ next. run-append s l next xs ys)

-- the answers of an open block
abbrev pub at_answers : List Block → List Pair → List ℕ → Reading
at_answers d an lb =
    record { done = d; stage = Answers; block = record { answers = an; labels = lb; start = None; lines = []; leaves = [] } }

-- an open block past its start
abbrev pub at_lines : List Block → Block → Reading
at_lines d b = record { done = d; stage = Lines; block = b }

-- nothing is read where nothing holds or nothing is there
where_none : {X : Type 0} (b : Bool) (o : Option X) (f : X → Option Reading) → o ≡ None → where_holds b (o >>= f) ≡ None
where_none true o f none = ap (λ o. o >>= f) none
where_none false o f none = refl

-- something is read where the test holds
where_some : {X : Type 0} (b : Bool) (o : Option X) (f : X → Option Reading) (x : X) → b ≡ true → o ≡ Some x
    → where_holds b (o >>= f) ≡ f x
where_some b o f x holds some = ap (λ t. where_holds t (o >>= f)) holds ∙ ap (λ o. o >>= f) some

-- the line of the next query is taken where no block is unfinished
pub query_taken : (s : ℕ) (l : Bool) (r : Reading) → is_whole r ≡ true
    → step s l r (query_line (count_of r.stage (length r.done))) ≡ Some (opened r.stage r)
unfolding step_at query_step queue_step leaf_step query_of queue_of leaf_of
query_taken s l r whole = by_stage r.stage refl
  where
    i : ℕ
    i = count_of r.stage (length r.done)

    taken : query_step r (query_line i) ≡ Some (opened r.stage r)
    taken = where_some (is_whole r) (query_of i (query_line i)) (λ _. Some (opened r.stage r)) i whole (query_again i)

    by_stage : (stage : Stage) → r.stage ≡ stage → step_at stage s l r (query_line i) ≡ Some (opened r.stage r)
    by_stage Between at = taken
    by_stage Answers at = absurd (false_not_true (sym (ap (λ t. whole_at t r.block) at) ∙ whole))
    by_stage Lines at =
        ap (λ o. or_else o (or_else (leaf_step s r (query_line i)) (query_step r (query_line i))))
        (where_none _ (queue_of (length r.block.lines) (query_line i)) (λ entries. Some (with_queue r entries)) refl)
        ∙ ap (λ o. or_else o (query_step r (query_line i)))
        (where_none _ (leaf_of s (length r.block.leaves) (query_line i)) (λ leaf. Some (with_leaf r leaf)) refl)
        ∙ taken

-- an answer without a label is taken
answer_taken : (s : ℕ) (d : List Block) (an : List Pair) (p : Pair) → length an < 1024 → IsPair p
    → step s false (at_answers d an []) (answer_line (length an + 1) p []) ≡ Some (at_answers d (an ++ p ∷ []) [])
unfolding step_at answer_step
answer_taken s d an p room fits =
    ap (λ o. or_else o (start_step (at_answers d an []) (answer_line (length an + 1) p [])))
    (where_some (nat_lt (length an) 1024) (answer_of false (length an + 1) (answer_line (length an + 1) p []))
    (λ x. Some (with_answer (at_answers d an []) x)) (p, []) (lt-ltb (length an) 1024 room)
    (answer_again (length an + 1) p fits))

-- an answer with its label is taken
labelled_taken : (s : ℕ) (d : List Block) (an : List Pair) (lb : List ℕ) (p : Pair) (label : ℕ) (more : List ℕ)
    → length an < 1024 → IsPair p → label < 2 ^ 64
    → step s true (at_answers d an lb) (answer_line (length an + 1) p (label ∷ more))
    ≡ Some (at_answers d (an ++ p ∷ []) (lb ++ label ∷ []))
unfolding step_at answer_step
labelled_taken s d an lb p label more room fits small =
    ap (λ o. or_else o (start_step (at_answers d an lb) (answer_line (length an + 1) p (label ∷ more))))
    (where_some (nat_lt (length an) 1024) (answer_of true (length an + 1) (answer_line (length an + 1) p (label ∷ more)))
    (λ x. Some (with_answer (at_answers d an lb) x)) (p, label ∷ []) (lt-ltb (length an) 1024 room)
    (labelled_again (length an + 1) p label more fits small))

-- answers without labels are taken
pub answers_run : (s : ℕ) (d : List Block) (an ps : List Pair) (rest : List (List ℕ)) → length an + length ps ≤ 1024
    → AllByRecursion IsPair ps
    → run s false (at_answers d an []) (answer_lines (length an + 1) ps [] ++ rest)
    ≡ run s false (at_answers d (an ++ ps) []) rest
answers_run s d an [] rest room fits = ap (λ (qs : List Pair). run s false (at_answers d qs []) rest) (sym (append-nil an))
answers_run s d an (p ∷ ps) rest room fits =
    let next : length an + 1 + 1 ≡ length (an ++ p ∷ []) + 1 = omega (arith, length-append an (p ∷ [])) in
    let more : length (an ++ p ∷ []) + length ps ≤ 1024 = omega (arith, length-append an (p ∷ [])) in
    ap (λ o. o >>= λ next. run s false next (answer_lines (length an + 1 + 1) ps [] ++ rest))
    (answer_taken s d an p (omega arith) fits.0)
    ∙ ap (λ n. run s false (at_answers d (an ++ p ∷ []) []) (answer_lines n ps [] ++ rest)) next
    ∙ answers_run s d (an ++ p ∷ []) ps rest more fits.1
    ∙ ap (λ (qs : List Pair). run s false (at_answers d qs []) rest) (append_assoc an (p ∷ []) ps)

-- answers with labels are taken
pub labelled_run : (s : ℕ) (d : List Block) (an ps : List Pair) (lb ls : List ℕ) (rest : List (List ℕ))
    → length an + length ps ≤ 1024 → AllByRecursion IsPair ps → AllByRecursion (λ n. n < 2 ^ 64) ls → length ls ≡ length ps
    → run s true (at_answers d an lb) (answer_lines (length an + 1) ps ls ++ rest)
    ≡ run s true (at_answers d (an ++ ps) (lb ++ ls)) rest
labelled_run s d an [] lb [] rest room fits small size =
    ap (λ (qs : List Pair). run s true (at_answers d qs lb) rest) (sym (append-nil an))
    ∙ ap (λ (bs : List ℕ). run s true (at_answers d (an ++ []) bs) rest) (sym (append-nil lb))
labelled_run s d an [] lb (label ∷ ls) rest room fits small size = absurd (omega arith)
labelled_run s d an (p ∷ ps) lb [] rest room fits small size = absurd (omega arith)
labelled_run s d an (p ∷ ps) lb (label ∷ ls) rest room fits small size =
    let next : length an + 1 + 1 ≡ length (an ++ p ∷ []) + 1 = omega (arith, length-append an (p ∷ [])) in
    let more : length (an ++ p ∷ []) + length ps ≤ 1024 = omega (arith, length-append an (p ∷ [])) in
    ap (λ o. o >>= λ next. run s true next (answer_lines (length an + 1 + 1) ps ls ++ rest))
    (labelled_taken s d an lb p label ls (omega arith) fits.0 small.0)
    ∙ ap (λ n. run s true (at_answers d (an ++ p ∷ []) (lb ++ label ∷ [])) (answer_lines n ps ls ++ rest)) next
    ∙ labelled_run s d (an ++ p ∷ []) ps (lb ++ label ∷ []) ls rest more fits.1 small.1 (omega arith)
    ∙ ap (λ (qs : List Pair). run s true (at_answers d qs ((lb ++ label ∷ []) ++ ls)) rest) (append_assoc an (p ∷ []) ps)
    ∙ ap (λ (bs : List ℕ). run s true (at_answers d (an ++ p ∷ ps) bs) rest) (append_assoc lb (label ∷ []) ls)

-- the start is taken behind answers
pub start_taken : (s : ℕ) (l : Bool) (d : List Block) (an : List Pair) (lb : List ℕ) (st : Option Start) → length an ≤ 1024
    → IfSome st IsStart
    → step s l (at_answers d an lb) (start_line st)
    ≡ Some (at_lines d (record { answers = an; labels = lb; start = st; lines = []; leaves = [] }))
unfolding step_at answer_step start_step answer_of
start_taken s l d an lb st few fits =
    ap (λ o. or_else o (start_step (at_answers d an lb) (start_line st)))
    (where_none (nat_lt (length an) 1024) (answer_of l (length an + 1) (start_line st))
    (λ x. Some (with_answer (at_answers d an lb) x)) (not_answer st))
    ∙ ap (λ o. o >>= λ start. Some (with_start (at_answers d an lb) start)) (start_again st fits)
  where
    not_answer : (start : Option Start) → answer_of l (length an + 1) (start_line start) ≡ None
    not_answer None = rw (number_not 115 _ (length an + 1) (omega arith) (omega arith)) refl
    not_answer (Some start) = rw (number_not 115 _ (length an + 1) (omega arith) (omega arith)) refl

-- a block with further queues
abbrev pub with_lines : Block → List (List Entry) → Block
with_lines b ln = record b { lines = ln }

-- queues are taken
pub queues_run : (s : ℕ) (l : Bool) (d : List Block) (b : Block) (ln qs : List (List Entry)) (rest : List (List ℕ))
    → b.leaves ≡ [] → length ln + length qs ≤ 64 → AllByRecursion (AllByRecursion IsEntry) qs
    → run s l (at_lines d (with_lines b ln)) (queue_lines (length ln) qs ++ rest)
    ≡ run s l (at_lines d (with_lines b (ln ++ qs))) rest
unfolding step_at queue_step
queues_run s l d b ln [] rest none room fits =
    ap (λ (ls : List (List Entry)). run s l (at_lines d (with_lines b ls)) rest) (sym (append-nil ln))
queues_run s l d b ln (es ∷ qs) rest none room fits =
    let next : length ln + 1 ≡ length (ln ++ es ∷ []) = omega (arith, length-append ln (es ∷ [])) in
    let more : length (ln ++ es ∷ []) + length qs ≤ 64 = omega (arith, length-append ln (es ∷ [])) in
    let r : Reading = at_lines d (with_lines b ln) in
    let line : List ℕ = queue_line (length ln) es in
    let guard : (length b.leaves == 0 && nat_lt (length ln) 64) ≡ true =
    and_from _ _ (eq-eqb (length b.leaves) 0 (ap length none)) (lt-ltb (length ln) 64 (omega arith)) in
    ap (λ o. or_else o (or_else (leaf_step s r line) (query_step r line)) >>= λ next. run s l next (queue_lines (length ln + 1) qs ++ rest))
    (where_some (length b.leaves == 0 && nat_lt (length ln) 64) (queue_of (length ln) line)
    (λ entries. Some (with_queue r entries)) es guard (queue_again (length ln) es fits.0))
    ∙ ap (λ n. run s l (at_lines d (with_lines b (ln ++ es ∷ []))) (queue_lines n qs ++ rest)) next
    ∙ queues_run s l d b (ln ++ es ∷ []) qs rest none more fits.1
    ∙ ap (λ (ls : List (List Entry)). run s l (at_lines d (with_lines b ls)) rest) (append_assoc ln (es ∷ []) qs)

-- a block with these leaves
abbrev pub with_leaves : Block → List LeafLine → Block
with_leaves b lv = record b { leaves = lv }

-- leaves are taken
pub leaves_run : (s : ℕ) (l : Bool) (d : List Block) (b : Block) (lv fs : List LeafLine) (rest : List (List ℕ))
    → 0 < length b.lines → length lv + length fs ≤ 2 ^ 32 → AllByRecursion (IsLeafLine s) fs
    → run s l (at_lines d (with_leaves b lv)) (leaf_lines (length lv) fs ++ rest)
    ≡ run s l (at_lines d (with_leaves b (lv ++ fs))) rest
unfolding step_at leaf_step queue_step queue_of
leaves_run s l d b lv [] rest some room fits =
    ap (λ (ls : List LeafLine). run s l (at_lines d (with_leaves b ls)) rest) (sym (append-nil lv))
leaves_run s l d b lv (f ∷ fs) rest some room fits =
    let next : length lv + 1 ≡ length (lv ++ f ∷ []) = omega (arith, length-append lv (f ∷ [])) in
    let more : length (lv ++ f ∷ []) + length fs ≤ 2 ^ 32 = omega (arith, length-append lv (f ∷ [])) in
    let r : Reading = at_lines d (with_leaves b lv) in
    let line : List ℕ = leaf_line (length lv) f in
    let guard : (nat_lt 0 (length b.lines) && nat_lt (length lv) (2 ^ 32)) ≡ true =
    and_from _ _ (lt-ltb 0 (length b.lines) some) (lt-ltb (length lv) (2 ^ 32) (omega arith)) in
    ap (λ o. or_else o (or_else (leaf_step s r line) (query_step r line)) >>= λ next. run s l next (leaf_lines (length lv + 1) fs ++ rest))
    (where_none (length lv == 0 && nat_lt (length b.lines) 64) (queue_of (length b.lines) line)
    (λ entries. Some (with_queue r entries)) refl)
    ∙ ap (λ o. or_else o (query_step r line) >>= λ next. run s l next (leaf_lines (length lv + 1) fs ++ rest))
    (where_some (nat_lt 0 (length b.lines) && nat_lt (length lv) (2 ^ 32)) (leaf_of s (length lv) line)
    (λ leaf. Some (with_leaf r leaf)) f guard (leaf_again s (length lv) f fits.0))
    ∙ ap (λ n. run s l (at_lines d (with_leaves b (lv ++ f ∷ []))) (leaf_lines n fs ++ rest)) next
    ∙ leaves_run s l d b (lv ++ f ∷ []) fs rest some more fits.1
    ∙ ap (λ (ls : List LeafLine). run s l (at_lines d (with_leaves b ls)) rest) (append_assoc lv (f ∷ []) fs)
