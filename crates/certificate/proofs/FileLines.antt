-- Each line of a file is a whole line, so the lines of its text are the lines of its blocks.
use Rattle.std.proofs.Common.{◌≡◌, ℕ, ◌+◌, ◌^◌, ◌<◌, ◌≤◌, List, [], ◌∷◌, ◌++◌, length, drop, Bool, true, false, Option, Some, None, refl, sym, ap, ◌∙◌, append_assoc, length-append, ⊎_elim, arith}
use Rattle.std.specs.Prelude.{decimal, codes, ◌==◌, IfSome}
use Rattle.std.specs.List.{concat, list_all, AllByRecursion}
use Rattle.std.specs.Char.{is_ascii_digit}
use Rattle.std.proofs.lemmas.Bool.{cases_Bool, and_parts, cond-true, cond-false, ne_eqb}
use Rattle.std.proofs.lemmas.Fmt.{digits_decimal}
use Rattle.std.proofs.lemmas.List.Elements.{recursion_from_All}
use Rattle.isax_word.specs.declared.word.Part.{Part}
use Rattle.isax_word.specs.Word.{IsPart}
use Rattle.series_core.specs.declared.pair.Pair.{Pair}
use Rattle.series_core.specs.declared.queue_words.Entry.{Entry}
use Rattle.series_core.specs.declared.distance.TheConstants.{NONE}
use Rattle.search_machine.specs.declared.outcome.Start.{Start}
use Rattle.certificate.specs.declared.block.Block.{Block}
use Rattle.certificate.specs.declared.block.LeafLine.{LeafLine}
use Rattle.certificate.specs.declared.block.Said.{Said}
use Rattle.certificate.specs.declared.block.Said.TheVariants.{Scanned, Bound}
use Rattle.certificate.specs.Spelling.{line_end, query_line, label_text, answer_line, answer_lines, limit_text, start_line, entries_text, queue_line, queue_lines, part_text, parts_text, word_text, said_text, leaf_line, leaf_lines, block_lines, lines_from, file_lines, file_text}
use Rattle.certificate.specs.Grammar.{IsPair, IsEntry, IsStart, IsSaid, IsLeafLine, IsBlock, AreBlocks, lines_of}
use Rattle.certificate.proofs.Again.{part_fits}
use Rattle.certificate.proofs.CutLines.{is_line, lines_of-concat}
use Rattle.certificate.proofs.Digits.{digit_range}
use Rattle.certificate.proofs.NumberTexts.{own}

-- digits before a line leave it one line
digits_line : (ds rest : List ℕ) → list_all is_ascii_digit ds ≡ true → is_line (ds ++ rest) ≡ is_line rest
digits_line [] rest digits = refl
digits_line (d ∷ ds) rest digits =
    let parts = and_parts (is_ascii_digit d) (list_all is_ascii_digit ds) digits in
    let range = digit_range d parts.0 in
    cond-false (d == 10) (length (ds ++ rest) == 0) (is_line (ds ++ rest)) (ne_eqb d 10 (λ e. absurd (omega arith)))
    ∙ digits_line ds rest parts.1

-- so does a number
number_line : (n : ℕ) (rest : List ℕ) → n < 2 ^ 64 → is_line (decimal n ++ rest) ≡ is_line rest
number_line n rest small = digits_line (decimal n) rest (digits_decimal own n small)

query_is_line : (i : ℕ) → i < 2 ^ 64 → is_line (query_line i) ≡ true
query_is_line i small = number_line i line_end small

labels_line : (ls : List ℕ) → AllByRecursion (λ l. l < 2 ^ 64) ls → is_line (label_text ls ++ line_end) ≡ true
labels_line [] small = refl
labels_line (l ∷ ls) small = number_line l line_end small.0

answer_is_line : (r : ℕ) (p : Pair) (ls : List ℕ) → r < 2 ^ 64 → IsPair p → AllByRecursion (λ l. l < 2 ^ 64) ls
    → is_line (answer_line r p ls) ≡ true
answer_is_line r p ls small fits labels =
    number_line r (32 ∷ (decimal p.number ++ (32 ∷ (decimal p.distance ++ (label_text ls ++ line_end))))) small
    ∙ number_line p.number (32 ∷ (decimal p.distance ++ (label_text ls ++ line_end))) (omega (arith, fits.number))
    ∙ number_line p.distance (label_text ls ++ line_end) fits.distance
    ∙ labels_line ls labels

limit_line : (v : ℕ) → v < 2 ^ 64 → is_line (limit_text v ++ line_end) ≡ true
limit_line v small =
    ⊎_elim
    (λ (none : (v == NONE) ≡ true).
    ap (λ (t : List ℕ). is_line (t ++ line_end)) (cond-true (v == NONE) (codes "none") (decimal v) none))
    (λ (some : (v == NONE) ≡ false).
    ap (λ (t : List ℕ). is_line (t ++ line_end)) (cond-false (v == NONE) (codes "none") (decimal v) some)
    ∙ number_line v line_end small)
    (cases_Bool (v == NONE))

start_is_line : (s : Option Start) → IfSome s IsStart → is_line (start_line s) ≡ true
start_is_line None fits = refl
start_is_line (Some s) fits =
    number_line s.leaf (32 ∷ (limit_text s.limit ++ line_end)) (omega (arith, fits.leaf))
    ∙ limit_line s.limit fits.limit

entries_line : (es : List Entry) → AllByRecursion IsEntry es → is_line (entries_text es ++ line_end) ≡ true
entries_line [] fits = refl
entries_line (e ∷ es) fits =
    ap is_line (append_assoc (decimal e.bound) (58 ∷ (decimal e.leaf ++ entries_text es)) line_end)
    ∙ number_line e.bound (58 ∷ ((decimal e.leaf ++ entries_text es) ++ line_end)) fits.0.bound
    ∙ ap is_line (append_assoc (decimal e.leaf) (entries_text es) line_end)
    ∙ number_line e.leaf (entries_text es ++ line_end) (omega (arith, fits.0.leaf))
    ∙ entries_line es fits.1

queue_is_line : (m : ℕ) (es : List Entry) → m < 2 ^ 64 → AllByRecursion IsEntry es → is_line (queue_line m es) ≡ true
queue_is_line m es small fits = number_line m (entries_text es ++ line_end) small ∙ entries_line es fits

part_line : (p : Part) (rest : List ℕ) → IsPart p → is_line (part_text p ++ rest) ≡ is_line rest
part_line p rest part =
    let fits = part_fits p part in
    ap is_line (append_assoc (decimal p.prefix) (58 ∷ decimal p.bits) rest)
    ∙ number_line p.prefix (58 ∷ (decimal p.bits ++ rest)) (omega (arith, fits.0))
    ∙ number_line p.bits rest (omega (arith, fits.1))

parts_line : (ps : List Part) (rest : List ℕ) → AllByRecursion IsPart ps → is_line (parts_text ps ++ rest) ≡ is_line rest
parts_line [] rest parts = refl
parts_line (p ∷ ps) rest parts =
    ap is_line (append_assoc (part_text p) (parts_text ps) rest)
    ∙ part_line p (parts_text ps ++ rest) parts.0 ∙ parts_line ps rest parts.1

word_line : (ps : List Part) (rest : List ℕ) → AllByRecursion IsPart ps → is_line (word_text ps ++ rest) ≡ is_line rest
word_line [] rest parts = refl
word_line (p ∷ ps) rest parts =
    ap is_line (append_assoc (part_text p) (parts_text ps) rest)
    ∙ part_line p (parts_text ps ++ rest) parts.0 ∙ parts_line ps rest parts.1

said_line : (s : Said) → IsSaid s → is_line (said_text s ++ line_end) ≡ true
said_line Scanned fits = refl
said_line (Bound b) fits = number_line b line_end (omega arith)

leaf_is_line : (s l : ℕ) (leaf : LeafLine) → l < 2 ^ 64 → IsLeafLine s leaf → is_line (leaf_line l leaf) ≡ true
leaf_is_line s l leaf small fits =
    number_line l (codes " word " ++ (word_text leaf.word ++ (said_text leaf.said ++ line_end))) small
    ∙ word_line leaf.word (said_text leaf.said ++ line_end) (recursion_from_All IsPart leaf.word fits.word.parts)
    ∙ said_line leaf.said fits.said

-- lines that are whole
abbrev AreLines : List (List ℕ) → Type 0
AreLines lines = AllByRecursion (λ line. is_line line ≡ true) lines

lines_join : (xs ys : List (List ℕ)) → AreLines xs → AreLines ys → AreLines (xs ++ ys)
lines_join [] ys all more = more
lines_join (x ∷ xs) ys all more = (all.0, lines_join xs ys all.1 more)

all_drop : (ls : List ℕ) → AllByRecursion (λ l. l < 2 ^ 64) ls → AllByRecursion (λ l. l < 2 ^ 64) (drop 1 ls)
all_drop [] small = tt
all_drop (l ∷ ls) small = small.1

answers_are_lines : (r : ℕ) (ps : List Pair) (ls : List ℕ) → r + length ps < 2 ^ 64 → AllByRecursion IsPair ps
    → AllByRecursion (λ l. l < 2 ^ 64) ls → AreLines (answer_lines r ps ls)
answers_are_lines r [] ls small fits labels = tt
answers_are_lines r (p ∷ ps) ls small fits labels = (
  answer_is_line r p ls (omega arith) fits.0 labels,
  answers_are_lines (r + 1) ps (drop 1 ls) (omega arith) fits.1 (all_drop ls labels),
)

queues_are_lines : (m : ℕ) (qs : List (List Entry)) → m + length qs < 2 ^ 64 → AllByRecursion (AllByRecursion IsEntry) qs
    → AreLines (queue_lines m qs)
queues_are_lines m [] small fits = tt
queues_are_lines m (q ∷ qs) small fits =
    (queue_is_line m q (omega arith) fits.0, queues_are_lines (m + 1) qs (omega arith) fits.1)

leaves_are_lines : (s m : ℕ) (fs : List LeafLine) → m + length fs < 2 ^ 64 → AllByRecursion (IsLeafLine s) fs
    → AreLines (leaf_lines m fs)
leaves_are_lines s m [] small fits = tt
leaves_are_lines s m (f ∷ fs) small fits =
    (leaf_is_line s m f (omega arith) fits.0, leaves_are_lines s (m + 1) fs (omega arith) fits.1)

block_are_lines : (s : ℕ) (l : Bool) (i : ℕ) (b : Block) → i < 2 ^ 64 → IsBlock s l b → AreLines (block_lines i b)
block_are_lines s l i b small is = (
  query_is_line i small,
  lines_join (answer_lines 1 b.answers b.labels) (start_line b.start ∷ (queue_lines 0 b.lines ++ leaf_lines 0 b.leaves))
      (answers_are_lines 1 b.answers b.labels (omega (arith, is.few_answers)) is.answers is.labels) (
        start_is_line b.start is.start,
        lines_join (queue_lines 0 b.lines) (leaf_lines 0 b.leaves)
            (queues_are_lines 0 b.lines (omega (arith, is.few_queues)) is.queues)
            (leaves_are_lines s 0 b.leaves (omega (arith, is.few_leaves)) is.leaves),
      ),
)

blocks_are_lines : (s : ℕ) (l : Bool) (i : ℕ) (bs : List Block) → i + length bs < 2 ^ 64 → AreBlocks s l bs
    → AreLines (lines_from i bs)
blocks_are_lines s l i [] small are = tt
blocks_are_lines s l i (b ∷ bs) small are =
    lines_join (block_lines i b) (lines_from (i + 1) bs) (block_are_lines s l i b (omega arith) are.0)
    (blocks_are_lines s l (i + 1) bs (omega arith) are.1)

concat-append : (xs ys : List (List ℕ)) → concat (xs ++ ys) ≡ concat xs ++ concat ys
concat-append [] ys = refl
concat-append (x ∷ xs) ys = ap (λ (t : List ℕ). x ++ t) (concat-append xs ys) ∙ sym (append_assoc x (concat xs) (concat ys))

-- there are no more blocks than bytes
blocks_size : (i : ℕ) (bs : List Block) → length bs ≤ length (concat (lines_from i bs))
blocks_size i [] = omega arith
blocks_size i (b ∷ bs) =
    let rest = blocks_size (i + 1) bs in
    let whole = ap length (concat-append (block_lines i b) (lines_from (i + 1) bs)) in
    let both = length-append (concat (block_lines i b)) (concat (lines_from (i + 1) bs)) in
    let first : 1 ≤ length (concat (block_lines i b)) = omega arith in
    omega arith

-- the lines of a file's text are the lines of its blocks
pub file_text_lines : (s : ℕ) (l : Bool) (bs : List Block) → length (file_text bs) < 2 ^ 64 → AreBlocks s l bs
    → lines_of (file_text bs) ≡ file_lines bs
file_text_lines s l bs small are =
    let few = blocks_size 0 bs in
    lines_of-concat (file_lines bs) (blocks_are_lines s l 0 bs (omega arith) are)
