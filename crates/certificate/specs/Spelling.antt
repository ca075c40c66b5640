-- How a certificate is spelled, line by line: fields are parted by one space, and each line ends with a line feed.
-- Numbers are plain decimals, so each list of blocks has one spelling.
use Rattle.std.specs.Prelude.{ℕ, ◌+◌, ◌==◌, if◌then◌else◌, List, [], ◌∷◌, ◌++◌, drop, Option, None, Some, codes, decimal}
use Rattle.std.specs.List.{concat}
use Rattle.isax_word.specs.declared.word.Part.{Part}
use Rattle.series_core.specs.declared.pair.Pair.{Pair}
use Rattle.series_core.specs.declared.queue_words.Entry.{Entry}
use Rattle.series_core.specs.declared.distance.TheConstants.{NONE}
use Rattle.search_machine.specs.declared.outcome.Start.{Start}
use Rattle.certificate.specs.declared.block.Block.{Block}
use Rattle.certificate.specs.declared.block.LeafLine.{LeafLine}
use Rattle.certificate.specs.declared.block.Said.{Said}
use Rattle.certificate.specs.declared.block.Said.TheVariants.{Scanned, Bound}

-- the line feed at the end of a line
abbrev pub line_end : List ℕ
line_end = 10 ∷ []

-- the line of query i
abbrev pub query_line : ℕ → List ℕ
query_line i = codes "query " ++ (decimal i ++ line_end)

-- a space and a label: the first of these, where there is one
abbrev pub label_text : List ℕ → List ℕ
label_text [] = []
label_text (label ∷ labels) = 32 ∷ decimal label

-- the line of the answer of rank r: rank, number, distance, and the first of these labels
abbrev pub answer_line : ℕ → Pair → List ℕ → List ℕ
answer_line r p labels =
    decimal r ++ (32 ∷ (decimal p.number ++ (32 ∷ (decimal p.distance ++ (label_text labels ++ line_end)))))

-- a limit: its distance, or `none` where it is NONE
abbrev pub limit_text : ℕ → List ℕ
limit_text limit = if limit == NONE then codes "none" else decimal limit

-- the line of the start: leaf and limit, or `none` where there is no leaf
abbrev pub start_line : Option Start → List ℕ
start_line None = codes "start none" ++ line_end
start_line (Some start) = codes "start " ++ (decimal start.leaf ++ (32 ∷ (limit_text start.limit ++ line_end)))

-- the entries of a queue, each a space, its bound, a colon and its leaf
abbrev pub entries_text : List Entry → List ℕ
entries_text [] = []
entries_text (e ∷ entries) = 32 ∷ (decimal e.bound ++ (58 ∷ (decimal e.leaf ++ entries_text entries)))

-- the line of queue m
abbrev pub queue_line : ℕ → List Entry → List ℕ
queue_line m entries = codes "queue " ++ (decimal m ++ (entries_text entries ++ line_end))

-- a part of a word: its prefix, a colon and its number of bits
abbrev pub part_text : Part → List ℕ
part_text part = decimal part.prefix ++ (58 ∷ decimal part.bits)

-- further parts of a word, each behind a comma
abbrev pub parts_text : List Part → List ℕ
parts_text [] = []
parts_text (part ∷ parts) = 44 ∷ (part_text part ++ parts_text parts)

-- a word: its parts, parted by commas
abbrev pub word_text : List Part → List ℕ
word_text [] = []
word_text (part ∷ parts) = part_text part ++ parts_text parts

-- what is said of a leaf
abbrev pub said_text : Said → List ℕ
said_text Scanned = codes " scanned"
said_text (Bound bound) = codes " bound " ++ decimal bound

-- the line of leaf l
abbrev pub leaf_line : ℕ → LeafLine → List ℕ
leaf_line l leaf =
    codes "leaf " ++ (decimal l ++ (codes " word " ++ (word_text leaf.word ++ (said_text leaf.said ++ line_end))))

-- the lines of answers, the first of them of rank r, each with its label where there are labels
abbrev pub answer_lines : ℕ → List Pair → List ℕ → List (List ℕ)
answer_lines r [] labels = []
answer_lines r (p ∷ ps) labels = answer_line r p labels ∷ answer_lines (r + 1) ps (drop 1 labels)

-- the lines of queues, the first of them with number m
abbrev pub queue_lines : ℕ → List (List Entry) → List (List ℕ)
queue_lines m [] = []
queue_lines m (entries ∷ lines) = queue_line m entries ∷ queue_lines (m + 1) lines

-- the lines of leaves, the first of them with number l
abbrev pub leaf_lines : ℕ → List LeafLine → List (List ℕ)
leaf_lines l [] = []
leaf_lines l (leaf ∷ leaves) = leaf_line l leaf ∷ leaf_lines (l + 1) leaves

-- the lines of block i: query, answers, start, queues, leaves
abbrev pub block_lines : ℕ → Block → List (List ℕ)
block_lines i b =
    query_line i ∷ (answer_lines 1 b.answers b.labels
    ++ (start_line b.start ∷ (queue_lines 0 b.lines ++ leaf_lines 0 b.leaves)))

-- the lines of blocks, the first of them with number i
abbrev pub lines_from : ℕ → List Block → List (List ℕ)
lines_from i [] = []
lines_from i (b ∷ blocks) = block_lines i b ++ lines_from (i + 1) blocks

-- the lines of a certificate with these blocks
abbrev pub file_lines : List Block → List (List ℕ)
file_lines blocks = lines_from 0 blocks

-- the whole text of a certificate with these blocks
abbrev pub file_text : List Block → List ℕ
file_text blocks = concat (file_lines blocks)
