-- The grammar of certificate files. It is taken with the number of segments of each word, and with whether each
-- answer has a label.
use Rattle.std.specs.Prelude.{◌≡◌, ℕ, ◌+◌, ◌^◌, ◌<◌, ◌≤◌, ◌==◌, if◌then◌else◌, Bool, List, [], ◌∷◌, ◌++◌, length, take, IfSome, Result, Ok, Err}
use Rattle.std.specs.List.{AllByRecursion}
use Rattle.std.specs.Global.{Vec}
use Rattle.isax_word.specs.Word.{IsWord}
use Rattle.series_core.specs.declared.pair.Pair.{Pair}
use Rattle.series_core.specs.declared.queue_words.Entry.{Entry}
use Rattle.search_machine.specs.declared.outcome.Start.{Start}
use Rattle.certificate.specs.declared.block.Block.{Block}
use Rattle.certificate.specs.declared.block.LeafLine.{LeafLine}
use Rattle.certificate.specs.declared.error.CertError.{CertError}
use Rattle.certificate.specs.declared.error.CertError.TheVariants.{Line, NoMemory}
use Rattle.certificate.specs.declared.block.Said.{Said}
use Rattle.certificate.specs.declared.block.Said.TheVariants.{Scanned, Bound}
use Rattle.certificate.specs.Spelling.{file_lines, file_text}
use Rattle.search_limits.specs.declared.numbers.TheConstants.{MOST_QUEUES}
use Rattle.series_core.specs.declared.best.TheConstants.{MAX_BEST}

-- a pair whose numbers may be spelled
pub record IsPair (p : Pair) : Type 0 where
  pub number : p.number < 2 ^ 32
  pub distance : p.distance < 2 ^ 64

-- an entry whose numbers may be spelled
pub record IsEntry (e : Entry) : Type 0 where
  pub leaf : e.leaf < 2 ^ 32
  pub bound : e.bound < 2 ^ 64

-- a start whose numbers may be spelled; NONE, the greatest limit, is spelled as a word
pub record IsStart (start : Start) : Type 0 where
  pub leaf : start.leaf < 2 ^ 32
  pub limit : start.limit < 2 ^ 64

-- a bound that may be spelled, where there is one
abbrev pub IsSaid : Said → Type 0
IsSaid Scanned = Unit {0}
IsSaid (Bound bound) = bound < 2 ^ 64

-- a leaf line has a word of `segments` segments
pub record IsLeafLine (segments : ℕ) (leaf : LeafLine) : Type 0 where
  pub size : length leaf.word ≡ segments
  pub word : IsWord leaf.word
  pub said : IsSaid leaf.said

-- A block has at most 1024 answers, one label for each or no label at all, 1 to 64 queues and at most 2^32 leaves.
pub record IsBlock (segments : ℕ) (labelled : Bool) (b : Block) : Type 0 where
  pub few_answers : length b.answers ≤ MAX_BEST
  pub answers : AllByRecursion IsPair b.answers
  pub labels_size : length b.labels ≡ (if labelled then length b.answers else 0)
  pub labels : AllByRecursion (λ label. label < 2 ^ 64) b.labels
  pub start : IfSome b.start IsStart
  pub some_queue : 1 ≤ length b.lines
  pub few_queues : length b.lines ≤ MOST_QUEUES
  pub queues : AllByRecursion (AllByRecursion IsEntry) b.lines
  pub few_leaves : length b.leaves ≤ 2 ^ 32
  pub leaves : AllByRecursion (IsLeafLine segments) b.leaves

-- the blocks of a certificate
abbrev pub AreBlocks : ℕ → Bool → List Block → Type 0
AreBlocks segments labelled blocks = AllByRecursion (IsBlock segments labelled) blocks

-- the bytes are a file of the grammar, and spell these blocks
pub record Spells (segments : ℕ) (labelled : Bool) (bytes : List ℕ) (blocks : List Block) : Type 0 where
  pub are_blocks : AreBlocks segments labelled blocks
  pub text : bytes ≡ file_text blocks

-- a byte put before the first of some lines
abbrev pub before_lines : ℕ → List (List ℕ) → List (List ℕ)
before_lines c [] = (c ∷ []) ∷ []
before_lines c (line ∷ lines) = (c ∷ line) ∷ lines

-- the lines of a text, each with its line feed; a last piece without one is a line too
abbrev pub lines_of : List ℕ → List (List ℕ)
lines_of [] = []
lines_of (c ∷ text) = if c == 10 then (c ∷ []) ∷ lines_of text else before_lines c (lines_of text)

-- these lines begin a file of the grammar
pub record Begins (segments : ℕ) (labelled : Bool) (lines : List (List ℕ)) : Type 0 where
  pub blocks : List Block
  pub more : List (List ℕ)
  pub are_blocks : AreBlocks segments labelled blocks
  pub lines_are : file_lines blocks ≡ lines ++ more

-- `at` is the least number such that the first `at` lines of the bytes begin no file of the grammar. Where there is
-- no such number and the bytes are still no file, since a block is not finished, it is the number of lines plus 1.
pub record IsFaultAt (segments : ℕ) (labelled : Bool) (bytes : List ℕ) (at : ℕ) : Type 0 where
  pub before : (m : ℕ) → m < at → Begins segments labelled (take m (lines_of bytes))
  pub last : at ≤ length (lines_of bytes) + 1
  pub here : at ≤ length (lines_of bytes) → Begins segments labelled (take at (lines_of bytes)) → ⊥
  pub unfinished : at ≡ length (lines_of bytes) + 1 → (blocks : List Block) → Spells segments labelled bytes blocks → ⊥

-- an error of reading: a line that is the fault of the bytes, or that memory ran out
abbrev pub IsRightError : ℕ → Bool → List ℕ → CertError → Type 0
IsRightError segments labelled bytes (Line at) = IsFaultAt segments labelled bytes at
IsRightError segments labelled bytes NoMemory = Unit {0}

-- these blocks are read, unless memory runs out
abbrev pub ReadsAs : Result (Vec Block) CertError → List Block → Type 0
ReadsAs (Ok found) blocks = found.items ≡ blocks
ReadsAs (Err NoMemory) blocks = Unit {0}
ReadsAs (Err (Line at)) blocks = ⊥
