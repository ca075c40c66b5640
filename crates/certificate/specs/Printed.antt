-- What a certificate says of a search, behind the answers of a query, and when that is right: it speaks of the tree
-- that the definition divides the series into, and of no machine.
use Rattle.std.specs.Prelude.{◌≡◌, ◌≢◌, ℕ, ◌-◌, ◌<◌, ◌≤◌, ◌⊎◌, List, [], ◌∷◌, ◌++◌, Option, Some, IsSomeAnd, length, map, slice_get}
use Rattle.std.specs.List.{concat}
use Rattle.list_totals.specs.Standing.{In}
use Rattle.list_totals.specs.Totals.{total}
use Rattle.series_core.specs.Answer.{answer}
use Rattle.series_core.specs.declared.queue_words.Entry.{Entry}
use Rattle.subtree_build.specs.Fits.{IsTreeOf}
use Rattle.subtree_build.specs.Index.{IndexParts, IsIndex}
use Rattle.subtree_build.specs.declared.leaf.TreeLeaf.{TreeLeaf}
use Rattle.search_machine.specs.Basics.{EntryRight, Ordered, entered, start_of}
use Rattle.search_machine.specs.Ground.{Ground}
use Rattle.search_machine.specs.Legal.{IsStraight, Legal}
use Rattle.search_machine.specs.declared.outcome.Fate.{Fate}
use Rattle.search_machine.specs.declared.outcome.Fate.TheVariants.{Bound as BoundFate}
use Rattle.search_machine.specs.declared.outcome.Outcome.{Outcome}
use Rattle.search_machine.specs.declared.outcome.QueueLine.{QueueLine}
use Rattle.search_machine.specs.declared.outcome.Start.{Start}
use Rattle.search_task.specs.Questions.{IsQuestion, Question, search_over}
use Rattle.certificate.specs.Spelling.{start_line, queue_lines, leaf_lines}
use Rattle.certificate.specs.declared.block.Block.{Block}
use Rattle.certificate.specs.declared.block.LeafLine.{LeafLine}
use Rattle.certificate.specs.declared.block.Said.{Said}
use Rattle.certificate.specs.declared.block.Said.TheVariants.{Scanned, Bound}

-- what is said of a search: where it started, the entries that were taken from each queue, and each leaf
pub record SearchSaid : Type 0 where
  pub start : Option Start
  pub queues : List (List Entry)
  pub leaves : List LeafLine

-- the lines that say it
abbrev pub search_lines : SearchSaid → List (List ℕ)
search_lines s = start_line s.start ∷ (queue_lines 0 s.queues ++ leaf_lines 0 s.leaves)

-- the text of these lines
abbrev pub search_text : SearchSaid → List ℕ
search_text s = concat (search_lines s)

-- what a block says of its search
abbrev pub search_in : Block → SearchSaid
search_in b = record { start = b.start; queues = b.lines; leaves = b.leaves }

-- how often leaf l stands in the lines of queues
abbrev pub times_taken : ℕ → List (List Entry) → ℕ
times_taken l queues = total (entered l) queues

-- there is a pair of rank k, and the bound is strictly above its distance
abbrev pub IsAboveLast : Question → ℕ → Type 0
IsAboveLast a bound =
    IsSomeAnd (slice_get (answer a.collection a.query a.k) (a.k - 1)) (λ p. p.distance < bound)

-- What is said of leaf l is right. Scanned: it is the start leaf, or stands in a queue line. A bound: it is not the
-- start leaf and stands in no queue line, and the bound is its own, strictly above the distance of the pair of rank k.
abbrev pub IsRightlySaid : Question → Ground → List (List Entry) → ℕ → Said → Type 0
IsRightlySaid a g queues l Scanned = (g.start ≡ Some l) ⊎ (0 < times_taken l queues)
IsRightlySaid a g queues l (Bound bound) =
    (g.start ≢ Some l) × (times_taken l queues ≡ 0) × (bound ≡ g.bound l) × IsAboveLast a bound

-- what is said of the search of an index for a question, over `queues` queues, is right
pub record IsRight (a : Question) (queues : ℕ) (ix : IndexParts) (s : SearchSaid) : Type 0 where
  -- the start is the start leaf with the distance of the k-th of its members' pairs
  pub start : s.start ≡ start_of (search_over a ix 1 queues)
  -- there is one line a queue, and its entries ascend by bound and leaf; each entry of line m is a leaf other than the
  -- start leaf that belongs to queue m, with its bound, which is not above the limit of the start; no leaf stands twice
  pub queue_count : length s.queues ≡ queues
  pub ascending : (m : ℕ) (es : List Entry) → slice_get s.queues m ≡ Some es → Ordered es
  pub entries : (m : ℕ) (es : List Entry) → slice_get s.queues m ≡ Some es
      → (e : Entry) → In e es → EntryRight (search_over a ix 1 queues) m e
  pub once : (l : ℕ) → times_taken l s.queues ≤ 1
  -- each leaf stands once, in order, with its word, and what is said of it is right
  pub words : map (λ leaf. leaf.word) s.leaves ≡ map (λ leaf. leaf.word) ix.leaves
  pub said : (l : ℕ) (leaf : LeafLine) → slice_get s.leaves l ≡ Some leaf
      → IsRightlySaid a (search_over a ix 1 queues) s.queues l leaf.said

-- these lines certify the answers to a question, by a search over `queues` queues of the tree that the definition
-- divides the collection into with this leaf size
pub record Certifies (a : Question) (leaf_size queues : ℕ) (s : SearchSaid) : Type 0 where
  pub index : IndexParts
  pub is_index : IsIndex index
  pub is_tree : IsTreeOf a.collection a.layout leaf_size index
  pub right : IsRight a queues index s

-- the text is that of lines that certify the answers
abbrev pub IsCertificate : Question → ℕ → ℕ → List ℕ → Type 0
IsCertificate a leaf_size queues text =
    (s : SearchSaid) × Certifies a leaf_size queues s × (text ≡ search_text s)

-- what is said of a leaf of this fate
abbrev pub said_of : Fate → Said
said_of (BoundFate bound) = Bound bound
said_of _ = Scanned

-- the line of a leaf of this fate
abbrev pub leaf_said : TreeLeaf → Fate → LeafLine
leaf_said leaf fate = record { word = leaf.word; said = said_of fate }

-- leaves with what is said of those of these fates
abbrev pub leaves_said : List TreeLeaf → List Fate → List LeafLine
leaves_said leaves [] = []
leaves_said [] (fate ∷ fates) = []
leaves_said (leaf ∷ leaves) (fate ∷ fates) =
    leaf_said leaf fate ∷ leaves_said leaves fates

-- the entries of each line
abbrev pub entries_taken : List QueueLine → List (List Entry)
entries_taken lines = map (λ line. line.taken) lines

-- what an outcome says of the search of an index
abbrev pub outcome_said : IndexParts → Outcome → SearchSaid
outcome_said ix o = record {
  start = o.start;
  queues = entries_taken o.lines;
  leaves = leaves_said ix.leaves o.fates;
}

-- the text certifies the answers to each question that the index is the tree for, and the outcome legal and straight
abbrev pub CertifiesWhereLegal : IndexParts → Outcome → List ℕ → Type 0
CertifiesWhereLegal ix o text = (a : Question) (leaf_size workers queues : ℕ) → IsQuestion a
    → IsTreeOf a.collection a.layout leaf_size ix → Legal (search_over a ix workers queues) o → IsStraight o
    → IsCertificate a leaf_size queues text
