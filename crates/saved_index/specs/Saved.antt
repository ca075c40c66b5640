-- What a saved index holds, and the one text that it has.
use Rattle.std.specs.Prelude.{◌≡◌, ℕ, ◌<◌, ◌≤◌, ◌&&◌, true, false, List, [], ◌∷◌, ◌++◌, length, if◌then◌else◌}
use Rattle.std.specs.List.{All, flat_map}
use Rattle.std.specs.List.Sorted.{IsStrictlyIncreasing}
use Rattle.byteorder.specs.Endian.{little_bytes}
use Rattle.breakpoints.specs.declared.table.Table.{Table}
use Rattle.breakpoints.specs.declared.table.Table.TheVariants.{Flat, Bent}
use Rattle.isax_word.specs.declared.word.Part.{Part}
use Rattle.isax_word.specs.Word.{part_at, child_word, one_bit_word}
use Rattle.subtree_build.specs.Assembly.{AreRoots}
use Rattle.subtree_build.specs.Tree.{Tree, absent, leaf, split, is_absent}
use Rattle.series_core.specs.declared.rows.TheConstants.{MAX_COUNT, MAX_LENGTH}

-- what stands before the root children
pub record Header : Type 0 where
  pub segments : ℕ
  pub table : Table
  pub points : ℕ
  pub count : ℕ
  pub leaf_size : ℕ

-- a header within its limits
pub record IsHeader (h : Header) : Type 0 where
  pub some_segments : 1 ≤ h.segments
  pub few_segments : h.segments ≤ 16
  pub no_empty_segment : h.segments ≤ h.points
  pub length_limit : h.points ≤ MAX_LENGTH
  pub count_limit : h.count ≤ MAX_COUNT
  pub some_leaf_size : 1 ≤ h.leaf_size
  pub leaf_size_limit : h.leaf_size ≤ 65535

-- what is saved: the header, and the root numbers and nodes of the root children; a leaf holds the numbers of its series
pub record Saved : Type 0 where
  pub header : Header
  pub roots : List ℕ
  pub nodes : List (Tree (List ℕ))

-- the numbers of a leaf: there are some, they strictly ascend, and each is below the count
pub record AreNumbers (count : ℕ) (numbers : List ℕ) : Type 0 where
  pub some : 1 ≤ length numbers
  pub ascend : IsStrictlyIncreasing numbers
  pub below : All (λ n. n < count) numbers

-- a split of a word is in a segment of it that has a bit left, and has a child
pub record CanSplit (word : List Part) (segment : ℕ) (low high : Tree (List ℕ)) : Type 0 where
  pub used : segment < length word
  pub divisible : (part_at word segment).bits < 8
  pub some_child : (is_absent low && is_absent high) ≡ false

-- a node of a word can be saved
abbrev pub IsNode : ℕ → List Part → Tree (List ℕ) → Type 0
IsNode count word absent = Unit {0}
IsNode count word (leaf numbers) = AreNumbers count numbers
IsNode count word (split segment low high) =
    CanSplit word segment low high
    × IsNode count (child_word word segment false) low
    × IsNode count (child_word word segment true) high

-- a node that is there
pub record IsRootNode (count : ℕ) (word : List Part) (t : Tree (List ℕ)) : Type 0 where
  pub there : is_absent t ≡ false
  pub node : IsNode count word t

-- each root number has a node of its one-bit word
abbrev pub AreRootNodes : ℕ → ℕ → List ℕ → List (Tree (List ℕ)) → Type 0
AreRootNodes segments count [] [] = Unit {0}
AreRootNodes segments count [] (t ∷ nodes) = ⊥
AreRootNodes segments count (root ∷ roots) [] = ⊥
AreRootNodes segments count (root ∷ roots) (t ∷ nodes) =
    IsRootNode count (one_bit_word root segments) t × AreRootNodes segments count roots nodes

-- what has a text
pub record IsSaved (s : Saved) : Type 0 where
  pub header : IsHeader s.header
  pub roots : AreRoots s.header.segments s.roots
  pub nodes : AreRootNodes s.header.segments s.header.count s.roots s.nodes

-- the four bytes that a saved index begins with: `ISEX`
abbrev pub magic : List ℕ
magic = 73 ∷ 83 ∷ 69 ∷ 88 ∷ []

-- the byte of a table
abbrev pub table_byte : Table → ℕ
table_byte Flat = 0
table_byte Bent = 1

-- the header, with the number of root children
abbrev pub header_text : Header → ℕ → List ℕ
header_text h roots =
    magic ++ (little_bytes 2 1 ++ (h.segments ∷ table_byte h.table ∷ (little_bytes 4 h.points
    ++ (little_bytes 4 h.count ++ (little_bytes 4 h.leaf_size ++ little_bytes 4 roots)))))

-- the byte of a split: 1 with a low child alone, 2 with a high child alone, 3 with both
abbrev pub split_byte : Tree (List ℕ) → Tree (List ℕ) → ℕ
split_byte low high = if is_absent high then 1 else (if is_absent low then 2 else 3)

-- numbers, of four bytes each
abbrev pub numbers_text : List ℕ → List ℕ
numbers_text numbers = flat_map (little_bytes 4) numbers

-- a node: a leaf is 0, the count of its numbers, and these; a split its byte, its segment, and its children
abbrev pub node_text : Tree (List ℕ) → List ℕ
node_text absent = []
node_text (leaf numbers) = 0 ∷ (little_bytes 4 (length numbers) ++ numbers_text numbers)
node_text (split segment low high) = split_byte low high ∷ segment ∷ (node_text low ++ node_text high)

-- the root children, each its root number and its node
abbrev pub roots_text : List ℕ → List (Tree (List ℕ)) → List ℕ
roots_text [] nodes = []
roots_text (root ∷ roots) [] = []
roots_text (root ∷ roots) (t ∷ nodes) = little_bytes 4 root ++ (node_text t ++ roots_text roots nodes)

-- the whole text
abbrev pub text : Saved → List ℕ
text s = header_text s.header (length s.roots) ++ roots_text s.roots s.nodes

-- the bytes are the text of what is saved
pub record IsTextOf (bytes : List ℕ) (s : Saved) : Type 0 where
  pub sound : IsSaved s
  pub spelled : bytes ≡ text s
