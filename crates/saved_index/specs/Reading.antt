-- What bytes are read as: from the front, part by part, each with what is left behind it; none where they are not so spelled.
use Rattle.std.specs.Prelude.{ℕ, zero, suc, ◌+◌, ◌^◌, ◌&&◌, ◌==◌, not, nat_le, nat_lt, Bool, true, false, List, [], ◌∷◌, length, take, drop, slice_index, Option, Some, None, if◌then◌else◌}
use Rattle.std.specs.Str.{bytes_eq}
use Rattle.byteorder.specs.Endian.{little_number}
use Rattle.breakpoints.specs.declared.table.Table.{Table}
use Rattle.breakpoints.specs.declared.table.Table.TheVariants.{Flat, Bent}
use Rattle.isax_word.specs.declared.word.Part.{Part}
use Rattle.isax_word.specs.Word.{part_at, child_word, one_bit_word}
use Rattle.subtree_build.specs.Division.{bits_left}
use Rattle.subtree_build.specs.Tree.{Tree, absent, leaf, split}
use Rattle.saved_index.specs.Saved.{Header, Saved}
use Rattle.series_core.specs.declared.rows.TheConstants.{MAX_COUNT, MAX_LENGTH}

-- what was read, and what is left
abbrev pub Read : Type 0 → Type 0
Read A = Option (A × List ℕ)

-- read on behind what was read
abbrev pub then_read : {A B : Type 0} → Read A → (A → List ℕ → Read B) → Read B
then_read None f = None
then_read (Some p) f = f p.0 p.1

-- as many numbers of four bytes as asked for, each at least one above the one before, the first at least `from`, and all below the count
unfoldable pub numbers_in : ℕ → ℕ → ℕ → List ℕ → Read (List ℕ)
numbers_in zero from count bytes = Some ([], bytes)
numbers_in (suc k) from count bytes =
    let n = little_number 4 bytes in
    if nat_le 4 (length bytes) && (nat_le from n && nat_lt n count)
    then then_read (numbers_in k (n + 1) count (drop 4 bytes)) (λ ns rest. Some (n ∷ ns, rest))
    else None

-- a leaf: the count of its numbers, at least 1, and these
abbrev pub leaf_in : ℕ → List ℕ → Read (Tree (List ℕ))
leaf_in count bytes =
    if nat_le 4 (length bytes) && nat_le 1 (little_number 4 bytes)
    then then_read (numbers_in (little_number 4 bytes) 0 count (drop 4 bytes)) (λ ns rest. Some (leaf ns, rest))
    else None

-- a child where there is one
abbrev pub child_in : Bool → (List ℕ → Read (Tree (List ℕ))) → List ℕ → Read (Tree (List ℕ))
child_in true read bytes = read bytes
child_in false read bytes = Some (absent, bytes)

-- whether a split of this byte can be in this segment of a word
abbrev pub is_split_of : List Part → ℕ → ℕ → Bool
is_split_of word kind segment =
    nat_le kind 3 && (nat_lt segment (length word) && nat_lt (part_at word segment).bits 8)

-- a node of a word that lacks `lacking` bits: a leaf behind 0, and else a split, with a low child unless its byte is 2 and a
-- high child unless it is 1
unfoldable pub node_in : ℕ → ℕ → List Part → List ℕ → Read (Tree (List ℕ))
node_in lacking count word [] = None
node_in lacking count word (zero ∷ bytes) = leaf_in count bytes
node_in lacking count word (suc kind ∷ []) = None
node_in zero count word (suc kind ∷ j ∷ bytes) = None
node_in (suc lacking) count word (suc kind ∷ j ∷ bytes) =
    if is_split_of word (suc kind) j
    then then_read (child_in (not (suc kind == 2)) (node_in lacking count (child_word word j false)) bytes) (λ low rest.
    then_read (child_in (not (suc kind == 1)) (node_in lacking count (child_word word j true)) rest) (λ high end.
    Some (split j low high, end)))
    else None

-- as many root children as asked for, each a root number of `segments` segments, at least one above the one before, and its node
unfoldable pub roots_in : ℕ → ℕ → ℕ → ℕ → List ℕ → Read (List ℕ × List (Tree (List ℕ)))
roots_in zero from segments count bytes = Some (([], []), bytes)
roots_in (suc k) from segments count bytes =
    let root = little_number 4 bytes in
    let word = one_bit_word root segments in
    if nat_le 4 (length bytes) && (nat_le from root && nat_lt root (2 ^ segments))
    then then_read (node_in (bits_left word) count word (drop 4 bytes)) (λ t rest.
    then_read (roots_in k (root + 1) segments count rest) (λ more end.
    Some ((root ∷ more.0, t ∷ more.1), end)))
    else None

-- the table of a byte
abbrev pub table_of : ℕ → Table
table_of n = if n == 0 then Flat else Bent

-- the fields of a header
abbrev pub header_at : List ℕ → Header
header_at bytes = record {
  segments = slice_index bytes 6;
  table = table_of (slice_index bytes 7);
  points = little_number 4 (drop 8 bytes);
  count = little_number 4 (drop 12 bytes);
  leaf_size = little_number 4 (drop 16 bytes);
}

-- whether a header keeps its limits
abbrev pub is_header : Header → Bool
is_header h =
    nat_le 1 h.segments && (nat_le h.segments 16 && (nat_le h.segments h.points && (nat_le h.points MAX_LENGTH
    && (nat_le h.count MAX_COUNT && (nat_le 1 h.leaf_size && nat_le h.leaf_size 65535)))))

-- whether the bytes begin with a header
abbrev pub has_header : List ℕ → Bool
has_header bytes =
    nat_le 24 (length bytes) && (bytes_eq (take 6 bytes) (73 ∷ 83 ∷ 69 ∷ 88 ∷ 1 ∷ 0 ∷ [])
    && (nat_le (slice_index bytes 7) 1 && is_header (header_at bytes)))

-- a header and root children, where nothing is left behind them
abbrev pub at_end : Header → List ℕ × List (Tree (List ℕ)) → List ℕ → Option Saved
at_end h found [] = Some (record { header = h; roots = found.0; nodes = found.1 })
at_end h found (b ∷ rest) = None

-- the same, where the root children were read
abbrev pub whole : Header → Read (List ℕ × List (Tree (List ℕ))) → Option Saved
whole h None = None
whole h (Some p) = at_end h p.0 p.1

-- the root children of a header
abbrev pub roots_behind : Header → List ℕ → Read (List ℕ × List (Tree (List ℕ)))
roots_behind h bytes = roots_in (little_number 4 (drop 20 bytes)) 0 h.segments h.count (drop 24 bytes)

-- what the bytes are the text of
abbrev pub saved_in : List ℕ → Option Saved
saved_in bytes =
    if has_header bytes then whole (header_at bytes) (roots_behind (header_at bytes) bytes) else None
