-- In which segment a node is split: that of the least triple of unevenness, number of bits and segment number,
-- among the segments of fewer than eight bits. The triples are compared in that order.
use Rattle.std.specs.Prelude.{◌≡◌, ℕ, ◌<◌, ◌≤◌, false, Option, Some, None, if◌then◌else◌, ◌*◌, ◌==◌, ◌&&◌, ◌||◌, not, Bool, List, length, nat_lt, count_by, unwrap_or, find}
use Rattle.std.specs.List.{list_all, range_with_len}
use Rattle.isax_word.specs.declared.word.Part.{Part}
use Rattle.isax_word.specs.Word.{part_at, next_bit_at}
use Rattle.series_core.specs.Distance.{apart}
use Rattle.isax_word.specs.declared.member.Member.{Member}
use Rattle.subtree_build.specs.declared.split.Triple.{Triple}

-- whether the next bit of a member's symbol in segment j, behind those that the word has, is 1
abbrev pub goes_high : List Part → ℕ → Member → Bool
goes_high word j m = next_bit_at word m.full j == 1

-- whether that bit is not 1
abbrev pub goes_low : List Part → ℕ → Member → Bool
goes_low word j m = not (goes_high word j m)

-- how unevenly a split in segment j divides the members: twice the members of the high child against all
abbrev pub unevenness : List Part → List Member → ℕ → ℕ
unevenness word members j = apart (2 * count_by (goes_high word j) members) (length members)

-- the triple of segment j
abbrev pub triple_of : List Part → List Member → ℕ → Triple
triple_of word members j = record {
  unevenness = unevenness word members j;
  bits = (part_at word j).bits;
  segment = j;
}

-- whether a triple is less than another: the first of their numbers that differ decides
abbrev pub is_less : Triple → Triple → Bool
is_less a b =
    nat_lt a.unevenness b.unevenness
    || (a.unevenness == b.unevenness
    && (nat_lt a.bits b.bits || (a.bits == b.bits && nat_lt a.segment b.segment)))

-- whether a word has fewer than eight bits in segment j
abbrev pub is_divisible : List Part → ℕ → Bool
is_divisible word j = nat_lt (part_at word j).bits 8

-- whether segment i may be split and has a lesser triple than j
abbrev pub is_better : List Part → List Member → ℕ → ℕ → Bool
is_better word members i j =
    is_divisible word i && is_less (triple_of word members i) (triple_of word members j)

-- whether segment j may be split and no segment is better
abbrev pub is_best : List Part → List Member → ℕ → Bool
is_best word members j =
    is_divisible word j
    && list_all (λ i. not (is_better word members i j)) (range_with_len 0 (length word))

-- the segment in which a node of this word and these members is split
unfoldable pub split_segment : List Part → List Member → ℕ
split_segment word members =
    unwrap_or (find (is_best word members) (range_with_len 0 (length word))) 0

-- no one of the first n segments of a word can be split
abbrev pub NoneDivisible : List Part → ℕ → Type 0
NoneDivisible word n = (j : ℕ) → j < n → 8 ≤ (part_at word j).bits

-- the triple is that of one of the first n segments that can be split, and no other of them has a lesser one
pub record IsBestOf (word : List Part) (members : List Member) (n : ℕ) (t : Triple) : Type 0 where
  pub among : t.segment < n
  pub is : t ≡ triple_of word members t.segment
  pub divisible : (part_at word t.segment).bits < 8
  pub least : (i : ℕ) → i < n → (part_at word i).bits < 8
      → is_less (triple_of word members i) t ≡ false

-- the lesser of two triples, of which the first may be missing
abbrev pub lesser_of : Option Triple → Triple → Triple
lesser_of None t = t
lesser_of (Some best) t = if is_less t best then t else best

-- a node of this word and these members is not a leaf, and is split in segment j
pub record IsSplitOf (leaf_size : ℕ) (word : List Part) (members : List Member) (j : ℕ) : Type 0 where
  pub many : leaf_size < length members
  pub used : j < length word
  pub divisible : (part_at word j).bits < 8
  pub is_segment : j ≡ split_segment word members
