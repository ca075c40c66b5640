-- The fields of a line, read from the front of a text: each reading gives a value and the rest of the text.
use Rattle.std.specs.Prelude.{ℕ, zero, suc, ◌-◌, ◌^◌, ◌==◌, ◌&&◌, ◌≡◌, if◌then◌else◌, Bool, true, false, not, nat_lt, nat_le, List, [], ◌∷◌, ◌++◌, length, take, drop, Option, None, Some, Result, Ok, Err, codes}
use Rattle.std.specs.List.{prefix_len, list_all}
use Rattle.std.specs.Char.{is_ascii_digit}
use Rattle.std.specs.Str.Parse.{digits_value}
use Rattle.isax_word.specs.declared.word.Part.{Part}
use Rattle.series_core.specs.declared.queue_words.Entry.{Entry}
use Rattle.series_core.specs.declared.distance.TheConstants.{NONE}
use Rattle.certificate.specs.declared.block.Said.{Said}
use Rattle.certificate.specs.declared.block.Said.TheVariants.{Scanned, Bound}

infixl 10 ◌>>=◌
-- goes on where something was read
abbrev pub ◌>>=◌ : {X Y : Type 0} → Option X → (X → Option Y) → Option Y
None >>= next = None
(Some x) >>= next = next x

-- what a function returned, seen by view, is what reading gives
abbrev pub Sees : {X Y : Type 0} → (X → Y) → Option X → Option Y → Type 0
Sees view None read = read ≡ None
Sees view (Some x) read = read ≡ Some (view x)

-- what a function that takes memory returned, seen by view, is what reading gives, unless memory ran out
abbrev pub SeesOk : {X Y E : Type 0} → (X → Y) → Result (Option X) E → Option Y → Type 0
SeesOk view (Ok found) read = Sees view found read
SeesOk view (Err e) read = Unit {0}

-- what stands behind a front, where the text begins with it
abbrev pub after : List ℕ → List ℕ → Option (List ℕ)
after [] text = Some text
after (c ∷ front) [] = None
after (c ∷ front) (d ∷ text) = if c == d then after front text else None

-- whether digits are spelled well: there is one, and a 0 stands alone
abbrev pub is_spelled : List ℕ → Bool
is_spelled [] = false
is_spelled (d ∷ digits) = if d == 48 then length digits == 0 else true

-- a number of at most `most`, which is all digits at the front
unfoldable pub number_at : ℕ → List ℕ → Option (ℕ × List ℕ)
number_at most text =
    let size = prefix_len is_ascii_digit text in
    let n = digits_value 10 (take size text) in
    if is_spelled (take size text) && nat_le n most then Some (n, drop size text) else None

-- whether no digit stands at the front
abbrev pub stops : List ℕ → Bool
stops [] = true
stops (c ∷ text) = not (is_ascii_digit c)

-- the line end and nothing behind it
abbrev pub is_end : List ℕ → Bool
is_end [] = false
is_end (c ∷ text) = if c == 10 then length text == 0 else false

-- a value, where its line ends here
abbrev pub ended : {X : Type 0} → X → List ℕ → Option X
ended x text = if is_end text then Some x else None

-- an entry: bound, colon, leaf
unfoldable pub entry_at : List ℕ → Option (Entry × List ℕ)
entry_at text = do
  bound ← number_at (2 ^ 64 - 1) text
  colon ← after (58 ∷ []) bound.1
  leaf ← number_at (2 ^ 32 - 1) colon
  Some (record { bound = bound.0; leaf = leaf.0 }, leaf.1)

-- goes on behind a front where there is one, and else ends with this
abbrev pub behind : {X : Type 0} → Option (List ℕ) → X → (List ℕ → Option X) → Option X
behind None otherwise next = Some otherwise
behind (Some rest) otherwise next = next rest

-- items put before others that are read
abbrev pub with_front : {X : Type 0} → List X → Option (List X × List ℕ) → Option (List X × List ℕ)
with_front front read = read >>= λ x. Some (front ++ x.0, x.1)

-- at most n entries, each behind a space
unfoldable pub entries_at : ℕ → List ℕ → Option (List Entry × List ℕ)
entries_at zero text = Some ([], text)
entries_at (suc n) text =
    behind (after (32 ∷ []) text) ([], text)
    (λ rest. entry_at rest >>= λ entry. with_front (entry.0 ∷ []) (entries_at n entry.1))

-- a part of a word: prefix, colon, number of bits
unfoldable pub part_at : List ℕ → Option (Part × List ℕ)
part_at text = do
  prefix ← number_at 255 text
  colon ← after (58 ∷ []) prefix.1
  bits ← number_at 255 colon
  Some (record { prefix = prefix.0; bits = bits.0 }, bits.1)

-- n parts of a word, each behind a comma
unfoldable pub parts_at : ℕ → List ℕ → Option (List Part × List ℕ)
parts_at zero text = Some ([], text)
parts_at (suc n) text = do
  comma ← after (44 ∷ []) text
  part ← part_at comma
  with_front (part.0 ∷ []) (parts_at n part.1)

-- whether a part keeps 1 to 8 bits, and its prefix has no more
abbrev pub is_part : Part → Bool
is_part part = nat_le 1 part.bits && (nat_le part.bits 8 && nat_lt part.prefix (2 ^ part.bits))

-- `segments` parts of a word, parted by commas
unfoldable pub all_parts_at : ℕ → List ℕ → Option (List Part × List ℕ)
all_parts_at segments text = part_at text >>= λ part. with_front (part.0 ∷ []) (parts_at (segments - 1) part.1)

-- a word of `segments` segments, where its parts make one
unfoldable pub word_at : ℕ → List ℕ → Option (List Part × List ℕ)
word_at segments text = all_parts_at segments text >>= λ word. if list_all is_part word.0 then Some word else None

-- what is said, where it is that the leaf was scanned, and else where it is a bound
abbrev pub said_by : Option (List ℕ) → Option (List ℕ) → Option (Said × List ℕ)
said_by (Some rest) bound = Some (Scanned, rest)
said_by None bound = bound >>= λ rest. number_at (2 ^ 64 - 1) rest >>= λ n. Some (Bound n.0, n.1)

-- what is said of a leaf
unfoldable pub said_at : List ℕ → Option (Said × List ℕ)
said_at text = said_by (after (codes " scanned") text) (after (codes " bound ") text)

-- a limit, where it is none, and else where it is a distance
abbrev pub limit_by : Option (List ℕ) → List ℕ → Option (ℕ × List ℕ)
limit_by (Some rest) text = Some (NONE, rest)
limit_by None text = number_at (2 ^ 64 - 2) text

-- the limit of a start
unfoldable pub limit_at : List ℕ → Option (ℕ × List ℕ)
limit_at text = limit_by (after (codes "none") text) text

-- a space and a label, where answers have labels
unfoldable pub labels_at : Bool → List ℕ → Option (List ℕ × List ℕ)
labels_at false text = Some ([], text)
labels_at true text = do
  space ← after (32 ∷ []) text
  label ← number_at (2 ^ 64 - 1) space
  Some (label.0 ∷ [], label.1)
