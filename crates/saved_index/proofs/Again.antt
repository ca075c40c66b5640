-- What has a text is read back from it, whatever stands behind: numbers (`numbers_again`), nodes (`node_again`), root children
-- (`roots_again`), and the whole (`saved_again`); so bytes are the text of one thing alone (`one_text`).
use Rattle.std.proofs.Common.{◌≡◌, ℕ, suc, ◌+◌, ◌^◌, ◌<◌, ◌≤◌, Bool, true, false, List, [], ◌∷◌, ◌++◌, length, get_or, Some, None, refl, sym, ap, ◌∙◌, subst, ⊎_elim, inl, inr, arith, append_assoc, append-nil, All}
use Rattle.std.specs.Prelude.{◌⊎◌, if◌then◌else◌, ◌&&◌, ◌==◌, not, nat_le}
use Rattle.std.specs.List.Sorted.{IsStrictlyIncreasing}
use Rattle.std.proofs.lemmas.Bool.{cond-true, cases_Bool, true≢false}
use Rattle.std.proofs.lemmas.Bool.Decides.{nat_tests}
use Rattle.std.proofs.lemmas.List.Elements.{All-head, All-tail}
use Rattle.std.proofs.lemmas.Option.{same_Some}
use Rattle.std.proofs.Math.Nat.{pow-le-pow_right}
use Rattle.byteorder.specs.Endian.{little_bytes, little_number}
use Rattle.byteorder.specs.Numbers.{little_number-reads_back}
use Rattle.isax_word.specs.declared.word.Part.{Part}
use Rattle.isax_word.specs.Word.{child_word, one_bit_word}
use Rattle.subtree_build.specs.Division.{bits_left}
use Rattle.subtree_build.specs.Tree.{Tree, absent, leaf, split, is_absent}
use Rattle.breakpoints.specs.declared.table.Table.{Table}
use Rattle.breakpoints.specs.declared.table.Table.TheVariants.{Flat, Bent}
use Rattle.saved_index.specs.Saved.{Header, IsHeader, Saved, IsSaved, IsTextOf, AreNumbers, IsNode, AreRootNodes, header_text, split_byte, numbers_text, node_text, roots_text, table_byte, text}
use Rattle.saved_index.specs.Reading.{Read, then_read, child_in, leaf_in, numbers_in, node_in, roots_in, table_of, header_at, is_header, has_header, roots_behind, saved_in, whole}
use Rattle.saved_index.proofs.NumbersRead.{is_next, next_in}
use Rattle.saved_index.proofs.NodesRead.{then_is, node_leaf, node_split, both_read}
use Rattle.saved_index.proofs.RootsRead.{is_root, root_in, before}

-- a number is read back from its bytes
pub number_again : (n : ℕ) (rest : List ℕ) → n < 2 ^ 32 → little_number 4 (little_bytes 4 n ++ rest) ≡ n
number_again n rest fits = little_number-reads_back 4 n rest (omega (arith, fits))

-- numbers that strictly ascend from one on, all below another
abbrev pub Ascend : ℕ → ℕ → List ℕ → Type 0
Ascend from count [] = Unit {0}
Ascend from count (n ∷ numbers) = (from ≤ n) × (n < count) × Ascend (n + 1) count numbers

-- numbers behind the first of those that strictly ascend
tail_ascends : (n : ℕ) (numbers : List ℕ) → IsStrictlyIncreasing (n ∷ numbers) → IsStrictlyIncreasing numbers
tail_ascends n numbers up k inside =
    let next : suc k + 1 ≡ suc (k + 1) = omega arith in
    let P : ℕ → Type 0 = λ j. get_or (n ∷ numbers) (suc k) 0 < get_or (n ∷ numbers) j 0 in
    subst P next (up (suc k) (omega (arith, inside)))

-- so they ascend from any number on that is at most the first
pub ascend_from : (from count : ℕ) (numbers : List ℕ) → IsStrictlyIncreasing numbers → All (λ n. n < count) numbers
    → (0 < length numbers → from ≤ get_or numbers 0 0) → Ascend from count numbers
ascend_from from count [] up below first = tt
ascend_from from count (n ∷ numbers) up below first = (
  first (omega arith),
  All-head (λ m. m < count) n numbers below,
  ascend_from (n + 1) count numbers (tail_ascends n numbers up) (All-tail (λ m. m < count) n numbers below)
      (λ some. omega (arith, up 0 (omega (arith, some)))),
)

pub numbers_again : (numbers : List ℕ) (from count : ℕ) (rest : List ℕ) → count ≤ 2 ^ 32 → Ascend from count numbers
    → numbers_in (length numbers) from count (numbers_text numbers ++ rest) ≡ Some (numbers, rest)
unfolding numbers_in
numbers_again [] from count rest few up = refl
numbers_again (n ∷ numbers) from count rest few up =
    let bytes = numbers_text (n ∷ numbers) ++ rest in
    let behind = numbers_text numbers ++ rest in
    let is : little_number 4 bytes ≡ n = number_again n behind (omega (arith, up.1, few)) in
    let low = up.0 in
    let high = up.1 in
    let long : 4 ≤ length bytes = omega arith in
    let passes : is_next from count bytes ≡ true = grind (arith, nat_tests) in
    next_in (length numbers) from count bytes passes
    ∙ ap (λ k. then_read (numbers_in (length numbers) (k + 1) count behind) (λ ns end. Some (k ∷ ns, end))) is
    ∙ then_is _ (λ ns end. Some (n ∷ ns, end)) (numbers, rest) (numbers_again numbers (n + 1) count rest few up.2)

-- there are no more numbers than the count
pub few_numbers : (numbers : List ℕ) (from count : ℕ) → Ascend from count numbers → length numbers + from ≤ count ⊎ (length numbers ≡ 0)
few_numbers [] from count up = inr refl
few_numbers (n ∷ numbers) from count up =
    ⊎_elim (λ fits. inl (omega (arith, fits, up.0))) (λ none. inl (omega (arith, none, up.0, up.1)))
    (few_numbers numbers (n + 1) count up.2)

pub leaf_again : (numbers : List ℕ) (count : ℕ) (rest : List ℕ) → count < 2 ^ 32 → AreNumbers count numbers
    → leaf_in count (little_bytes 4 (length numbers) ++ (numbers_text numbers ++ rest)) ≡ Some (leaf numbers, rest)
leaf_again numbers count rest few are =
    let up = ascend_from 0 count numbers are.ascend are.below (λ some. omega arith) in
    let bytes = little_bytes 4 (length numbers) ++ (numbers_text numbers ++ rest) in
    let short : length numbers < 2 ^ 32 = ⊎_elim (λ fits. omega (arith, fits, few)) (λ none. omega (arith, none)) (few_numbers numbers 0 count up) in
    let is : little_number 4 bytes ≡ length numbers = number_again (length numbers) (numbers_text numbers ++ rest) short in
    let some = are.some in
    let long : 4 ≤ length bytes = omega arith in
    let passes : (nat_le 4 (length bytes) && nat_le 1 (little_number 4 bytes)) ≡ true = grind (arith, nat_tests) in
    cond-true (nat_le 4 (length bytes) && nat_le 1 (little_number 4 bytes)) _ None passes
    ∙ ap (λ k. then_read (numbers_in k 0 count (numbers_text numbers ++ rest)) (λ ns end. Some (leaf ns, end))) is
    ∙ then_is _ (λ ns end. Some (leaf ns, end)) (numbers, rest) (numbers_again numbers 0 count rest (omega (arith, few)) up)

-- the byte of a split says which children it has
low_told : (a b : Bool) → (a && b) ≡ false → not ((if b then 1 else (if a then 2 else 3)) == 2) ≡ not a
low_told true true none = absurd (true≢false none)
low_told true false none = refl
low_told false true none = refl
low_told false false none = refl

high_told : (a b : Bool) → (a && b) ≡ false → not ((if b then 1 else (if a then 2 else 3)) == 1) ≡ not b
high_told true true none = absurd (true≢false none)
high_told true false none = refl
high_told false true none = refl
high_told false false none = refl

byte_some : (a b : Bool) → (1 ≤ (if b then 1 else (if a then 2 else 3))) × ((if b then 1 else (if a then 2 else 3)) ≤ 3)
byte_some true true = (omega arith, omega arith)
byte_some true false = (omega arith, omega arith)
byte_some false true = (omega arith, omega arith)
byte_some false false = (omega arith, omega arith)

-- a node that is there is read back, and so is a child
pub node_again : (count : ℕ) (word : List Part) (t : Tree (List ℕ)) (rest : List ℕ) → count < 2 ^ 32 → is_absent t ≡ false
    → IsNode count word t → node_in (bits_left word) count word (node_text t ++ rest) ≡ Some (t, rest)
node_again count word absent rest few there is = absurd (true≢false there)
node_again count word (leaf numbers) rest few there is =
    node_leaf (bits_left word) count word ((little_bytes 4 (length numbers) ++ numbers_text numbers) ++ rest)
    ∙ leaf_again numbers count rest few is
node_again count word (split j low high) rest few there is =
    let a = is_absent low in
    let b = is_absent high in
    let kind = split_byte low high in
    let byte = byte_some a b in
    let low_word = child_word word j false in
    let high_word = child_word word j true in
    let parted : (node_text low ++ node_text high) ++ rest ≡ node_text low ++ (node_text high ++ rest)
    = append_assoc (node_text low) (node_text high) rest in
    let first : child_in (not a) (node_in (bits_left low_word) count low_word) (node_text low ++ (node_text high ++ rest))
    ≡ Some (low, node_text high ++ rest)
    = ⊎_elim
    (λ (gone : a ≡ true). ap (λ x. child_in (not x) (node_in (bits_left low_word) count low_word) (node_text low ++ (node_text high ++ rest))) gone
    ∙ absent_again low (node_text high ++ rest) gone)
    (λ (here : a ≡ false). ap (λ x. child_in (not x) (node_in (bits_left low_word) count low_word) (node_text low ++ (node_text high ++ rest))) here
    ∙ node_again count low_word low (node_text high ++ rest) few here is.1)
    (cases_Bool a) in
    let second : child_in (not b) (node_in (bits_left high_word) count high_word) (node_text high ++ rest) ≡ Some (high, rest)
    = ⊎_elim
    (λ (gone : b ≡ true). ap (λ x. child_in (not x) (node_in (bits_left high_word) count high_word) (node_text high ++ rest)) gone
    ∙ absent_again high rest gone)
    (λ (here : b ≡ false). ap (λ x. child_in (not x) (node_in (bits_left high_word) count high_word) (node_text high ++ rest)) here
    ∙ node_again count high_word high rest few here is.2)
    (cases_Bool b) in
    ap (λ bs. node_in (bits_left word) count word (kind ∷ j ∷ bs)) parted
    ∙ node_split count word kind j (node_text low ++ (node_text high ++ rest)) byte.0 byte.1 is.0.used is.0.divisible
    ∙ both_read count word kind j (node_text low ++ (node_text high ++ rest)) (node_text high ++ rest) rest low high
    (ap (λ x. child_in x (node_in (bits_left low_word) count low_word) (node_text low ++ (node_text high ++ rest)))
    (low_told a b is.0.some_child) ∙ first)
    (ap (λ x. child_in x (node_in (bits_left high_word) count high_word) (node_text high ++ rest))
    (high_told a b is.0.some_child) ∙ second)
  where
    -- a child that is not there has no text
    absent_again : (t : Tree (List ℕ)) (rest : List ℕ) → is_absent t ≡ true
        → ◌≡◌ {A = Read (Tree (List ℕ))} (Some (absent, node_text t ++ rest)) (Some (t, rest))
    absent_again absent rest gone = refl
    absent_again (leaf numbers) rest gone = absurd (true≢false (sym gone))
    absent_again (split j low high) rest gone = absurd (true≢false (sym gone))

pub roots_again : (w count : ℕ) (roots : List ℕ) (nodes : List (Tree (List ℕ))) (from : ℕ) (rest : List ℕ) → w ≤ 16
    → count < 2 ^ 32 → Ascend from (2 ^ w) roots → AreRootNodes w count roots nodes
    → roots_in (length roots) from w count (roots_text roots nodes ++ rest) ≡ Some ((roots, nodes), rest)
unfolding roots_in
roots_again w count [] [] from rest few short up are = refl
roots_again w count [] (t ∷ nodes) from rest few short up are = absurd are
roots_again w count (root ∷ roots) [] from rest few short up are = absurd are
roots_again w count (root ∷ roots) (t ∷ nodes) from rest few short up are =
    let behind = node_text t ++ (roots_text roots nodes ++ rest) in
    let bytes = little_bytes 4 root ++ behind in
    let most : 2 ^ w ≤ 2 ^ 16 = pow-le-pow_right {n = 2} (omega arith) {i = w} {j = 16} few in
    let is : little_number 4 bytes ≡ root = number_again root behind (omega (arith, up.1, most)) in
    let low = up.0 in
    let high = up.1 in
    let long : 4 ≤ length bytes = omega arith in
    let passes : is_root from w bytes ≡ true = grind (arith, nat_tests) in
    let word = one_bit_word root w in
    let here : node_in (bits_left word) count word behind ≡ Some (t, roots_text roots nodes ++ rest)
    = node_again count word t (roots_text roots nodes ++ rest) short are.0.there are.0.node in
    ap (λ bs. roots_in (suc (length roots)) from w count (little_bytes 4 root ++ bs))
    (append_assoc (node_text t) (roots_text roots nodes) rest)
    ∙ root_in (length roots) from w count bytes t (roots_text roots nodes ++ rest) passes
    (ap (λ n. node_in (bits_left (one_bit_word n w)) count (one_bit_word n w) behind) is ∙ here)
    ∙ ap (λ n. then_read (roots_in (length roots) (n + 1) w count (roots_text roots nodes ++ rest)) (before n t)) is
    ∙ then_is _ (before root t) ((roots, nodes), rest) (roots_again w count roots nodes (root + 1) rest few short up.2 are.1)

-- a byte tells its table
table_again : (t : Table) → table_of (table_byte t) ≡ t
table_again Flat = refl
table_again Bent = refl

table_small : (t : Table) → nat_le (table_byte t) 1 ≡ true
table_small Flat = refl
table_small Bent = refl

-- a header is read back
header_again : (h : Header) (k : ℕ) (rest : List ℕ) → IsHeader h → header_at (header_text h k ++ rest) ≡ h
header_again h k rest is =
    let leaf_part = little_bytes 4 k ++ rest in
    let count_part = little_bytes 4 h.leaf_size ++ leaf_part in
    let length_part = little_bytes 4 h.count ++ count_part in
    let n = number_again h.points length_part (omega (arith, is.length_limit)) in
    let c = number_again h.count count_part (omega (arith, is.count_limit)) in
    let l = number_again h.leaf_size leaf_part (omega (arith, is.leaf_size_limit)) in
    let t = table_again h.table in
    λ i. record { segments = h.segments; table = t i; points = n i; count = c i; leaf_size = l i }

header_passes : (h : Header) → IsHeader h → is_header h ≡ true
header_passes h is =
    let a = is.some_segments in
    let b = is.few_segments in
    let c = is.no_empty_segment in
    let d = is.length_limit in
    let e = is.count_limit in
    let f = is.some_leaf_size in
    let g = is.leaf_size_limit in
    grind (arith, nat_tests)

has_again : (h : Header) (k : ℕ) (rest : List ℕ) → IsHeader h → has_header (header_text h k ++ rest) ≡ true
has_again h k rest is =
    let long : nat_le 24 (length (header_text h k ++ rest)) ≡ true = grind (arith, nat_tests) in
    let limits : is_header (header_at (header_text h k ++ rest)) ≡ true
    = ap is_header (header_again h k rest is) ∙ header_passes h is in
    let t = table_small h.table in
    ap (λ x. x && (nat_le (table_byte h.table) 1 && is_header (header_at (header_text h k ++ rest)))) long
    ∙ ap (λ x. x && is_header (header_at (header_text h k ++ rest))) t ∙ limits

-- what has a text is what its text is read as
pub saved_again : (s : Saved) → IsSaved s → saved_in (text s) ≡ Some s
saved_again s is =
    let h = s.header in
    let k = length s.roots in
    let rest = roots_text s.roots s.nodes in
    let up = ascend_from 0 (2 ^ h.segments) s.roots is.roots.ascend is.roots.fit (λ some. omega arith) in
    let most : 2 ^ h.segments ≤ 2 ^ 16 = pow-le-pow_right {n = 2} (omega arith) {i = h.segments} {j = 16} is.header.few_segments in
    let few : k < 2 ^ 32 = ⊎_elim (λ fits. omega (arith, fits, most)) (λ none. omega (arith, none)) (few_numbers s.roots 0 (2 ^ h.segments) up) in
    let here : roots_behind h (text s) ≡ Some ((s.roots, s.nodes), [])
    = ap (λ n. roots_in n 0 h.segments h.count rest) (number_again k rest few)
    ∙ ap (roots_in k 0 h.segments h.count) (sym (append-nil rest))
    ∙ roots_again h.segments h.count s.roots s.nodes 0 [] is.header.few_segments (omega (arith, is.header.count_limit)) up is.nodes in
    cond-true (has_header (text s)) (whole (header_at (text s)) (roots_behind (header_at (text s)) (text s))) None
    (has_again h k rest is.header)
    ∙ ap (λ g. whole g (roots_behind g (text s))) (header_again h k rest is.header)
    ∙ ap (whole h) here

-- bytes are the text of one thing alone
pub one_text : (bytes : List ℕ) (s t : Saved) → IsTextOf bytes s → IsTextOf bytes t → s ≡ t
one_text bytes s t of_s of_t =
    same_Some s t (sym (saved_again s of_s.sound) ∙ ap saved_in (sym of_s.spelled ∙ of_t.spelled) ∙ saved_again t of_t.sound)
