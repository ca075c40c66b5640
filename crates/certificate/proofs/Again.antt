-- Fields that are spelled are read again, whatever follows them but a digit.
use Rattle.std.proofs.Common.{◌≡◌, ℕ, zero, suc, ◌+◌, ◌-◌, ◌^◌, ◌<◌, ◌≤◌, List, [], ◌∷◌, ◌++◌, length, take, drop, get_or, true, false, cond, Some, None, refl, sym, ap, ◌∙◌, append_assoc, length-append, ⊎_elim, arith}
use Rattle.std.specs.Prelude.{Bool, decimal, codes, not, ◌==◌}
use Rattle.std.specs.List.{list_all, AllByRecursion}
use Rattle.std.specs.Char.{is_ascii_digit}
use Rattle.std.proofs.lemmas.Bool.{cases_Bool, and_parts, cond-true, cond-false, eqb-true, eqb-false, ne_eqb, cases_lt}
use Rattle.std.proofs.lemmas.Fmt.{decimal_digit, digits_decimal, decimal_nonempty}
use Rattle.std.proofs.lemmas.List.{take_all}
use Rattle.std.proofs.lemmas.List.Elements.{recursion_from_All}
use Rattle.std.proofs.Math.Pow.{pow_mono}
use Rattle.isax_word.specs.declared.word.Part.{Part}
use Rattle.isax_word.specs.Word.{IsPart, IsWord}
use Rattle.series_core.specs.declared.queue_words.Entry.{Entry}
use Rattle.series_core.specs.declared.distance.TheConstants.{NONE}
use Rattle.certificate.specs.declared.block.Said.{Said}
use Rattle.certificate.specs.declared.block.Said.TheVariants.{Scanned, Bound}
use Rattle.certificate.specs.Spelling.{entries_text, part_text, parts_text, word_text, said_text, limit_text}
use Rattle.certificate.specs.Grammar.{IsEntry, IsSaid}
use Rattle.certificate.specs.Fields.{◌>>=◌, after, behind, stops, with_front, entry_at, entries_at, part_at, parts_at, all_parts_at, is_part, word_at, said_at, limit_by, limit_at, labels_at}
use Rattle.certificate.proofs.NumberTexts.{Stops, own, number_again}
use Rattle.certificate.proofs.Digits.{digit_range}
use Rattle.certificate.proofs.WordTests.{passes_word}

-- a number does not begin with a byte that is no digit
pub not_number : (c : ℕ) (front text : List ℕ) (n : ℕ) → n < 2 ^ 64 → 57 < c → after (c ∷ front) (decimal n ++ text) ≡ None
not_number c front text n small high = by_digits (decimal n) (digits_decimal own n small) (decimal_nonempty n small)
  where
    by_digits : (ds : List ℕ) → list_all is_ascii_digit ds ≡ true → 0 < length ds → after (c ∷ front) (ds ++ text) ≡ None
    by_digits [] digits some = absurd (omega arith)
    by_digits (d ∷ ds) digits some =
        let range = digit_range d (and_parts (is_ascii_digit d) (list_all is_ascii_digit ds) digits).0 in
        cond-false (c == d) (after front (ds ++ text)) None (ne_eqb c d (λ e. absurd (omega arith)))

-- what begins a text does not begin a number
pub number_not : (c : ℕ) (text : List ℕ) (n : ℕ) → n < 2 ^ 64 → 57 < c → after (decimal n) (c ∷ text) ≡ None
number_not c text n small high = by_digits (decimal n) (digits_decimal own n small) (decimal_nonempty n small)
  where
    by_digits : (ds : List ℕ) → list_all is_ascii_digit ds ≡ true → 0 < length ds → after ds (c ∷ text) ≡ None
    by_digits [] digits some = absurd (omega arith)
    by_digits (d ∷ ds) digits some =
        let range = digit_range d (and_parts (is_ascii_digit d) (list_all is_ascii_digit ds) digits).0 in
        cond-false (d == c) (after ds text) None (ne_eqb d c (λ e. absurd (omega arith)))

-- an entry
pub entry_again : (e : Entry) (rest : List ℕ) → IsEntry e → Stops rest
    → entry_at (decimal e.bound ++ (58 ∷ (decimal e.leaf ++ rest))) ≡ Some (e, rest)
unfolding entry_at
entry_again e rest fits stops =
    rw (number_again (2 ^ 64 - 1) e.bound (58 ∷ (decimal e.leaf ++ rest)) (omega arith) (omega (arith, fits.bound)) refl)
    (rw (number_again (2 ^ 32 - 1) e.leaf rest (omega arith) (omega (arith, fits.leaf)) stops) refl)

-- no digit stands where entries begin, or what follows them
pub entries_stop : (es : List Entry) (rest : List ℕ) → Stops rest → Stops (entries_text es ++ rest)
entries_stop [] rest stops = stops
entries_stop (e ∷ es) rest stops = refl

-- there are no more entries than bytes
pub entries_size : (es : List Entry) → length es ≤ length (entries_text es)
entries_size [] = omega arith
entries_size (e ∷ es) =
    let more = entries_size es in
    let tail = length-append (decimal e.leaf) (entries_text es) in
    let whole = length-append (decimal e.bound) (58 ∷ (decimal e.leaf ++ entries_text es)) in
    omega arith

-- one entry before others
entries_split : (e : Entry) (es : List Entry) (rest : List ℕ) → entries_text (e ∷ es) ++ rest
    ≡ 32 ∷ (decimal e.bound ++ (58 ∷ (decimal e.leaf ++ (entries_text es ++ rest))))
entries_split e es rest =
    ap (λ (t : List ℕ). 32 ∷ t)
    (append_assoc (decimal e.bound) (58 ∷ (decimal e.leaf ++ entries_text es)) rest
    ∙ ap (λ (t : List ℕ). decimal e.bound ++ (58 ∷ t)) (append_assoc (decimal e.leaf) (entries_text es) rest))

-- entries, where no space follows
pub entries_again : (n : ℕ) (es : List Entry) (rest : List ℕ) → AllByRecursion IsEntry es → length es ≤ n → Stops rest
    → after (32 ∷ []) rest ≡ None → entries_at n (entries_text es ++ rest) ≡ Some (es, rest)
unfolding entries_at
entries_again zero [] rest fits room stops ends = refl
entries_again zero (e ∷ es) rest fits room stops ends = absurd (omega arith)
entries_again (suc n) [] rest fits room stops ends =
    ap (λ o. behind o ([], rest) (λ r. entry_at r >>= λ entry. with_front (entry.0 ∷ []) (entries_at n entry.1))) ends
entries_again (suc n) (e ∷ es) rest fits room stops ends =
    ap (entries_at (suc n)) (entries_split e es rest)
    ∙ ap (λ o. o >>= λ entry. with_front (entry.0 ∷ []) (entries_at n entry.1))
    (entry_again e (entries_text es ++ rest) fits.0 (entries_stop es rest stops))
    ∙ ap (with_front (e ∷ [])) (entries_again n es rest fits.1 (omega arith) stops ends)

-- the numbers of a part fit a byte
pub part_fits : (p : Part) → IsPart p → (p.prefix ≤ 255) × (p.bits ≤ 255)
part_fits p part =
    let high : 2 ^ p.bits ≤ 256 = pow_mono part.eight_bits in
    (omega (arith, part.prefix_fits), omega (arith, part.eight_bits))

-- a part of a word
pub part_again : (p : Part) (rest : List ℕ) → IsPart p → Stops rest → part_at (part_text p ++ rest) ≡ Some (p, rest)
unfolding part_at
part_again p rest part stops =
    let fits = part_fits p part in
    ap part_at (append_assoc (decimal p.prefix) (58 ∷ decimal p.bits) rest)
    ∙ rw (number_again 255 p.prefix (58 ∷ (decimal p.bits ++ rest)) (omega arith) fits.0 refl)
    (rw (number_again 255 p.bits rest (omega arith) fits.1 stops) refl)

-- a part whose numbers have one digit each
pub short_part : (prefix bits : ℕ) (rest : List ℕ) → is_ascii_digit prefix ≡ true → is_ascii_digit bits ≡ true → Stops rest
    → part_at (prefix ∷ 58 ∷ bits ∷ rest) ≡ Some (record { prefix = prefix - 48; bits = bits - 48 }, rest)
unfolding part_at
short_part prefix bits rest first second stops =
    let low = digit_range prefix first in
    let high = digit_range bits second in
    let one : 48 + (prefix - 48) ≡ prefix = omega arith in
    let two : 48 + (bits - 48) ≡ bits = omega arith in
    ap (λ n. part_at (n ∷ 58 ∷ bits ∷ rest)) (sym one)
    ∙ ap (λ n. part_at ((48 + (prefix - 48)) ∷ 58 ∷ n ∷ rest)) (sym two)
    ∙ ap (λ (t : List ℕ). part_at (t ++ 58 ∷ (48 + (bits - 48)) ∷ rest)) (sym (decimal_digit (prefix - 48) (omega arith)))
    ∙ ap (λ (t : List ℕ). part_at (decimal (prefix - 48) ++ 58 ∷ (t ++ rest))) (sym (decimal_digit (bits - 48) (omega arith)))
    ∙ rw (number_again 255 (prefix - 48) (58 ∷ (decimal (bits - 48) ++ rest)) (omega arith) (omega arith) refl)
    (rw (number_again 255 (bits - 48) rest (omega arith) (omega arith) stops) refl)

-- where the test says that no digit stands at the front, none does
pub tested_stop : (text : List ℕ) → stops text ≡ true → Stops text
tested_stop [] e = tt
tested_stop (c ∷ text) e = not_true (is_ascii_digit c) e
  where
    not_true : (b : Bool) → not b ≡ true → b ≡ false
    not_true true e = absurd cc
    not_true false e = refl

-- the same by the places of the text
pub short_part_read : (text : List ℕ) → 3 ≤ length text → get_or text 1 0 ≡ 58 → is_ascii_digit (get_or text 0 0) ≡ true
    → is_ascii_digit (get_or text 2 0) ≡ true → stops (take (length text - 3) (drop 3 text)) ≡ true
    → part_at text ≡ Some (record { prefix = get_or text 0 0 - 48; bits = get_or text 2 0 - 48 }, take (length text - 3) (drop 3 text))
short_part_read [] long colon first second stop = absurd (omega arith)
short_part_read (p ∷ []) long colon first second stop = absurd (omega arith)
short_part_read (p ∷ c ∷ []) long colon first second stop = absurd (omega arith)
short_part_read (p ∷ c ∷ b ∷ rest) long colon first second stop =
    let size : ℕ = length (p ∷ c ∷ b ∷ rest) - 3 in
    let all : take size rest ≡ rest = take_all size rest (omega arith) in
    ap (λ n. part_at (p ∷ n ∷ b ∷ rest)) colon
    ∙ short_part p b rest first second (tested_stop rest (ap stops (sym all) ∙ stop))
    ∙ ap (λ (t : List ℕ). Some (record { prefix = p - 48; bits = b - 48 }, t)) (sym all)

-- no digit stands where further parts begin, or what follows them
parts_stop : (ps : List Part) (rest : List ℕ) → Stops rest → Stops (parts_text ps ++ rest)
parts_stop [] rest stops = stops
parts_stop (p ∷ ps) rest stops = refl

-- further parts
pub parts_again : (ps : List Part) (rest : List ℕ) → AllByRecursion IsPart ps → Stops rest
    → parts_at (length ps) (parts_text ps ++ rest) ≡ Some (ps, rest)
unfolding parts_at
parts_again [] rest parts stops = refl
parts_again (p ∷ ps) rest parts stops =
    ap (λ (t : List ℕ). parts_at (suc (length ps)) (44 ∷ t)) (append_assoc (part_text p) (parts_text ps) rest)
    ∙ ap (λ o. o >>= λ x. with_front (x.0 ∷ []) (parts_at (length ps) x.1))
    (part_again p (parts_text ps ++ rest) parts.0 (parts_stop ps rest stops))
    ∙ ap (with_front (p ∷ [])) (parts_again ps rest parts.1 stops)

-- all parts of a word
all_parts_again : (segments : ℕ) (ps : List Part) (rest : List ℕ) → length ps ≡ segments → 1 ≤ segments
    → AllByRecursion IsPart ps → Stops rest → all_parts_at segments (word_text ps ++ rest) ≡ Some (ps, rest)
unfolding all_parts_at
all_parts_again segments [] rest size some parts stops = absurd (omega arith)
all_parts_again segments (p ∷ ps) rest size some parts stops =
    let left : segments - 1 ≡ length ps = omega arith in
    ap (all_parts_at segments) (append_assoc (part_text p) (parts_text ps) rest)
    ∙ ap (λ o. o >>= λ x. with_front (x.0 ∷ []) (parts_at (segments - 1) x.1))
    (part_again p (parts_text ps ++ rest) parts.0 (parts_stop ps rest stops))
    ∙ ap (λ n. with_front (p ∷ []) (parts_at n (parts_text ps ++ rest))) left
    ∙ ap (with_front (p ∷ [])) (parts_again ps rest parts.1 stops)

-- a word
pub word_again : (segments : ℕ) (ps : List Part) (rest : List ℕ) → length ps ≡ segments → IsWord ps → Stops rest
    → word_at segments (word_text ps ++ rest) ≡ Some (ps, rest)
unfolding word_at
word_again segments ps rest size word stops =
    ap (λ o. o >>= λ (x : List Part × List ℕ). cond (list_all is_part x.0) (Some x) None)
    (all_parts_again segments ps rest size (omega (arith, word.some_parts)) (recursion_from_All IsPart ps word.parts) stops)
    ∙ cond-true (list_all is_part ps) (Some (ps, rest)) None (passes_word ps word)

-- what is said of a leaf
pub said_again : (s : Said) (rest : List ℕ) → IsSaid s → Stops rest → said_at (said_text s ++ rest) ≡ Some (s, rest)
unfolding said_at
said_again Scanned rest fits stops = refl
said_again (Bound b) rest fits stops =
    rw (number_again (2 ^ 64 - 1) b rest (omega arith) (omega arith) stops) refl

-- a limit
pub limit_again : (v : ℕ) (rest : List ℕ) → v < 2 ^ 64 → Stops rest → limit_at (limit_text v ++ rest) ≡ Some (v, rest)
unfolding limit_at
limit_again v rest small stops =
    ⊎_elim
    (λ (none : (v == NONE) ≡ true).
    let is : v ≡ NONE = eqb-true v NONE none in
    ap (λ (t : List ℕ). limit_at (t ++ rest)) (cond-true (v == NONE) (codes "none") (decimal v) none)
    ∙ ap (λ n. Some (n, rest)) (sym is))
    (λ (some : (v == NONE) ≡ false).
    let below : v ≤ 2 ^ 64 - 2 = limit_below some in
    ap (λ (t : List ℕ). limit_at (t ++ rest)) (cond-false (v == NONE) (codes "none") (decimal v) some)
    ∙ ap (λ o. limit_by o (decimal v ++ rest)) (not_number 110 (111 ∷ 110 ∷ 101 ∷ []) rest v small (omega arith))
    ∙ number_again (2 ^ 64 - 2) v rest (omega arith) below stops)
    (cases_Bool (v == NONE))
  where
    limit_below : (v == NONE) ≡ false → v ≤ 2 ^ 64 - 2
    limit_below other =
        let differs = eqb-false v NONE other in
        ⊎_elim (λ (lt : v < NONE). omega arith) (λ (ge : NONE ≤ v). absurd (differs (omega arith))) (cases_lt v NONE)

-- no label, where answers have none
pub no_label_again : (rest : List ℕ) → labels_at false rest ≡ Some ([], rest)
unfolding labels_at
no_label_again rest = refl

-- a label
pub label_again : (l : ℕ) (rest : List ℕ) → l < 2 ^ 64 → Stops rest
    → labels_at true ((32 ∷ decimal l) ++ rest) ≡ Some (l ∷ [], rest)
unfolding labels_at
label_again l rest small stops = rw (number_again (2 ^ 64 - 1) l rest (omega arith) (omega arith) stops) refl
