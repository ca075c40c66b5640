-- One place more is looked at: a part contains its symbol where that lies between the part's symbols, and behind the word all are 0.
use Rattle.std.proofs.Common.{◌≡◌, ℕ, ◌+◌, ◌<◌, ◌≤◌, List, [], Bool, true, false, leb, arith, ap, refl, sym, ◌∙◌, ⊎_elim, drop, get_or, length, map}
use Rattle.std.specs.Prelude.{◌&&◌}
use Rattle.std.proofs.lemmas.Bool.{cases_lt}
use Rattle.std.proofs.lemmas.List.{drop_all, get_or_append_left, length-map}
use Rattle.isax_word.specs.declared.word.Part.{Part}
use Rattle.isax_word.specs.Padded.{padded}
use Rattle.isax_word.specs.Word.{no_part, part_at, part_contains, first_symbol, first_symbols, last_symbol, last_symbols, word_contains}
use Rattle.isax_word.proofs.PaddedLists.{get_or-images, get_or-padding}
use Rattle.isax_word.proofs.Words.{contains_next, part_between}
use Rattle.isax_word.proofs.word.contains.Goals as goal

-- whether the symbol in a place lies between those of a word
abbrev between : List Part → List ℕ → ℕ → Bool
between word full j =
    leb (get_or (first_symbols word) j 0) (get_or (padded 0 full) j 0) && leb (get_or (padded 0 full) j 0) (get_or (last_symbols word) j 0)

-- in a segment of the word, it is what the part contains
between_in_word : (word : List Part) (full : List ℕ) (j : ℕ) → j < length word → j < length full
    → between word full j ≡ part_contains (part_at word j) (get_or full j 0)
between_in_word word full j used there =
    let part = part_at word j in
    let symbol = get_or (padded 0 full) j 0 in
    ap (λ n. leb n symbol && leb symbol (get_or (last_symbols word) j 0)) (get_or-images first_symbol word j no_part used)
    ∙ ap (λ n. leb (first_symbol part) symbol && leb symbol n) (get_or-images last_symbol word j no_part used)
    ∙ ap (λ s. leb (first_symbol part) s && leb s (last_symbol part)) (get_or_append_left full _ 0 j there)
    ∙ part_between part (get_or full j 0)

-- behind the word it is
between_behind : (word : List Part) (full : List ℕ) (j : ℕ) → length word ≡ length full → length word ≤ j → j < 16
    → between word full j ≡ true
between_behind word full j same behind inside =
    let first = get_or-padding (map first_symbol word) j (omega (arith, length-map word first_symbol, behind)) inside in
    let last = get_or-padding (map last_symbol word) j (omega (arith, length-map word last_symbol, behind)) inside in
    let symbol = get_or-padding full j (omega (arith, same, behind)) inside in
    ap (λ n. leb n (get_or (padded 0 full) j 0) && leb (get_or (padded 0 full) j 0) (get_or (last_symbols word) j 0)) first
    ∙ ap (λ s. leb 0 s && leb s (get_or (last_symbols word) j 0)) symbol
    ∙ ap (λ n. leb 0 0 && leb 0 n) last

-- of what is behind both nothing is left, which is contained
none_left : (word : List Part) (full : List ℕ) (k : ℕ) → length word ≡ length full → length word ≤ k
    → word_contains (drop k word) (drop k full) ≡ true
none_left word full k same low =
    ap (λ w. word_contains w (drop k full)) (drop_all k word low)
    ∙ ap (λ s. word_contains [] s) (drop_all k full (omega (arith, low, same)))

-- so what is left is contained where the next place is between and what is behind it is contained
next_is : (word : List Part) (full : List ℕ) (j : ℕ) → length word ≡ length full → j < 16
    → word_contains (drop j word) (drop j full) ≡ (between word full j && word_contains (drop (j + 1) word) (drop (j + 1) full))
next_is word full j same inside = ⊎_elim in_word behind (cases_lt j (length word))
  where
    -- a segment more
    in_word : j < length word
        → word_contains (drop j word) (drop j full) ≡ (between word full j && word_contains (drop (j + 1) word) (drop (j + 1) full))
    in_word used =
        let there : j < length full = omega (arith, used, same) in
        contains_next word full j used there
        ∙ ap (λ b. b && word_contains (drop (j + 1) word) (drop (j + 1) full)) (sym (between_in_word word full j used there))

    -- a place behind the word
    behind : length word ≤ j
        → word_contains (drop j word) (drop j full) ≡ (between word full j && word_contains (drop (j + 1) word) (drop (j + 1) full))
    behind low =
        none_left word full j same low
        ∙ sym (ap (λ b. b && word_contains (drop (j + 1) word) (drop (j + 1) full)) (between_behind word full j same low inside)
        ∙ none_left word full (j + 1) same (omega (arith, low)))

-- tests are joined in any grouping
joined : (a b c : Bool) → ((a && b) && c) ≡ (a && (b && c))
joined true b c = refl
joined false b c = refl

-- a test and a true one are the test
with_true : (a : Bool) → (a && true) ≡ a
with_true true = refl
with_true false = refl

pub loop-j-preserved : goal.loop-j-preserved
loop-j-preserved c =
    let word = c.args.word.now in
    let full = c.args.full.now in
    let j = c.loop-j.j in
    let rest = word_contains (drop (j + 1) word) (drop (j + 1) full) in
    let test : (leb (get_or c.first_symbols-firsts.result.now j 0) (get_or c.symbols-symbols.result.now j 0)
    && leb (get_or c.symbols-symbols.result.now j 0) (get_or c.last_symbols-lasts.result.now j 0)) ≡ between word full j
    = λ i. leb (get_or (c.first_symbols-firsts.ensures.value i) j 0) (get_or (c.symbols-symbols.ensures i) j 0)
    && leb (get_or (c.symbols-symbols.ensures i) j 0) (get_or (c.last_symbols-lasts.ensures i) j 0) in
    ap (λ t. (c.loop-j.inside && t) && rest) test
    ∙ joined c.loop-j.inside (between word full j) rest
    ∙ ap (λ t. c.loop-j.inside && t) (sym (next_is word full j c.requires c.loop-j-test.true))
    ∙ c.loop-j.invariant

pub returns : goal.returns
returns c =
    let word = c.args.word.now in
    let full = c.args.full.now in
    let few = c.first_symbols-firsts.ensures.is_word.few_parts in
    sym (ap (λ t. c.loop-j.inside && t) (none_left word full c.loop-j.j c.requires (omega (arith, few, c.loop-j-test.false)))
    ∙ with_true c.loop-j.inside)
    ∙ c.loop-j.invariant
