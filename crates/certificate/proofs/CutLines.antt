-- A text cut into its lines: the first line and the rest, and the lines of a text of whole lines.
use Rattle.std.proofs.Common.{◌≡◌, ℕ, zero, suc, ◌+◌, ◌<◌, List, [], ◌∷◌, ◌++◌, length, take, drop, get_or, Bool, true, false, refl, sym, ap, ◌∙◌, ⊎_elim, arith}
use Rattle.std.specs.Prelude.{◌==◌, if◌then◌else◌}
use Rattle.std.specs.List.{concat, AllByRecursion}
use Rattle.std.proofs.lemmas.Bool.{cases_Bool, cond-true, cond-false, eqb-true, eq-eqb, ne_eqb}
use Rattle.std.proofs.lemmas.List.{nil_from_length}
use Rattle.certificate.specs.Grammar.{before_lines, lines_of}

-- the lines of a text, one after another, are the text
pub concat-lines_of : (text : List ℕ) → concat (lines_of text) ≡ text
concat-lines_of [] = refl
concat-lines_of (c ∷ text) =
    ⊎_elim
    (λ (feed : (c == 10) ≡ true).
    ap concat (cond-true (c == 10) ((c ∷ []) ∷ lines_of text) (before_lines c (lines_of text)) feed)
    ∙ ap (λ (t : List ℕ). c ∷ t) (concat-lines_of text))
    (λ (other : (c == 10) ≡ false).
    ap concat (cond-false (c == 10) ((c ∷ []) ∷ lines_of text) (before_lines c (lines_of text)) other)
    ∙ concat-before c (lines_of text) ∙ ap (λ (t : List ℕ). c ∷ t) (concat-lines_of text))
    (cases_Bool (c == 10))
  where
    concat-before : (d : ℕ) (lines : List (List ℕ)) → concat (before_lines d lines) ≡ d ∷ concat lines
    concat-before d [] = refl
    concat-before d (line ∷ lines) = refl

-- the first line ends with the first line feed
first_line : (text : List ℕ) (i : ℕ) → i < length text → ((k : ℕ) → k < i → get_or text k 0 ≡ 10 → ⊥)
    → get_or text i 0 ≡ 10 → lines_of text ≡ take (suc i) text ∷ lines_of (drop (suc i) text)
first_line [] i below none feed = absurd (omega arith)
first_line (c ∷ text) zero below none feed =
    cond-true (c == 10) ((c ∷ []) ∷ lines_of text) (before_lines c (lines_of text)) (eq-eqb c 10 feed)
first_line (c ∷ text) (suc i) below none feed =
    cond-false (c == 10) ((c ∷ []) ∷ lines_of text) (before_lines c (lines_of text))
    (ne_eqb c 10 (λ e. none zero (omega arith) e))
    ∙ ap (before_lines c) (first_line text i (omega arith) (λ k h e. none (suc k) (omega arith) e) feed)

-- the first line and the lines of the rest
pub cut_line : (text : List ℕ) (i : ℕ) → i < length text → ((k : ℕ) → k < i → get_or text k 0 ≡ 10 → ⊥)
    → get_or text i 0 ≡ 10 → lines_of text ≡ take (i + 1) text ∷ lines_of (drop (i + 1) text)
cut_line text i below none feed =
    let next : suc i ≡ i + 1 = omega arith in
    first_line text i below none feed ∙ ap (λ n. take n text ∷ lines_of (drop n text)) next

-- a text without a line feed is one line
pub one_line : (text : List ℕ) → 0 < length text → ((k : ℕ) → k < length text → get_or text k 0 ≡ 10 → ⊥)
    → lines_of text ≡ text ∷ []
one_line [] some none = absurd (omega arith)
one_line (c ∷ []) some none =
    cond-false (c == 10) ((c ∷ []) ∷ []) ((c ∷ []) ∷ []) (ne_eqb c 10 (λ e. none zero (omega arith) e))
one_line (c ∷ d ∷ text) some none =
    cond-false (c == 10) ((c ∷ []) ∷ lines_of (d ∷ text)) (before_lines c (lines_of (d ∷ text)))
    (ne_eqb c 10 (λ e. none zero (omega arith) e))
    ∙ ap (before_lines c) (one_line (d ∷ text) (omega arith) (λ k h e. none (suc k) (omega arith) e))

-- whether a text is one whole line: it ends with a line feed and has no other
abbrev pub is_line : List ℕ → Bool
is_line [] = false
is_line (c ∷ text) = if c == 10 then length text == 0 else is_line text

-- a whole line is the first of a text that begins with it
pub line_first : (line rest : List ℕ) → is_line line ≡ true → lines_of (line ++ rest) ≡ line ∷ lines_of rest
line_first [] rest whole = absurd cc
line_first (c ∷ line) rest whole =
    ⊎_elim
    (λ (feed : (c == 10) ≡ true).
    let last : (length line == 0) ≡ true = sym (cond-true (c == 10) (length line == 0) (is_line line) feed) ∙ whole in
    let none : line ≡ [] = nil_from_length line (eqb-true (length line) 0 last) in
    cond-true (c == 10) ((c ∷ []) ∷ lines_of (line ++ rest)) (before_lines c (lines_of (line ++ rest))) feed
    ∙ ap (λ (t : List ℕ). (c ∷ []) ∷ lines_of (t ++ rest)) none
    ∙ ap (λ (t : List ℕ). (c ∷ t) ∷ lines_of rest) (sym none))
    (λ (other : (c == 10) ≡ false).
    let more : is_line line ≡ true = sym (cond-false (c == 10) (length line == 0) (is_line line) other) ∙ whole in
    cond-false (c == 10) ((c ∷ []) ∷ lines_of (line ++ rest)) (before_lines c (lines_of (line ++ rest))) other
    ∙ ap (before_lines c) (line_first line rest more))
    (cases_Bool (c == 10))

-- the lines of a text of whole lines are these
pub lines_of-concat : (lines : List (List ℕ)) → AllByRecursion (λ line. is_line line ≡ true) lines
    → lines_of (concat lines) ≡ lines
lines_of-concat [] whole = refl
lines_of-concat (line ∷ lines) whole =
    line_first line (concat lines) whole.0
    ∙ ap (λ (ls : List (List ℕ)). line ∷ ls) (lines_of-concat lines whole.1)
