-- A child contains the full word where the added bit is the symbol's next bit, which is 0 or 1.
use Rattle.std.proofs.Common.{◌≡◌, ℕ, zero, suc, ◌+◌, ◌<◌, ap, ◌∙◌, sym, refl, true, false, arith, eqb, get_or}
use Rattle.std.specs.Prelude.{not}
use Rattle.std.proofs.lemmas.Bool.{eqb-true, eq-eqb}
use Rattle.std.proofs.lemmas.Nat.{mod_below}
use Rattle.isax_word.specs.Word.{part_at, first_bits, next_bit}
use Rattle.isax_word.proofs.Words.{child_contains}
use Rattle.isax_word.proofs.laws.one_child_contains.Goals as goal

-- a bit is 1 exactly where it is not 0
one_or_zero : (x : ℕ) → x < 2 → eqb x 1 ≡ not (eqb x 0)
one_or_zero zero small = refl
one_or_zero (suc zero) small = refl
one_or_zero (suc (suc x)) small = absurd (omega arith)

pub returns-clause-exactly_one : goal.returns-clause-exactly_one
returns-clause-exactly_one c =
    let word = c.args.word.now in
    let full = c.args.full.now in
    let j = c.args.segment in
    let bits = (part_at word j).bits in
    let high =
    child_contains word j true full c.requires.used c.requires.divisible c.requires.contained in
    let low =
    child_contains word j false full c.requires.used c.requires.divisible
    c.requires.contained in
    let bit : next_bit bits (get_or full j 0) < 2
    = mod_below (first_bits (bits + 1) (get_or full j 0)) 2 (omega arith) in
    high ∙ one_or_zero (next_bit bits (get_or full j 0)) bit ∙ ap (λ b. not b) (sym low)

pub returns-clause-by_the_next_bit : goal.returns-clause-by_the_next_bit
returns-clause-by_the_next_bit c =
    let word = c.args.word.now in
    let full = c.args.full.now in
    let j = c.args.segment in
    let bit = next_bit (part_at word j).bits (get_or full j 0) in
    let high =
    child_contains word j true full c.requires.used c.requires.divisible c.requires.contained in
    (λ contained. eqb-true bit 1 (sym high ∙ contained), λ is. high ∙ eq-eqb bit 1 is)
