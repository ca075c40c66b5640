-- Words, limits, labels and what is said of a leaf: each that is read is what the text began with.
use Rattle.std.proofs.Common.{◌≡◌, ℕ, ◌-◌, ◌^◌, ◌<◌, ◌≤◌, List, [], ◌∷◌, ◌++◌, length, Bool, true, false, cond, Option, Some, None, refl, sym, ap, subst, ◌∙◌, append_assoc, ⊎_elim, arith}
use Rattle.std.specs.Prelude.{decimal, codes, ◌==◌}
use Rattle.std.specs.List.{list_all, AllByRecursion}
use Rattle.std.proofs.lemmas.Bool.{cases_Bool, cond-true, cond-false, ne_eqb}
use Rattle.std.proofs.lemmas.Option.{same_Some, none-some}
use Rattle.isax_word.specs.declared.word.Part.{Part}
use Rattle.isax_word.specs.Word.{IsWord}
use Rattle.series_core.specs.declared.distance.TheConstants.{NONE}
use Rattle.certificate.specs.declared.block.Said.{Said}
use Rattle.certificate.specs.declared.block.Said.TheVariants.{Scanned, Bound}
use Rattle.certificate.specs.Spelling.{part_text, parts_text, word_text, said_text, limit_text, label_text}
use Rattle.certificate.specs.Grammar.{IsSaid}
use Rattle.certificate.specs.Fields.{after, number_at, part_at, parts_at, all_parts_at, is_part, word_at, said_by, said_at, limit_by, limit_at, labels_at}
use Rattle.certificate.proofs.Binding.{bind_then}
use Rattle.certificate.proofs.Fronts.{after_takes}
use Rattle.certificate.proofs.NumberTexts.{number_takes}
use Rattle.certificate.proofs.Spelled.{part_takes, parts_take}
use Rattle.certificate.proofs.WordTests.{word_passes}

-- as many parts as segments, parted by commas
all_parts_take : (segments : ℕ) (text rest : List ℕ) (ps : List Part) → 1 ≤ segments
    → all_parts_at segments text ≡ Some (ps, rest) → (text ≡ word_text ps ++ rest) × (length ps ≡ segments)
unfolding all_parts_at
all_parts_take segments text rest ps some read =
    bind_then (part_at text) _ (ps, rest) read (λ first first_is read1.
    bind_then (parts_at (segments - 1) first.1) _ (ps, rest) read1 (λ others others_are read2.
    let one = part_takes text first.1 first.0 first_is in
    let more = parts_take (segments - 1) first.1 others.1 others.0 others_are in
    let made : List Part × List ℕ = (first.0 ∷ others.0, others.1) in
    subst (λ (x : List Part × List ℕ). (text ≡ word_text x.0 ++ x.1) × (length x.0 ≡ segments))
    (same_Some made (ps, rest) read2) (
      one ∙ ap (λ (t : List ℕ). part_text first.0 ++ t) more.0
          ∙ sym (append_assoc (part_text first.0) (parts_text others.0) others.1),
      omega (arith, more.1),
    )))

-- a word
pub word_takes : (segments : ℕ) (text rest : List ℕ) (ps : List Part) → 1 ≤ segments → segments ≤ 16
    → word_at segments text ≡ Some (ps, rest) → (text ≡ word_text ps ++ rest) × (length ps ≡ segments) × IsWord ps
unfolding word_at
word_takes segments text rest ps some few read =
    bind_then (all_parts_at segments text) _ (ps, rest) read (λ word word_is read1.
    let parts = all_parts_take segments text word.1 word.0 some word_is in
    ⊎_elim
    (λ (yes : list_all is_part word.0 ≡ true).
    let passes = word_passes word.0 (omega (arith, parts.1)) (omega (arith, parts.1)) yes in
    subst (λ (x : List Part × List ℕ). (text ≡ word_text x.0 ++ x.1) × (length x.0 ≡ segments) × IsWord x.0)
    (same_Some word (ps, rest) (sym (cond-true (list_all is_part word.0) (Some word) None yes) ∙ read1))
    (parts.0, parts.1, passes))
    (λ (no : list_all is_part word.0 ≡ false).
    absurd (none-some (ps, rest) (sym (cond-false (list_all is_part word.0) (Some word) None no) ∙ read1)))
    (cases_Bool (list_all is_part word.0)))

-- what is said of a leaf
pub said_takes : (text rest : List ℕ) (s : Said) → said_at text ≡ Some (s, rest) → (text ≡ said_text s ++ rest) × IsSaid s
unfolding said_at
said_takes text rest s read = by_front (after (codes " scanned") text) refl read
  where
    by_front : (o : Option (List ℕ)) → after (codes " scanned") text ≡ o
        → said_by o (after (codes " bound ") text) ≡ Some (s, rest) → (text ≡ said_text s ++ rest) × IsSaid s
    by_front (Some behind) front said =
        subst (λ (x : Said × List ℕ). (text ≡ said_text x.0 ++ x.1) × IsSaid x.0)
        (same_Some (Scanned, behind) (s, rest) said) (after_takes (codes " scanned") text behind front, tt)
    by_front None front said =
        bind_then (after (codes " bound ") text) _ (s, rest) said (λ behind behind_is said1.
        bind_then (number_at (2 ^ 64 - 1) behind) _ (s, rest) said1 (λ n n_is said2.
        let number = number_takes (2 ^ 64 - 1) behind n.1 n.0 (omega arith) n_is in
        let made : Said × List ℕ = (Bound n.0, n.1) in
        subst (λ (x : Said × List ℕ). (text ≡ said_text x.0 ++ x.1) × IsSaid x.0) (same_Some made (s, rest) said2) (
          after_takes (codes " bound ") text behind behind_is ∙ ap (λ (t : List ℕ). codes " bound " ++ t) number.0
              ∙ sym (append_assoc (codes " bound ") (decimal n.0) n.1),
          omega (arith, number.1),
        )))

-- a limit
pub limit_takes : (text rest : List ℕ) (v : ℕ) → limit_at text ≡ Some (v, rest) → (text ≡ limit_text v ++ rest) × (v < 2 ^ 64)
unfolding limit_at
limit_takes text rest v read = by_front (after (codes "none") text) refl read
  where
    by_front : (o : Option (List ℕ)) → after (codes "none") text ≡ o → limit_by o text ≡ Some (v, rest)
        → (text ≡ limit_text v ++ rest) × (v < 2 ^ 64)
    by_front (Some behind) front limit =
        subst (λ (x : ℕ × List ℕ). (text ≡ limit_text x.0 ++ x.1) × (x.0 < 2 ^ 64))
        (same_Some (NONE, behind) (v, rest) limit) (after_takes (codes "none") text behind front, omega arith)
    by_front None front limit =
        let number = number_takes (2 ^ 64 - 2) text rest v (omega arith) limit in
        let other : (v == NONE) ≡ false = ne_eqb v NONE (λ e. absurd (omega (arith, number.1))) in (
          number.0 ∙ ap (λ (t : List ℕ). t ++ rest) (sym (cond-false (v == NONE) (codes "none") (decimal v) other)),
          omega (arith, number.1),
        )

-- a label, where answers have labels
pub labels_take : (labelled : Bool) (text rest ls : List ℕ) → labels_at labelled text ≡ Some (ls, rest)
    → (text ≡ label_text ls ++ rest) × AllByRecursion (λ l. l < 2 ^ 64) ls × (length ls ≡ cond labelled 1 0)
unfolding labels_at
labels_take false text rest ls read =
    subst (λ (x : List ℕ × List ℕ). (text ≡ label_text x.0 ++ x.1) × AllByRecursion (λ l. l < 2 ^ 64) x.0 × (length x.0 ≡ 0))
    (same_Some ([], text) (ls, rest) read) (refl, tt, refl)
labels_take true text rest ls read =
    bind_then (after (32 ∷ []) text) _ (ls, rest) read (λ space space_is read1.
    bind_then (number_at (2 ^ 64 - 1) space) _ (ls, rest) read1 (λ label label_is read2.
    let number = number_takes (2 ^ 64 - 1) space label.1 label.0 (omega arith) label_is in
    let made : List ℕ × List ℕ = (label.0 ∷ [], label.1) in
    subst (λ (x : List ℕ × List ℕ). (text ≡ label_text x.0 ++ x.1) × AllByRecursion (λ l. l < 2 ^ 64) x.0 × (length x.0 ≡ 1))
    (same_Some made (ls, rest) read2) (
      after_takes (32 ∷ []) text space space_is ∙ ap (λ (t : List ℕ). 32 ∷ t) number.0,
      (omega (arith, number.1), tt),
      refl,
    )))
