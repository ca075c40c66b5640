use Rattle.std.proofs.Common.{◌≡◌, ◌≤◌, ℕ, List, Some, None, true, false, length, cond, refl, sym, ap, ◌∙◌, arith, ⊎_elim}
use Rattle.std.specs.List.{list_all}
use Rattle.std.proofs.lemmas.Bool.{cond-true, cond-false, cases_Bool, false≢true}
use Rattle.isax_word.specs.declared.word.Part.{Part}
use Rattle.isax_word.specs.Word.{IsWord}
use Rattle.certificate.specs.Fields.{◌>>=◌, is_part, all_parts_at, word_at}
use Rattle.certificate.proofs.Seen.{none_seen}
use Rattle.certificate.proofs.WordTests.{word_passes, passes_word}
use Rattle.certificate.proofs.words.word.Goals as goal

-- parts that make a word
made : (segments : ℕ) (text rest : List ℕ) (ps : List Part) → all_parts_at segments text ≡ Some (ps, rest) → IsWord ps
    → word_at segments text ≡ Some (ps, rest)
unfolding word_at
made segments text rest ps parts word =
    ap (λ o. o >>= λ (x : List Part × List ℕ). cond (list_all is_part x.0) (Some x) None) parts
    ∙ cond-true (list_all is_part ps) (Some (ps, rest)) None (passes_word ps word)

-- parts that make none
not_made : (segments : ℕ) (text rest : List ℕ) (ps : List Part) → all_parts_at segments text ≡ Some (ps, rest)
    → 1 ≤ length ps → length ps ≤ 16 → (IsWord ps → ⊥) → word_at segments text ≡ None
unfolding word_at
not_made segments text rest ps parts some few none =
    ap (λ o. o >>= λ (x : List Part × List ℕ). cond (list_all is_part x.0) (Some x) None) parts
    ∙ cond-false (list_all is_part ps) (Some (ps, rest)) None
    (⊎_elim
    (λ (e : list_all is_part ps ≡ true). absurd (none (word_passes ps some few e)))
    (λ (e : list_all is_part ps ≡ false). e)
    (cases_Bool (list_all is_part ps)))

pub returns-in_err-word : goal.returns-in_err-word
returns-in_err-word c =
    none_seen (λ x. (x.0, x.1.now)) c.from_residual-in_err-word.result _ c.from_residual-in_err-word.ensures
    (not_made c.args.segments c.args.text.now c.in_ok-parts.rest.now c.in_ok-parts.parts c.in_ok-parts.ensures.read
    (omega (arith, c.in_ok-parts.ensures.size, c.requires.some)) (omega (arith, c.in_ok-parts.ensures.size, c.requires.few))
    (λ word. false≢true (c.in_err-word.ensures.accepted.1 word)))

pub returns : goal.returns
returns c =
    made c.args.segments c.args.text.now c.in_ok-parts.rest.now c.in_ok-parts.parts c.in_ok-parts.ensures.read
    (c.in_ok-word.ensures.accepted.0 refl)
    ∙ ap (λ (ps : List Part). Some (ps, c.in_ok-parts.rest.now)) (sym c.in_ok-word.ensures.value)
