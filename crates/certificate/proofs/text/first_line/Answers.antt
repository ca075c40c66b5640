use Rattle.std.proofs.Common.{◌+◌, ◌∷◌, [], ℕ, List, length, drop, get_or, arith, sym, ap, ◌∙◌}
use Rattle.std.proofs.lemmas.Bool.{eqb-true, eq-eqb}
use Rattle.std.proofs.lemmas.List.{take_all, drop_all}
use Rattle.certificate.specs.Grammar.{lines_of}
use Rattle.certificate.proofs.CutLines.{cut_line, one_line}
use Rattle.certificate.proofs.text.first_line.Goals as goal

pub returns-in-Some-clause-lines : goal.returns-in-Some-clause-lines
returns-in-Some-clause-lines c =
    let text = c.args.text.now in
    cut_line text c.in-Some.i (omega (arith, c.in-Some.ensures.0.high))
    (λ k below feed. c.in-Some.ensures.0.before k (omega arith) below (eq-eqb (get_or text k 0) 10 feed))
    (eqb-true (get_or text c.in-Some.i 0) 10 c.in-Some.ensures.1)
    ∙ ap (λ (t : List ℕ). t ∷ lines_of (drop (c.in-Some.i + 1) text)) (sym c.split_at.ensures.front)
    ∙ ap (λ (t : List ℕ). c.split_at.result.0.now ∷ lines_of t) (sym c.split_at.ensures.back)

pub returns-in-None-clause-lines : goal.returns-in-None-clause-lines
returns-in-None-clause-lines c =
    let text = c.args.text.now in
    one_line text c.requires (λ k below feed. c.in-None.ensures k (omega arith) below (eq-eqb (get_or text k 0) 10 feed))
    ∙ ap (λ (t : List ℕ). t ∷ []) (sym (c.split_at-in-None.ensures.front ∙ take_all (length text) text (omega arith)))
    ∙ ap (λ (t : List ℕ). c.split_at-in-None.result.0.now ∷ lines_of t)
    (sym (c.split_at-in-None.ensures.back ∙ drop_all (length text) text (omega arith)))
