-- What is written is the text of a block that has the answers and certifies them.
use Rattle.std.proofs.Common.{◌≡◌, ◌++◌, ◌+◌, ℕ, List, [], ◌∷◌, refl, sym, ap, subst, ◌∙◌, append_assoc, append-nil}
use Rattle.std.specs.List.{concat}
use Rattle.std.proofs.lemmas.List.Folds.{concat-append}
use Rattle.series_core.specs.Answer.{answer}
use Rattle.series_core.specs.declared.pair.Pair.{Pair}
use Rattle.search_machine.specs.Legal.{Legal}
use Rattle.search_task.specs.Questions.{IsQuestion, Question, search_over}
use Rattle.certificate.specs.Printed.{search_in, search_lines, search_text}
use Rattle.certificate.specs.Spelling.{answer_line, answer_lines, block_lines, file_text, query_line}
use Rattle.certificate.specs.declared.block.Block.{Block}
use Rattle.run_traffic.specs.Lines.{line_of, ranked}
use Rattle.examples.proofs.certified.written.Goals as goal

-- the line of a pair of a rank
abbrev told : ℕ → Pair → List ℕ
told r p = line_of r (p.number ∷ p.distance ∷ [])

-- it is spelled as that of an answer without a label
line_same : (r : ℕ) (p : Pair) → told r p ≡ answer_line r p []
line_same r p = simp append_assoc

-- so are the lines of all
lines_same : (r : ℕ) (ps : List Pair)
    → ranked told r ps ≡ concat (answer_lines r ps [])
lines_same r [] = refl
lines_same r (p ∷ ps) =
    ap (λ (t : List ℕ). t ++ ranked told (r + 1) ps) (line_same r p)
    ∙ ap (λ (t : List ℕ). answer_line r p [] ++ t) (lines_same (r + 1) ps)

-- the line of a query, the lines of the answers and those of the search are the text of their block
text_is : (b : Block) (text : List ℕ) → b.labels ≡ []
    → text ≡ (query_line 0 ++ ranked told 1 b.answers) ++ search_text (search_in b)
    → text ≡ file_text (b ∷ [])
text_is b text none is =
    is ∙ append_assoc (query_line 0) _ (search_text (search_in b))
    ∙ ap (λ (t : List ℕ). query_line 0 ++ (t ++ search_text (search_in b)))
    (lines_same 1 b.answers ∙ ap (λ (labels : List ℕ). concat (answer_lines 1 b.answers labels)) (sym none))
    ∙ ap (λ (t : List ℕ). query_line 0 ++ t)
    (sym (concat-append (answer_lines 1 b.answers b.labels) (search_lines (search_in b))))
    ∙ ap concat (sym (append-nil (block_lines 0 b)))

pub returns : goal.returns
returns g c =
    let ix = c.in_ok-index.index in
    let o = c.in_ok-outcome.outcome in
    let asked = c.new-task.ensures in
    let is = subst IsQuestion asked c.k-k.ensures.question in
    let legal = subst (λ (a : Question). Legal (search_over a ix 1 1) o) asked c.in_ok-outcome.ensures.legal in
    let certifies = c.in_ok-print.ensures.certificate _ c.args.settings.now.leaf_size 1 1 is c.in_ok-index.ensures.tree
    legal c.in_ok-outcome.ensures.straight in
    let said = certifies.0 in
    let block : Block = record {
      answers = o.pairs;
      labels = [];
      start = said.start;
      lines = said.queues;
      leaves = said.leaves;
    } in (
      block,
      record {
        answers = c.in_ok-outcome.ensures.answer ∙ ap (λ (a : Question). answer a.collection a.query a.k) asked;
        labels = refl;
        search = certifies.1;
      },
      text_is block _ refl
          (c.in_ok-extend_from_slice.ensures.items
          ∙ ap (λ (l : List ℕ). c.in_ok-text.text.items ++ l) (c.deref.ensures.value ∙ certifies.2)
          ∙ ap (λ (l : List ℕ). l ++ search_text said) c.in_ok-text.ensures),
    )
