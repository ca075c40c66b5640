-- What `nearest` writes with certificates holds for `verify` under the same words (`text_holds`).
use Rattle.std.proofs.Common.{◌≡◌, ℕ, ◌+◌, ◌<◌, ◌≤◌, List, [], ◌∷◌, ◌++◌, length, Option, None, Some, refl, sym, ap, ◌∙◌, subst, arith, append_assoc}
use Rattle.std.specs.Prelude.{ℤ, ◌^◌, IfSome}
use Rattle.std.specs.List.{All, concat}
use Rattle.command_words.specs.Limits.{IsWithin, OptionsKeepLimits}
use Rattle.command_words.specs.declared.options.Options.{Options}
use Rattle.series_core.specs.Answer.{answer}
use Rattle.series_core.specs.declared.pair.Pair.{Pair}
use Rattle.segment_sums.specs.Division.{IsDivision, division_of}
use Rattle.series_file.specs.Format.{HasForm, HasText}
use Rattle.series_file.specs.declared.error.Form.{Form}
use Rattle.series_file.specs.declared.error.Form.TheVariants.{Headed, Raw}
use Rattle.series_file.specs.declared.error.Loaded.{Loaded}
use Rattle.certificate.specs.Certified.{Asked, CertifyQueries, IsAsked, labels_of}
use Rattle.certificate.specs.Printed.{search_lines, search_text}
use Rattle.certificate.specs.Spelling.{answer_line as spelled_answer, answer_lines as answer_line_list, block_lines, lines_from, query_line as spelled_query}
use Rattle.certificate.specs.declared.block.Block.{Block}
use Rattle.certificate.proofs.ValidBlocks.{blocks_pass, blocks_spelled}
use Rattle.certificate.proofs.Whole.{verdict_answers}
use Rattle.search_run.specs.Certificates.{IsSound, subject_of}
use Rattle.search_run.specs.Layouts.{layout_of, segments_of}
use Rattle.search_run.specs.Nearests.{IsCertifiedPiece}
use Rattle.search_run.specs.Plans.{HasSegments}
use Rattle.search_run.specs.Texts.{IsTextFrom, IsTextOf, answer_line, answer_lines, query_line, query_text}

-- the lines of two lists
concat-both : (ls ks : List (List ℕ)) → concat (ls ++ ks) ≡ concat ls ++ concat ks
concat-both [] ks = refl
concat-both (l ∷ ls) ks = ap (λ (t : List ℕ). l ++ t) (concat-both ls ks) ∙ sym (append_assoc l (concat ls) (concat ks))

-- a line of an answer is spelled alike, with a label and without, and so is that of a query
line_same : (labels : Option (List ℕ)) (r : ℕ) (p : Pair) (ps : List Pair)
    → answer_line labels r p ≡ spelled_answer r p (labels_of labels (p ∷ ps))
line_same None r p ps = simp append_assoc
line_same (Some ls) r p ps = simp append_assoc

query_same : (i : ℕ) → query_line i ≡ spelled_query i
query_same i = simp append_assoc

-- so are the lines of answers
answers_same : (labels : Option (List ℕ)) (r : ℕ) (ps : List Pair)
    → answer_lines labels r ps ≡ concat (answer_line_list r ps (labels_of labels ps))
answers_same None r [] = refl
answers_same (Some ls) r [] = refl
answers_same None r (p ∷ ps) =
    ap (λ (t : List ℕ). t ++ answer_lines None (r + 1) ps) (line_same None r p ps)
    ∙ ap (λ (t : List ℕ). spelled_answer r p [] ++ t) (answers_same None (r + 1) ps)
answers_same (Some ls) r (p ∷ ps) =
    ap (λ (t : List ℕ). t ++ answer_lines (Some ls) (r + 1) ps) (line_same (Some ls) r p ps)
    ∙ ap (λ (t : List ℕ). spelled_answer r p (labels_of (Some ls) (p ∷ ps)) ++ t) (answers_same (Some ls) (r + 1) ps)

-- what is asked of series and queries, under these options
abbrev pub asked_of : Loaded → Loaded → Options → Asked
asked_of x y o = record {
  rows = x.rows;
  labels = x.labels;
  queries = y.rows;
  k = o.k;
  layout = layout_of x.rows.points o.segments o.table;
}

-- the pieces of queries are the lines of blocks that certify their answers
blocks_of : (x y : Loaded) (o : Options) (i : ℕ) (qs : List (List ℤ)) (text : List ℕ)
    → IsTextFrom (IsCertifiedPiece o x) i qs text
    → (bs : List Block) × CertifyQueries (asked_of x y o) o.leaf o.queues qs bs × (text ≡ concat (lines_from i bs))
blocks_of x y o i [] text is = ([], tt, is)
blocks_of x y o i (q ∷ qs) text is =
    let rest = blocks_of x y o (i + 1) qs is.1 is.3 in
    let lines = is.2 in
    let said = lines.1.0 in
    let ps : List Pair = answer x.rows q o.k in
    let block : Block = record {
      answers = ps;
      labels = labels_of x.labels ps;
      start = said.start;
      lines = said.queues;
      leaves = said.leaves;
    } in
    let piece : is.0 ≡ concat (block_lines i block) =
    lines.2 ∙ ap (λ (t : List ℕ). query_text x.labels i ps ++ t) lines.1.2
    ∙ append_assoc (query_line i) (answer_lines x.labels 1 ps) (search_text said)
    ∙ ap (λ (t : List ℕ). t ++ (answer_lines x.labels 1 ps ++ search_text said)) (query_same i)
    ∙ ap (λ (t : List ℕ). spelled_query i ++ t)
    (ap (λ (t : List ℕ). t ++ search_text said) (answers_same x.labels 1 ps)
    ∙ sym (concat-both (answer_line_list 1 ps (labels_of x.labels ps)) (search_lines said))) in (
      block ∷ rest.0,
      (record { answers = refl; labels = refl; search = lines.1.1 }, rest.1),
      is.4 ∙ ap (λ (t : List ℕ). t ++ is.1) piece
          ∙ ap (λ (t : List ℕ). concat (block_lines i block) ++ t) rest.2
          ∙ sym (concat-both (block_lines i block) (lines_from (i + 1) rest.0)),
    )

-- labels of a file: one a series, each of 64 bits
label_each : (form : Form) (x : Loaded) → HasForm form x.rows x.labels
    → IfSome x.labels (λ ls. length ls ≡ length x.rows.series) × IfSome x.labels (All (λ l. l < 2 ^ 64))
label_each form x has = by_form form x.labels has
  where
    by_form : (f : Form) (o : Option (List ℕ)) → HasForm f x.rows o
        → IfSome o (λ ls. length ls ≡ length x.rows.series) × IfSome o (All (λ l. l < 2 ^ 64))
    by_form (Raw n) o is = subst (λ (z : Option (List ℕ)). IfSome z (λ ls. length ls ≡ length x.rows.series)
        × IfSome z (All (λ l. l < 2 ^ 64))) (sym is.1) (tt, tt)
    by_form Headed None is = (tt, tt)
    by_form Headed (Some ls) is = is

-- the asked segments divide a series
divides : (n : ℕ) (segments : Option ℕ) → 0 < n → n ≤ 65536 → IfSome segments (IsWithin 1 16) → HasSegments segments n
    → IsDivision (division_of n (segments_of n segments))
divides n None some few within has = record {
  some_segments = omega arith;
  few_segments = omega arith;
  no_empty_segment = omega arith;
  short_row = few;
}
divides n (Some w) some few within has = record {
  some_segments = within.0;
  few_segments = within.1;
  no_empty_segment = has;
  short_row = few;
}

-- what is asked is within its limits
is_asked : (form : Form) (x y : Loaded) (o : Options) → OptionsKeepLimits o → HasText form x.rows x.labels
    → HasText form y.rows y.labels → x.rows.points ≡ y.rows.points → HasSegments o.segments x.rows.points
    → IsAsked (asked_of x y o)
is_asked form x y o limits first second lengths segments = record {
  rows = first.sound;
  queries = second.sound;
  some_rank = limits.k.0;
  few_ranks = limits.k.1;
  cuts = divides x.rows.points o.segments first.sound.some_point first.sound.length_limit limits.segments segments;
  row_length = refl;
  query_length = sym lengths;
  label_each = (label_each form x first.fits).0;
  label_fits = (label_each form x first.fits).1;
}

-- a text with certificates is sound
pub text_holds : (form : Form) (x y : Loaded) (o : Options) (text : List ℕ) → OptionsKeepLimits o
    → HasText form x.rows x.labels → HasText form y.rows y.labels → x.rows.points ≡ y.rows.points
    → HasSegments o.segments x.rows.points → IsTextOf (IsCertifiedPiece o x) y.rows.series text
    → IsSound (subject_of x y o) text
text_holds form x y o text limits first second lengths segments is =
    let blocks = blocks_of x y o 0 y.rows.series text is in
    let asked = is_asked form x y o limits first second lengths segments in
    let sound = blocks_pass (asked_of x y o) o.leaf o.queues blocks.0 asked blocks.1 in
    record {
      blocks = blocks.0;
      spelled = record {
        are_blocks = blocks_spelled (asked_of x y o) o.leaf o.queues blocks.0 asked limits.queues.0 limits.queues.1 blocks.1;
        text = blocks.2;
      };
      passed = sound;
      answers = verdict_answers x.rows x.labels y.rows o.k (layout_of x.rows.points o.segments o.table) blocks.0
          limits.k.0 sound;
    }
