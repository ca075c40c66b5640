-- Lines: each that is read is spelled so, and each that is spelled so is read again.
use Rattle.std.proofs.Common.{◌≡◌, ℕ, ◌-◌, ◌^◌, ◌<◌, ◌≤◌, List, [], ◌∷◌, ◌++◌, length, Bool, true, false, cond, Option, Some, None, refl, ap, subst, ◌∙◌, length-append, arith}
use Rattle.std.specs.Prelude.{decimal, codes, IfSome}
use Rattle.std.specs.List.{AllByRecursion}
use Rattle.series_core.specs.declared.pair.Pair.{Pair}
use Rattle.series_core.specs.declared.queue_words.Entry.{Entry}
use Rattle.search_machine.specs.declared.outcome.Start.{Start}
use Rattle.certificate.specs.declared.block.LeafLine.{LeafLine}
use Rattle.certificate.specs.declared.block.Said.{Said}
use Rattle.certificate.specs.declared.block.Said.TheVariants.{Scanned, Bound}
use Rattle.certificate.specs.Spelling.{line_end, query_line, label_text, answer_line, limit_text, start_line, entries_text, queue_line, word_text, said_text, leaf_line}
use Rattle.certificate.specs.Grammar.{IsPair, IsEntry, IsStart, IsLeafLine}
use Rattle.certificate.specs.Fields.{after, number_at, entries_at, word_at, said_at, limit_at, labels_at}
use Rattle.certificate.specs.LineForms.{query_of, answer_of, start_leaf_of, start_by, start_of, queue_of, leaf_of}
use Rattle.certificate.proofs.Binding.{bind_then, ended_takes}
use Rattle.certificate.proofs.Fronts.{after_takes, after_again}
use Rattle.certificate.proofs.NumberTexts.{Stops, number_takes, number_again}
use Rattle.certificate.proofs.Spelled.{entries_take}
use Rattle.certificate.proofs.SpelledWords.{word_takes, said_takes, limit_takes, labels_take}
use Rattle.certificate.proofs.Again.{not_number, entries_again, entries_size, word_again, said_again, limit_again, no_label_again, label_again}

-- the line of a query
pub query_takes : (i j : ℕ) (line : List ℕ) → query_of i line ≡ Some j → line ≡ query_line i
unfolding query_of
query_takes i j line read =
    bind_then (after (codes "query ") line) _ j read (λ word word_is read1.
    bind_then (after (decimal i) word) _ j read1 (λ rest rest_is read2.
    let end = ended_takes i j rest read2 in
    after_takes (codes "query ") line word word_is
    ∙ ap (λ (t : List ℕ). codes "query " ++ t)
    (after_takes (decimal i) word rest rest_is ∙ ap (λ (t : List ℕ). decimal i ++ t) end.1)))

pub query_again : (i : ℕ) → query_of i (query_line i) ≡ Some i
unfolding query_of
query_again i = rw (after_again (decimal i) line_end) refl

-- the line of an answer
pub answer_takes : (labelled : Bool) (r : ℕ) (line : List ℕ) (p : Pair) (ls : List ℕ)
    → answer_of labelled r line ≡ Some (p, ls)
    → (line ≡ answer_line r p ls) × IsPair p × AllByRecursion (λ l. l < 2 ^ 64) ls × (length ls ≡ cond labelled 1 0)
unfolding answer_of
answer_takes labelled r line p ls read =
    bind_then (after (decimal r) line) _ (p, ls) read (λ rank rank_is read1.
    bind_then (after (32 ∷ []) rank) _ (p, ls) read1 (λ space space_is read2.
    bind_then (number_at (2 ^ 32 - 1) space) _ (p, ls) read2 (λ number number_is read3.
    bind_then (after (32 ∷ []) number.1) _ (p, ls) read3 (λ further further_is read4.
    bind_then (number_at (2 ^ 64 - 1) further) _ (p, ls) read4 (λ distance distance_is read5.
    bind_then (labels_at labelled distance.1) _ (p, ls) read5 (λ labels labels_are read6.
    let made : Pair × List ℕ = (record { distance = distance.0; number = number.0 }, labels.0) in
    let end = ended_takes made (p, ls) labels.1 read6 in
    let first = after_takes (decimal r) line rank rank_is in
    let second = after_takes (32 ∷ []) rank space space_is in
    let third = number_takes (2 ^ 32 - 1) space number.1 number.0 (omega arith) number_is in
    let fourth = after_takes (32 ∷ []) number.1 further further_is in
    let fifth = number_takes (2 ^ 64 - 1) further distance.1 distance.0 (omega arith) distance_is in
    let sixth = labels_take labelled distance.1 labels.1 labels.0 labels_are in
    subst
    (λ (x : Pair × List ℕ). (line ≡ answer_line r x.0 x.1) × IsPair x.0 × AllByRecursion (λ l. l < 2 ^ 64) x.1
    × (length x.1 ≡ cond labelled 1 0))
    end.0 (
      first ∙ ap (λ (t : List ℕ). decimal r ++ t) (second ∙ ap (λ (t : List ℕ). 32 ∷ t)
          (third.0 ∙ ap (λ (t : List ℕ). decimal number.0 ++ t) (fourth ∙ ap (λ (t : List ℕ). 32 ∷ t)
          (fifth.0 ∙ ap (λ (t : List ℕ). decimal distance.0 ++ t)
          (sixth.0 ∙ ap (λ (t : List ℕ). label_text labels.0 ++ t) end.1))))),
      record { number = omega (arith, third.1); distance = omega (arith, fifth.1) },
      sixth.1,
      sixth.2,
    )))))))

pub answer_again : (r : ℕ) (p : Pair) → IsPair p → answer_of false r (answer_line r p []) ≡ Some (p, [])
unfolding answer_of
answer_again r p fits =
    rw (after_again (decimal r) (32 ∷ (decimal p.number ++ (32 ∷ (decimal p.distance ++ line_end)))))
    (rw (number_again (2 ^ 32 - 1) p.number (32 ∷ (decimal p.distance ++ line_end)) (omega arith) (omega (arith, fits.number)) refl)
    (rw (number_again (2 ^ 64 - 1) p.distance line_end (omega arith) (omega (arith, fits.distance)) refl)
    (rw (no_label_again line_end) refl)))

pub labelled_again : (r : ℕ) (p : Pair) (l : ℕ) (ls : List ℕ) → IsPair p → l < 2 ^ 64
    → answer_of true r (answer_line r p (l ∷ ls)) ≡ Some (p, l ∷ [])
unfolding answer_of
labelled_again r p l ls fits small =
    rw (after_again (decimal r) (32 ∷ (decimal p.number ++ (32 ∷ (decimal p.distance ++ ((32 ∷ decimal l) ++ line_end))))))
    (rw (number_again (2 ^ 32 - 1) p.number (32 ∷ (decimal p.distance ++ ((32 ∷ decimal l) ++ line_end))) (omega arith)
    (omega (arith, fits.number)) refl)
    (rw (number_again (2 ^ 64 - 1) p.distance ((32 ∷ decimal l) ++ line_end) (omega arith) (omega (arith, fits.distance)) refl)
    (rw (label_again l line_end small refl) refl)))

-- the leaf and the limit of a start
start_leaf_takes : (text : List ℕ) (s : Option Start) → start_leaf_of text ≡ Some s
    → (codes "start " ++ text ≡ start_line s) × IfSome s IsStart
unfolding start_leaf_of
start_leaf_takes text s read =
    bind_then (number_at (2 ^ 32 - 1) text) _ s read (λ leaf leaf_is read1.
    bind_then (after (32 ∷ []) leaf.1) _ s read1 (λ space space_is read2.
    bind_then (limit_at space) _ s read2 (λ limit limit_is read3.
    let made : Option Start = Some (record { leaf = leaf.0; limit = limit.0 }) in
    let end = ended_takes made s limit.1 read3 in
    let first = number_takes (2 ^ 32 - 1) text leaf.1 leaf.0 (omega arith) leaf_is in
    let second = after_takes (32 ∷ []) leaf.1 space space_is in
    let third = limit_takes space limit.1 limit.0 limit_is in
    subst (λ (x : Option Start). (codes "start " ++ text ≡ start_line x) × IfSome x IsStart) end.0 (
      ap (λ (t : List ℕ). codes "start " ++ t)
          (first.0 ∙ ap (λ (t : List ℕ). decimal leaf.0 ++ t) (second ∙ ap (λ (t : List ℕ). 32 ∷ t)
          (third.0 ∙ ap (λ (t : List ℕ). limit_text limit.0 ++ t) end.1))),
      record { leaf = omega (arith, first.1); limit = third.1 },
    ))))

-- the line of a start
pub start_takes : (line : List ℕ) (s : Option Start) → start_of line ≡ Some s → (line ≡ start_line s) × IfSome s IsStart
unfolding start_of
start_takes line s read =
    bind_then (after (codes "start ") line) _ s read (λ rest rest_is read1.
    let first = after_takes (codes "start ") line rest rest_is in
    let found = by_front rest (after (codes "none") rest) refl read1 in
    (first ∙ found.0, found.1))
  where
    by_front : (rest : List ℕ) (o : Option (List ℕ)) → after (codes "none") rest ≡ o → start_by o rest ≡ Some s
        → (codes "start " ++ rest ≡ start_line s) × IfSome s IsStart
    by_front rest (Some behind) front started =
        let none : Option Start = None in
        let end = ended_takes none s behind started in
        subst (λ (x : Option Start). (codes "start " ++ rest ≡ start_line x) × IfSome x IsStart) end.0 (
          ap (λ (t : List ℕ). codes "start " ++ t)
              (after_takes (codes "none") rest behind front ∙ ap (λ (t : List ℕ). codes "none" ++ t) end.1),
          tt,
        )
    by_front rest None front started = start_leaf_takes rest s started

start_leaf_again : (s : Start) → IsStart s
    → start_leaf_of (decimal s.leaf ++ (32 ∷ (limit_text s.limit ++ line_end))) ≡ Some (Some s)
unfolding start_leaf_of
start_leaf_again s fits =
    rw (number_again (2 ^ 32 - 1) s.leaf (32 ∷ (limit_text s.limit ++ line_end)) (omega arith) (omega (arith, fits.leaf)) refl)
    (rw (limit_again s.limit line_end fits.limit refl) refl)

pub start_again : (s : Option Start) → IfSome s IsStart → start_of (start_line s) ≡ Some s
unfolding start_of
start_again None fits = refl
start_again (Some s) fits =
    ap (λ o. start_by o (decimal s.leaf ++ (32 ∷ (limit_text s.limit ++ line_end))))
    (not_number 110 (111 ∷ 110 ∷ 101 ∷ []) (32 ∷ (limit_text s.limit ++ line_end)) s.leaf (omega (arith, fits.leaf)) (omega arith))
    ∙ start_leaf_again s fits

-- the line of a queue
pub queue_takes : (m : ℕ) (line : List ℕ) (es : List Entry) → queue_of m line ≡ Some es
    → (line ≡ queue_line m es) × AllByRecursion IsEntry es
unfolding queue_of
queue_takes m line es read =
    bind_then (after (codes "queue ") line) _ es read (λ word word_is read1.
    bind_then (after (decimal m) word) _ es read1 (λ number number_is read2.
    bind_then (entries_at (length number) number) _ es read2 (λ entries entries_are read3.
    let end = ended_takes entries.0 es entries.1 read3 in
    let many = entries_take (length number) number entries.1 entries.0 entries_are in
    subst (λ (x : List Entry). (line ≡ queue_line m x) × AllByRecursion IsEntry x) end.0 (
      after_takes (codes "queue ") line word word_is ∙ ap (λ (t : List ℕ). codes "queue " ++ t)
          (after_takes (decimal m) word number number_is ∙ ap (λ (t : List ℕ). decimal m ++ t)
          (many.0 ∙ ap (λ (t : List ℕ). entries_text entries.0 ++ t) end.1)),
      many.1,
    ))))

pub queue_again : (m : ℕ) (es : List Entry) → AllByRecursion IsEntry es → queue_of m (queue_line m es) ≡ Some es
unfolding queue_of
queue_again m es fits =
    let text : List ℕ = entries_text es ++ line_end in
    let size = length-append (entries_text es) line_end in
    let few = entries_size es in
    rw (after_again (decimal m) text)
    (rw (entries_again (length text) es line_end fits (omega arith) refl refl) refl)

-- the line of a leaf
pub leaf_takes : (segments l : ℕ) (line : List ℕ) (leaf : LeafLine) → 1 ≤ segments → segments ≤ 16
    → leaf_of segments l line ≡ Some leaf → (line ≡ leaf_line l leaf) × IsLeafLine segments leaf
unfolding leaf_of
leaf_takes segments l line leaf some few read =
    bind_then (after (codes "leaf ") line) _ leaf read (λ start start_is read1.
    bind_then (after (decimal l) start) _ leaf read1 (λ number number_is read2.
    bind_then (after (codes " word ") number) _ leaf read2 (λ middle middle_is read3.
    bind_then (word_at segments middle) _ leaf read3 (λ word word_is read4.
    bind_then (said_at word.1) _ leaf read4 (λ said said_is read5.
    let made : LeafLine = record { word = word.0; said = said.0 } in
    let end = ended_takes made leaf said.1 read5 in
    let parts = word_takes segments middle word.1 word.0 some few word_is in
    let tail = said_takes word.1 said.1 said.0 said_is in
    subst (λ (x : LeafLine). (line ≡ leaf_line l x) × IsLeafLine segments x) end.0 (
      after_takes (codes "leaf ") line start start_is ∙ ap (λ (t : List ℕ). codes "leaf " ++ t)
          (after_takes (decimal l) start number number_is ∙ ap (λ (t : List ℕ). decimal l ++ t)
          (after_takes (codes " word ") number middle middle_is ∙ ap (λ (t : List ℕ). codes " word " ++ t)
          (parts.0 ∙ ap (λ (t : List ℕ). word_text word.0 ++ t)
          (tail.0 ∙ ap (λ (t : List ℕ). said_text said.0 ++ t) end.1)))),
      record { size = parts.1; word = parts.2; said = tail.1 },
    ))))))

-- no digit stands where it is said what became of a leaf
said_stops : (leaf : LeafLine) (rest : List ℕ) → Stops (said_text leaf.said ++ rest)
said_stops leaf rest = by_said leaf.said
  where
    by_said : (s : Said) → Stops (said_text s ++ rest)
    by_said Scanned = refl
    by_said (Bound b) = refl

pub leaf_again : (segments l : ℕ) (leaf : LeafLine) → IsLeafLine segments leaf
    → leaf_of segments l (leaf_line l leaf) ≡ Some leaf
unfolding leaf_of
leaf_again segments l leaf fits =
    let tail : List ℕ = said_text leaf.said ++ line_end in
    rw (after_again (decimal l) (codes " word " ++ (word_text leaf.word ++ tail)))
    (rw (word_again segments leaf.word tail fits.size fits.word (said_stops leaf line_end))
    (rw (said_again leaf.said line_end fits.said refl) refl))
