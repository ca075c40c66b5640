-- What a legal and straight outcome over the tree says of the search certifies its answers (`outcome_certifies`).
use Rattle.std.proofs.Common.{◌≡◌, ℕ, zero, suc, ◌-◌, ◌^◌, ◌<◌, ◌≤◌, inl, inr, List, [], ◌∷◌, length, map, Option, Some, None, refl, sym, ap, ◌∙◌, subst, arith}
use Rattle.std.specs.Prelude.{IsSomeAnd, slice_get}
use Rattle.std.proofs.lemmas.List.{length-map}
use Rattle.std.proofs.lemmas.Option.{none-some, same_Some, slice_get_within}
use Rattle.list_totals.specs.Standing.{In}
use Rattle.list_totals.proofs.Totals.{total_map}
use Rattle.isax_word.specs.declared.word.Part.{Part}
use Rattle.series_core.specs.Answer.{answer, distance_or_none}
use Rattle.series_core.specs.declared.pair.Pair.{Pair}
use Rattle.series_core.specs.declared.queue_words.Entry.{Entry}
use Rattle.segment_sums.proofs.Sums.{segment_sum_within}
use Rattle.lower_bound.proofs.Views.{IsView-view_of, word_bound-lt}
use Rattle.subtree_build.proofs.LeafWords.{leaf_has_segments}
use Rattle.subtree_build.specs.Fits.{IsTreeOf}
use Rattle.subtree_build.specs.Index.{IndexParts, IsIndex, leaf_at}
use Rattle.subtree_build.specs.declared.leaf.TreeLeaf.{TreeLeaf}
use Rattle.search_machine.specs.Basics.{EntryRight, Ordered, entered}
use Rattle.search_machine.specs.Ground.{Ground}
use Rattle.search_machine.specs.Legal.{FateRight, IsStraight, Legal, in_lines}
use Rattle.search_machine.specs.declared.outcome.Fate.{Fate}
use Rattle.search_machine.specs.declared.outcome.Fate.TheVariants.{Start as StartFate, Queue as QueueFate, Late as LateFate, Bound as BoundFate}
use Rattle.search_machine.specs.declared.outcome.Outcome.{Outcome}
use Rattle.search_machine.specs.declared.outcome.QueueLine.{QueueLine}
use Rattle.search_machine.proofs.Places.{total_at}
use Rattle.search_task.specs.Questions.{Question, IsQuestion, leaf_bound, search_over, view_in}
use Rattle.search_task.proofs.BelowRoots.{leaf_has_word}
use Rattle.search_task.proofs.OfIndex.{last_is}
use Rattle.certificate.specs.declared.block.LeafLine.{LeafLine}
use Rattle.certificate.specs.Printed.{Certifies, IsRightlySaid, entries_taken, leaves_said, outcome_said, said_of, times_taken}

-- the line whose entries stand at a place
line_taken : (lines : List QueueLine) (m : ℕ) (es : List Entry) → slice_get (entries_taken lines) m ≡ Some es
    → (line : QueueLine) × (slice_get lines m ≡ Some line) × (line.taken ≡ es)
line_taken [] m es here = absurd (none-some es here)
line_taken (line ∷ lines) zero es here = (line, refl, same_Some line.taken es here)
line_taken (line ∷ lines) (suc m) es here = line_taken lines m es here

-- what a leaf line says is what is said of the fate at its place
fate_said : (leaves : List TreeLeaf) (fates : List Fate) (l : ℕ) (leaf : LeafLine)
    → slice_get (leaves_said leaves fates) l ≡ Some leaf
    → (fate : Fate) × (slice_get fates l ≡ Some fate) × (leaf.said ≡ said_of fate)
fate_said leaves [] l leaf here = absurd (none-some leaf here)
fate_said [] (f ∷ fates) l leaf here = absurd (none-some leaf here)
fate_said (x ∷ leaves) (f ∷ fates) zero leaf here =
    let made : LeafLine = record { word = x.word; said = said_of f } in
    (f, refl, ap (λ (z : LeafLine). z.said) (sym (same_Some made leaf here)))
fate_said (x ∷ leaves) (f ∷ fates) (suc l) leaf here = fate_said leaves fates l leaf here

-- the words are those of the leaves
words_said : (leaves : List TreeLeaf) (fates : List Fate) → length fates ≡ length leaves
    → map (λ (z : LeafLine). z.word) (leaves_said leaves fates) ≡ map (λ (z : TreeLeaf). z.word) leaves
words_said [] [] same = refl
words_said [] (f ∷ fates) same = absurd (omega arith)
words_said (x ∷ leaves) [] same = absurd (omega arith)
words_said (x ∷ leaves) (f ∷ fates) same =
    ap (λ (ws : List (List Part)). x.word ∷ ws) (words_said leaves fates (omega arith))

-- a leaf stands as often in the lines of an outcome as in the queues that are said
taken_in_lines : (l : ℕ) (lines : List QueueLine) → times_taken l (entries_taken lines) ≡ in_lines l lines
taken_in_lines l lines = total_map (entered l) (λ (line : QueueLine). line.taken) lines

-- a bound that a word can have is above the last distance only where there is a last pair
above_last : (o : Option Pair) (bound : ℕ) → distance_or_none o < bound → bound < 2 ^ 49
    → IsSomeAnd o (λ p. p.distance < bound)
above_last None bound above small = absurd (omega arith)
above_last (Some p) bound above small = above

-- the bound of a leaf is below 2^49
pub bound_small : (a : Question) (ix : IndexParts) (l : ℕ) → IsQuestion a → IsIndex ix
    → ix.segments ≡ a.layout.cuts.segments → l < length ix.leaves → leaf_bound (view_in a) ix l < 2 ^ 49
bound_small a ix l question index same low =
    word_bound-lt (view_in a) (leaf_at ix.leaves l).word
    (IsView-view_of a.layout a.query question.cuts
    (λ j used. (segment_sum_within a.layout.cuts a.query j question.cuts question.query question.values used).0)
    (λ j used. (segment_sum_within a.layout.cuts a.query j question.cuts question.query question.values used).1))
    (leaf_has_word ix index l low).parts (leaf_has_segments ix index l low ∙ same)

-- what a legal and straight outcome over the tree says of the search certifies its answers
pub outcome_certifies : (a : Question) (leaf_size workers queues : ℕ) (ix : IndexParts) (o : Outcome)
    → IsQuestion a → IsIndex ix → IsTreeOf a.collection a.layout leaf_size ix
    → Legal (search_over a ix workers queues) o → IsStraight o → Certifies a leaf_size queues (outcome_said ix o)
outcome_certifies a leaf_size workers queues ix o question index tree legal straight = record {
  index = ix;
  is_index = index;
  is_tree = tree;
  right = record {
    start = legal.start;
    queue_count = length-map o.lines (λ (line : QueueLine). line.taken) ∙ legal.line_count;
    ascending = ascends;
    entries = entry_right;
    once = λ l. subst (λ n. n ≤ 1) (sym (taken_in_lines l o.lines)) (legal.once l);
    words = words_said ix.leaves o.fates legal.fate_count;
    said = rightly;
  };
}
  where
    g : Ground
    g = search_over a ix 1 queues

    ascends : (m : ℕ) (es : List Entry) → slice_get (entries_taken o.lines) m ≡ Some es → Ordered es
    ascends m es here =
        let found = line_taken o.lines m es here in
        subst Ordered found.2 (straight.lines m found.0 found.1)

    entry_right : (m : ℕ) (es : List Entry) → slice_get (entries_taken o.lines) m ≡ Some es
        → (e : Entry) → In e es → EntryRight g m e
    entry_right m es here e has =
        let found = line_taken o.lines m es here in
        let right = legal.entries m found.0 found.1 e (subst (λ xs. In e xs) (sym found.2) has) in
        record { bound = right.bound; real = right.real; other = right.other; queue = right.queue; near = right.near }

    by_fate : (l : ℕ) (fate : Fate) → slice_get o.fates l ≡ Some fate
        → FateRight (search_over a ix workers queues) o l fate
        → IsRightlySaid a g (entries_taken o.lines) l (said_of fate)
    by_fate l StartFate here right = inl right
    by_fate l (QueueFate m) here right =
        let line = right.0 in
        let some = line.there in
        let all = total_at (λ (z : QueueLine). entered l z.taken) o.lines m line.line line.at in
        inr (omega (arith, taken_in_lines l o.lines))
    by_fate l (LateFate i) here right = absurd (straight.no_late l i here)
    by_fate l (BoundFate b) here right =
        let inside = slice_get_within o.fates l (BoundFate b) here in
        let low : l < length ix.leaves = omega (arith, legal.fate_count) in
        let last = last_is a ix workers queues question in
        let bound = bound_small a ix l question index tree.segments low in
        let own = right.1 in (
          right.0.0,
          taken_in_lines l o.lines ∙ right.0.1,
          own,
          above_last (slice_get (answer a.collection a.query a.k) (a.k - 1)) b (omega (arith, right.2)) (omega arith),
        )

    rightly : (l : ℕ) (leaf : LeafLine) → slice_get (leaves_said ix.leaves o.fates) l ≡ Some leaf
        → IsRightlySaid a g (entries_taken o.lines) l leaf.said
    rightly l leaf here =
        let found = fate_said ix.leaves o.fates l leaf here in
        subst (IsRightlySaid a g (entries_taken o.lines) l) (sym found.2)
        (by_fate l found.0 found.1 (legal.fates l found.0 found.1))
