-- The lines of lists, one more item at their end.
use Rattle.std.proofs.Common.{◌≡◌, ℕ, suc, ◌+◌, List, [], ◌∷◌, ◌++◌, length, refl, sym, ap, ◌∙◌, append_assoc, append-nil, arith}
use Rattle.series_core.specs.declared.pair.Pair.{Pair}
use Rattle.series_core.specs.declared.queue_words.Entry.{Entry}
use Rattle.certificate.specs.declared.block.Block.{Block}
use Rattle.certificate.specs.declared.block.LeafLine.{LeafLine}
use Rattle.certificate.specs.Spelling.{answer_line, answer_lines, queue_line, queue_lines, leaf_line, leaf_lines, block_lines, lines_from}

-- one more item, each of which has a line of its own that begins with its number
numbered_more : {X : Type 0} (line : ℕ → X → List ℕ) (lines : ℕ → List X → List (List ℕ))
    → ((m : ℕ) → lines m [] ≡ [])
    → ((m : ℕ) (x : X) (xs : List X) → lines m (x ∷ xs) ≡ line m x ∷ lines (m + 1) xs)
    → (m : ℕ) (xs : List X) (x : X) → lines m (xs ++ x ∷ []) ≡ lines m xs ++ line (m + length xs) x ∷ []
numbered_more line lines none one m [] x =
    let same : m ≡ m + 0 = omega arith in
    one m x [] ∙ ap (λ (ls : List (List ℕ)). line m x ∷ ls) (none (m + 1))
    ∙ ap (λ n. line n x ∷ []) same
    ∙ ap (λ (ls : List (List ℕ)). ls ++ line (m + 0) x ∷ []) (sym (none m))
numbered_more line lines none one m (y ∷ xs) x =
    let same : m + 1 + length xs ≡ m + suc (length xs) = omega arith in
    one m y (xs ++ x ∷ [])
    ∙ ap (λ (ls : List (List ℕ)). line m y ∷ ls)
    (numbered_more line lines none one (m + 1) xs x ∙ ap (λ n. lines (m + 1) xs ++ line n x ∷ []) same)
    ∙ ap (λ (ls : List (List ℕ)). ls ++ line (m + suc (length xs)) x ∷ []) (sym (one m y xs))

-- one more answer without a label
pub answers_more : (r : ℕ) (ps : List Pair) (p : Pair)
    → answer_lines r (ps ++ p ∷ []) [] ≡ answer_lines r ps [] ++ answer_line (r + length ps) p [] ∷ []
answers_more = numbered_more (λ r p. answer_line r p []) (λ r ps. answer_lines r ps []) (λ _. refl) (λ _ _ _. refl)

-- one more answer with its label
pub labelled_more : (r : ℕ) (ps : List Pair) (p : Pair) (lb : List ℕ) (label : ℕ) → length lb ≡ length ps
    → answer_lines r (ps ++ p ∷ []) (lb ++ label ∷ [])
    ≡ answer_lines r ps lb ++ answer_line (r + length ps) p (label ∷ []) ∷ []
labelled_more r [] p [] label size = let same : r ≡ r + 0 = omega arith in ap (λ n. answer_line n p (label ∷ []) ∷ []) same
labelled_more r [] p (x ∷ lb) label size = absurd (omega arith)
labelled_more r (q ∷ ps) p [] label size = absurd (omega arith)
labelled_more r (q ∷ ps) p (x ∷ lb) label size =
    let same : r + 1 + length ps ≡ r + suc (length ps) = omega arith in
    ap (λ (ls : List (List ℕ)). answer_line r q (x ∷ lb) ∷ ls)
    (labelled_more (r + 1) ps p lb label (omega arith)
    ∙ ap (λ n. answer_lines (r + 1) ps lb ++ answer_line n p (label ∷ []) ∷ []) same)

-- one more queue
pub queues_more : (m : ℕ) (ln : List (List Entry)) (es : List Entry)
    → queue_lines m (ln ++ es ∷ []) ≡ queue_lines m ln ++ queue_line (m + length ln) es ∷ []
queues_more = numbered_more queue_line queue_lines (λ _. refl) (λ _ _ _. refl)

-- one more leaf
pub leaves_more : (m : ℕ) (lv : List LeafLine) (f : LeafLine)
    → leaf_lines m (lv ++ f ∷ []) ≡ leaf_lines m lv ++ leaf_line (m + length lv) f ∷ []
leaves_more = numbered_more leaf_line leaf_lines (λ _. refl) (λ _ _ _. refl)

-- one more block
pub blocks_more : (i : ℕ) (d : List Block) (b : Block)
    → lines_from i (d ++ b ∷ []) ≡ lines_from i d ++ block_lines (i + length d) b
blocks_more i [] b =
    let same : i ≡ i + 0 = omega arith in append-nil (block_lines i b) ∙ ap (λ n. block_lines n b) same
blocks_more i (a ∷ d) b =
    let same : i + 1 + length d ≡ i + suc (length d) = omega arith in
    ap (λ (ls : List (List ℕ)). block_lines i a ++ ls)
    (blocks_more (i + 1) d b ∙ ap (λ n. lines_from (i + 1) d ++ block_lines n b) same)
    ∙ sym (append_assoc (block_lines i a) (lines_from (i + 1) d) (block_lines (i + suc (length d)) b))
