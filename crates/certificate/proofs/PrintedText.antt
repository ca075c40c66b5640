-- Texts that are printed item by item: one more item makes the longer text.
use Rattle.std.proofs.Common.{◌≡◌, ℕ, zero, suc, ◌+◌, ◌<◌, ◌≤◌, List, [], ◌∷◌, ◌++◌, length, take, drop, get_or, refl, sym, ap, ◌∙◌, subst, arith, append_assoc, append-nil, drop-cons, Some}
use Rattle.std.specs.Prelude.{decimal, slice_get}
use Rattle.std.specs.List.{concat}
use Rattle.std.proofs.lemmas.List.{take_more, length-take-le, length-map}
use Rattle.std.proofs.lemmas.Option.{slice_get_read}
use Rattle.isax_word.specs.declared.word.Part.{Part}
use Rattle.series_core.specs.declared.queue_words.Entry.{Entry}
use Rattle.subtree_build.specs.declared.leaf.TreeLeaf.{TreeLeaf}
use Rattle.search_machine.specs.declared.outcome.Fate.{Fate}
use Rattle.search_machine.specs.declared.outcome.QueueLine.{QueueLine}
use Rattle.certificate.specs.declared.block.LeafLine.{LeafLine}
use Rattle.certificate.specs.Spelling.{entries_text, leaf_line, leaf_lines, part_text, parts_text, queue_line, queue_lines, word_text}
use Rattle.certificate.specs.Printed.{entries_taken, leaf_said, leaves_said}
use Rattle.certificate.proofs.LineLists.{leaves_more, queues_more}

-- a part put in front of further parts
pub parts_step : (old before next : List ℕ) (word : List Part) (j m : ℕ) (d : Part) → j < length word → m ≡ j + 1
    → before ≡ parts_text (drop m word) ++ old → next ≡ 44 ∷ (part_text (get_or word j d) ++ before)
    → next ≡ parts_text (drop j word) ++ old
parts_step old before next word j m d low after was grown =
    let part : Part = get_or word j d in
    let here : suc j ≡ j + 1 = omega arith in
    grown ∙ ap (λ (t : List ℕ). 44 ∷ (part_text part ++ t)) (was ∙ ap (λ n. parts_text (drop n word) ++ old) (after ∙ sym here))
    ∙ ap (λ (t : List ℕ). 44 ∷ t) (sym (append_assoc (part_text part) (parts_text (drop (suc j) word)) old))
    ∙ ap (λ (ps : List Part). parts_text ps ++ old) (sym (drop-cons word j d low))

-- all parts of a word without the first comma are the word
pub parts_word : (old before : List ℕ) (word : List Part) (m : ℕ) → m ≡ 0 → 0 < length word
    → before ≡ parts_text (drop m word) ++ old → (0 < length before) × (drop 1 before ≡ word_text word ++ old)
parts_word old before [] m none some was = absurd (omega arith)
parts_word old before (p ∷ ps) m none some was =
    let all : before ≡ parts_text (p ∷ ps) ++ old = was ∙ ap (λ n. parts_text (drop n (p ∷ ps)) ++ old) none in
    (subst (λ (t : List ℕ). 0 < length t) (sym all) (omega arith), ap (λ (t : List ℕ). drop 1 t) all)

-- the entries of two lists
entries_text-append : (es ds : List Entry) → entries_text (es ++ ds) ≡ entries_text es ++ entries_text ds
entries_text-append [] ds = refl
entries_text-append (e ∷ es) ds =
    ap (λ (t : List ℕ). 32 ∷ (decimal e.bound ++ (58 ∷ (decimal e.leaf ++ t)))) (entries_text-append es ds)
    ∙ sym (ap (λ (t : List ℕ). 32 ∷ t)
    (append_assoc (decimal e.bound) (58 ∷ (decimal e.leaf ++ entries_text es)) (entries_text ds)
    ∙ ap (λ (t : List ℕ). decimal e.bound ++ (58 ∷ t)) (append_assoc (decimal e.leaf) (entries_text es) (entries_text ds))))

-- one turn of the loop over entries
pub entries_step : (old text next : List ℕ) (es : List Entry) (i : ℕ) (d : Entry) → i < length es
    → text ≡ old ++ entries_text (take i es) → next ≡ text ++ entries_text (get_or es i d ∷ [])
    → next ≡ old ++ entries_text (take (i + 1) es)
entries_step old text next es i d low before grown =
    grown ∙ ap (λ (t : List ℕ). t ++ entries_text (get_or es i d ∷ [])) before
    ∙ append_assoc old (entries_text (take i es)) (entries_text (get_or es i d ∷ []))
    ∙ ap (λ (t : List ℕ). old ++ t)
    (sym (ap entries_text (take_more es i d low) ∙ entries_text-append (take i es) (get_or es i d ∷ [])))

-- the text of lines and of one more
concat-more : (ls : List (List ℕ)) (l : List ℕ) → concat (ls ++ l ∷ []) ≡ concat ls ++ l
concat-more [] l = append-nil l
concat-more (k ∷ ls) l = ap (λ (t : List ℕ). k ++ t) (concat-more ls l) ∙ sym (append_assoc k (concat ls) l)

-- one more line behind a text
more_lines : (old text next : List ℕ) (ls more : List (List ℕ)) (l : List ℕ) → more ≡ ls ++ l ∷ []
    → text ≡ old ++ concat ls → next ≡ text ++ l → next ≡ old ++ concat more
more_lines old text next ls more l same before grown =
    grown ∙ ap (λ (t : List ℕ). t ++ l) before
    ∙ append_assoc old (concat ls) l
    ∙ ap (λ (t : List ℕ). old ++ t) (sym (ap concat same ∙ concat-more ls l))

-- one turn of the loop over queues
pub queues_step : (old text next : List ℕ) (lines : List QueueLine) (m : ℕ) (d : QueueLine) → m < length lines
    → text ≡ old ++ concat (queue_lines 0 (entries_taken (take m lines)))
    → next ≡ text ++ queue_line m (get_or lines m d).taken
    → next ≡ old ++ concat (queue_lines 0 (entries_taken (take (m + 1) lines)))
queues_step old text next lines m d low =
    let taken : List (List Entry) = entries_taken (take m lines) in
    let size : 0 + length taken ≡ m =
    omega (arith, length-map (take m lines) (λ (line : QueueLine). line.taken), length-take-le m lines (omega arith)) in
    more_lines old text next (queue_lines 0 taken) (queue_lines 0 (entries_taken (take (m + 1) lines)))
    (queue_line m (get_or lines m d).taken)
    (ap (λ (ls : List QueueLine). queue_lines 0 (entries_taken ls)) (take_more lines m d low)
    ∙ ap (queue_lines 0) (map-append (take m lines) (get_or lines m d))
    ∙ queues_more 0 taken (get_or lines m d).taken
    ∙ ap (λ (n : ℕ). queue_lines 0 taken ++ queue_line n (get_or lines m d).taken ∷ []) size)
  where
    map-append : (ls : List QueueLine) (l : QueueLine) → entries_taken (ls ++ l ∷ []) ≡ entries_taken ls ++ l.taken ∷ []
    map-append [] l = refl
    map-append (k ∷ ls) l = ap (λ (es : List (List Entry)). k.taken ∷ es) (map-append ls l)

-- one more leaf, where there are as many fates as leaves
said-more : (leaves : List TreeLeaf) (fates : List Fate) (x : TreeLeaf) (f : Fate) (l : ℕ) → length fates ≡ l
    → get_or leaves l x ≡ x → l < length leaves
    → leaves_said leaves (fates ++ f ∷ []) ≡ leaves_said leaves fates ++ leaf_said x f ∷ []
said-more [] fates x f l size at low = absurd (omega arith)
said-more (y ∷ leaves) [] x f zero size at low =
    ap (λ (z : TreeLeaf). leaf_said z f ∷ []) at
said-more (y ∷ leaves) [] x f (suc l) size at low = absurd (omega arith)
said-more (y ∷ leaves) (g ∷ fates) x f zero size at low = absurd (omega arith)
said-more (y ∷ leaves) (g ∷ fates) x f (suc l) size at low =
    ap (λ (ls : List LeafLine). leaf_said y g ∷ ls)
    (said-more leaves fates x f l (omega arith) at (omega arith))

-- there is one leaf line a fate
pub length-leaves_said : (leaves : List TreeLeaf) (fates : List Fate) → length fates ≤ length leaves
    → length (leaves_said leaves fates) ≡ length fates
length-leaves_said leaves [] few = refl
length-leaves_said [] (f ∷ fates) few = absurd (omega arith)
length-leaves_said (y ∷ leaves) (f ∷ fates) few = ap suc (length-leaves_said leaves fates (omega arith))

-- one turn of the loop over leaves, whatever the fate of the leaf
pub leaves_step : (old text next line : List ℕ) (leaves : List TreeLeaf) (fates : List Fate) (l : ℕ) (x : TreeLeaf) (d : Fate)
    → l < length fates → length fates ≡ length leaves
    → text ≡ old ++ concat (leaf_lines 0 (leaves_said leaves (take l fates)))
    → ((fate : Fate) → slice_get fates l ≡ Some fate → line ≡ leaf_line l (leaf_said (get_or leaves l x) fate))
    → next ≡ text ++ line
    → next ≡ old ++ concat (leaf_lines 0 (leaves_said leaves (take (l + 1) fates)))
leaves_step old text next line leaves fates l x d low same before made grown =
    let front : List Fate = take l fates in
    let many : length front ≡ l = length-take-le l fates (omega arith) in
    let lines : List LeafLine = leaves_said leaves front in
    let fate : Fate = get_or fates l d in
    let leaf : TreeLeaf = get_or leaves l x in
    let said : LeafLine = leaf_said leaf fate in
    let size : 0 + length lines ≡ l = omega (arith, length-leaves_said leaves front (omega arith)) in
    more_lines old text next (leaf_lines 0 lines) (leaf_lines 0 (leaves_said leaves (take (l + 1) fates))) (leaf_line l said)
    (ap (λ (fs : List Fate). leaf_lines 0 (leaves_said leaves fs)) (take_more fates l d low)
    ∙ ap (leaf_lines 0)
    (said-more leaves front leaf fate l many (get_or-any leaves l x (omega arith)) (omega arith))
    ∙ leaves_more 0 lines said
    ∙ ap (λ (n : ℕ). leaf_lines 0 lines ++ leaf_line n said ∷ []) size)
    before (grown ∙ ap (λ (t : List ℕ). text ++ t) (made fate (slice_get_read fates (length fates) l fate refl low (fate-any fates l d low))))
  where
    get_or-any : (ls : List TreeLeaf) (n : ℕ) (d : TreeLeaf) → n < length ls → get_or ls n (get_or ls n d) ≡ get_or ls n d
    get_or-any [] n d inside = absurd (omega arith)
    get_or-any (y ∷ ls) zero d inside = refl
    get_or-any (y ∷ ls) (suc n) d inside = get_or-any ls n d (omega arith)

    fate-any : (fs : List Fate) (n : ℕ) (d : Fate) → n < length fs → get_or fs n d ≡ get_or fs n (get_or fs n d)
    fate-any [] n d inside = absurd (omega arith)
    fate-any (f ∷ fs) zero d inside = refl
    fate-any (f ∷ fs) (suc n) d inside = fate-any fs n d (omega arith)

-- the text of a certificate is that of its start, its queues and its leaves
pub whole_text : (start : List ℕ) (queues leaves : List (List ℕ)) (empty first second third : List ℕ)
    → empty ≡ [] → first ≡ empty ++ start → second ≡ first ++ concat queues → third ≡ second ++ concat leaves
    → third ≡ start ++ concat (queues ++ leaves)
whole_text start queues leaves empty first second third none a b c =
    c ∙ ap (λ (t : List ℕ). t ++ concat leaves) (b ∙ ap (λ (t : List ℕ). t ++ concat queues) (a ∙ ap (λ (t : List ℕ). t ++ start) none))
    ∙ append_assoc start (concat queues) (concat leaves)
    ∙ ap (λ (t : List ℕ). start ++ t) (sym (concat-append queues leaves))
  where
    concat-append : (ls ks : List (List ℕ)) → concat (ls ++ ks) ≡ concat ls ++ concat ks
    concat-append [] ks = refl
    concat-append (l ∷ ls) ks = ap (λ (t : List ℕ). l ++ t) (concat-append ls ks) ∙ sym (append_assoc l (concat ls) (concat ks))
