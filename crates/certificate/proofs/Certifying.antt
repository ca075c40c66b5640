-- A block that certifies the answers to a query may be spelled (`may_be_spelled`).
use Rattle.std.proofs.Common.{◌≡◌, ℕ, zero, suc, ◌+◌, ◌-◌, ◌^◌, ◌<◌, ◌≤◌, ⊎_elim, inl, inr, List, [], ◌∷◌, length, map, get_or, drop, option_map, Option, Some, None, refl, sym, ap, ◌∙◌, subst, arith}
use Rattle.std.specs.Prelude.{ℤ, if◌then◌else◌, IfSome, is_some, min, slice_get, slice_index, slice_index_or}
use Rattle.std.specs.List.{All, AllByRecursion}
use Rattle.std.proofs.lemmas.List.{length-map, length-take}
use Rattle.std.proofs.lemmas.Bool.{cases_lt}
use Rattle.std.proofs.lemmas.Option.{none-some, same_Some, slice_get_within, get_or_from_slice_get}
use Rattle.list_totals.specs.Standing.{In}
use Rattle.isax_word.specs.declared.word.Part.{Part}
use Rattle.isax_word.specs.Word.{IsWord}
use Rattle.series_core.specs.Answer.{answer, pair_of, pairs_from, pairs_of}
use Rattle.series_core.specs.Collection.{Collection, IsSeries}
use Rattle.series_core.specs.Distance.{squared_distance}
use Rattle.series_core.specs.Order.{AllNear, distance_at}
use Rattle.series_core.specs.Pairs.{ascending, smallest}
use Rattle.series_core.specs.declared.distance.TheConstants.{NONE}
use Rattle.series_core.specs.declared.pair.Pair.{Pair}
use Rattle.series_core.specs.declared.queue_words.Entry.{Entry}
use Rattle.series_core.proofs.Parts.{has_take}
use Rattle.series_core.proofs.Parts as parts
use Rattle.series_core.proofs.Plain.{has_ascending, answer-smallest, length-ascending}
use Rattle.subtree_build.proofs.LeafWords.{leaf_has_segments}
use Rattle.subtree_build.specs.Fits.{IsTreeOf}
use Rattle.subtree_build.specs.Index.{IndexParts, IsIndex, leaf_at}
use Rattle.subtree_build.specs.Members.{series_at}
use Rattle.subtree_build.specs.Start.{start_leaf_of}
use Rattle.subtree_build.specs.declared.leaf.TreeLeaf.{TreeLeaf}
use Rattle.search_machine.specs.Basics.{EntryRight, start_of}
use Rattle.search_machine.specs.Ground.{Ground, opening_of, pairs_of as ground_pairs, start_limit}
use Rattle.search_machine.specs.declared.outcome.Start.{Start}
use Rattle.search_task.specs.Questions.{IsQuestion, Question, search_over, view_in}
use Rattle.search_task.proofs.BelowRoots.{leaf_has_word}
use Rattle.search_task.proofs.OfIndex.{distance_small}
use Rattle.search_task.proofs.StartLeaf.{start_is_leaf}
use Rattle.certificate.specs.declared.block.Block.{Block}
use Rattle.certificate.specs.declared.block.LeafLine.{LeafLine}
use Rattle.certificate.specs.declared.block.Said.{Said}
use Rattle.certificate.specs.declared.block.Said.TheVariants.{Scanned, Bound}
use Rattle.certificate.specs.Certified.{Asked, CertifiesQuery, IsAsked, labels_of, question_in}
use Rattle.certificate.specs.Grammar.{IsBlock, IsEntry, IsLeafLine, IsPair, IsSaid, IsStart}
use Rattle.certificate.specs.Printed.{IsRight, IsRightlySaid, search_in}
use Rattle.certificate.proofs.Certified.{bound_small}
use Rattle.certificate.proofs.Series.{has_series}

-- what holds of each item that stands in a list, and of each at a place
all_in : {X : Type 0} (P : X → Type 0) (xs : List X) → ((x : X) → In x xs → P x) → AllByRecursion P xs
all_in P [] each = tt
all_in P (x ∷ xs) each = (each x (inl refl), all_in P xs (λ y has. each y (inr has)))

pub all_at : {X : Type 0} (P : X → Type 0) (xs : List X) → ((i : ℕ) (x : X) → slice_get xs i ≡ Some x → P x)
    → AllByRecursion P xs
all_at P [] each = tt
all_at P (x ∷ xs) each = (each zero x refl, all_at P xs (λ i y here. each (suc i) y here))

-- the question of a query of the right length is one
pub is_question : (x : Asked) → IsAsked x → (q : List ℤ) → IsSeries x.queries.points q → IsQuestion (question_in x q)
is_question x asked q series = record {
  collection = asked.rows;
  some_rank = asked.some_rank;
  few_ranks = omega (arith, asked.few_ranks);
  cuts = asked.cuts;
  points = asked.row_length;
  query = series.points ∙ asked.query_length;
  values = series.values;
}

-- there are as many pairs as series
pub length-pairs_of : (s : ℕ) (rows : List (List ℤ)) (q : List ℤ) → length (pairs_from s rows q) ≡ length rows
length-pairs_of s [] q = refl
length-pairs_of s (xs ∷ rows) q = ap suc (length-pairs_of (s + 1) rows q)

-- an answer has the lesser of k and their number
pub answer_size : (c : Collection) (q : List ℤ) (k : ℕ) → length (answer c q k) ≡ min k (length c.series)
answer_size c q k =
    ap (λ (ps : List Pair). length ps) (answer-smallest c q k)
    ∙ length-take k (ascending (pairs_of c q))
    ∙ ap (min k) (length-ascending (pairs_of c q) ∙ length-pairs_of 0 c.series q)

-- each of them is the pair of a series
pub answer_real : (c : Collection) (q : List ℤ) (k : ℕ) (p : Pair) → In p (answer c q k)
    → (i : ℕ) × (xs : List ℤ) × (slice_get c.series i ≡ Some xs) × (p ≡ pair_of q (0 + i) xs)
answer_real c q k p has =
    has_series 0 c.series q p (has_ascending p (pairs_of c q)
    (has_take k p (ascending (pairs_of c q)) (subst (λ (ps : List Pair). In p ps) (answer-smallest c q k) has)))

-- no series is farther than NONE, nor is what stands past the last
distance_each : (a : Question) → IsQuestion a → (s : ℕ) → squared_distance (series_at a.collection s) a.query ≤ NONE
distance_each a question s =
    ⊎_elim
    (λ (low : s < length a.collection.series). distance_small a s question low)
    (λ (past : length a.collection.series ≤ s).
    let none : series_at a.collection s ≡ [] = get_or-past a.collection.series s [] past in
    let zero_far : squared_distance (series_at a.collection s) a.query ≡ 0 =
    ap (λ (xs : List ℤ). squared_distance xs a.query) none in
    omega arith)
    (cases_lt s (length a.collection.series))
  where
    get_or-past : (xs : List (List ℤ)) (n : ℕ) (d : List ℤ) → length xs ≤ n → get_or xs n d ≡ d
    get_or-past [] n d past = refl
    get_or-past (x ∷ xs) zero d past = absurd (omega arith)
    get_or-past (x ∷ xs) (suc n) d past = get_or-past xs n d (omega arith)

-- the pairs of some series are no farther than NONE, and so is a starting limit
pairs_near : (a : Question) (ix : IndexParts) (queues : ℕ) → IsQuestion a → (ss : List ℕ)
    → AllNear (ground_pairs (search_over a ix 1 queues) ss)
pairs_near a ix queues question [] p has = absurd has
pairs_near a ix queues question (s ∷ ss) p has =
    ⊎_elim
    (λ e. subst (λ (x : Pair). x.distance ≤ NONE) (sym e) (distance_each a question s))
    (λ t. pairs_near a ix queues question ss p t)
    has

limit_small : (a : Question) (ix : IndexParts) (queues : ℕ) → IsQuestion a
    → start_limit (search_over a ix 1 queues) ≤ NONE
limit_small a ix queues question = by_start (start_leaf_of (view_in a) ix)
  where
    g : Ground
    g = search_over a ix 1 queues

    by_start : (o : Option ℕ) → distance_at (a.k - 1) (opening_of g o) ≤ NONE
    by_start None = parts.distance_small (a.k - 1) [] (λ p has. absurd has)
    by_start (Some l) =
        let all : List Pair = ground_pairs g (g.members l) in
        parts.distance_small (a.k - 1) (smallest a.k all)
        (λ p has. pairs_near a ix queues question (g.members l) p
        (has_ascending p all (has_take a.k p (ascending all) has)))

-- a start may be spelled
start_spelled : (a : Question) (ix : IndexParts) (queues : ℕ) → IsQuestion a → IsIndex ix
    → IfSome (start_of (search_over a ix 1 queues)) IsStart
start_spelled a ix queues question index = by_start (start_leaf_of (view_in a) ix) refl
  where
    g : Ground
    g = search_over a ix 1 queues

    by_start : (o : Option ℕ) → start_leaf_of (view_in a) ix ≡ o
        → IfSome (option_map (λ (l : ℕ). record { leaf = l; limit = start_limit g }) o) IsStart
    by_start None e = tt
    by_start (Some l) e = record {
      leaf = omega (arith, start_is_leaf (view_in a) ix l index e, index.few_leaves);
      limit = omega (arith, limit_small a ix queues question);
    }

-- the words of leaf lines are those of the leaves
pub word_at_leaf : (leaves : List TreeLeaf) (lines : List LeafLine) (l : ℕ) (line : LeafLine)
    → map (λ (z : LeafLine). z.word) lines ≡ map (λ (z : TreeLeaf). z.word) leaves → slice_get lines l ≡ Some line
    → (l < length leaves) × (line.word ≡ (leaf_at leaves l).word)
word_at_leaf leaves [] l line same here = absurd (none-some line here)
word_at_leaf [] (k ∷ lines) l line same here =
    let none : suc (length (map (λ (z : LeafLine). z.word) lines)) ≡ 0 = ap (λ (ws : List (List Part)). length ws) same in
    absurd (omega arith)
word_at_leaf (x ∷ leaves) (k ∷ lines) zero line same here = (
  omega arith,
  ap (λ (z : LeafLine). z.word) (sym (same_Some k line here)) ∙ ap (λ (ws : List (List Part)). slice_index_or ws 0 []) same,
)
word_at_leaf (x ∷ leaves) (k ∷ lines) (suc l) line same here =
    let rest = word_at_leaf leaves lines l line (ap (λ (ws : List (List Part)). drop 1 ws) same) here in
    (omega (arith, rest.0), rest.1)

-- a block that certifies the answers to a query may be spelled
pub may_be_spelled : (x : Asked) (leaf_size queues : ℕ) (q : List ℤ) (b : Block) → IsAsked x
    → IsSeries x.queries.points q → 1 ≤ queues → queues ≤ 64 → CertifiesQuery x leaf_size queues q b
    → IsBlock x.layout.cuts.segments (is_some x.labels) b
may_be_spelled x leaf_size queues q b asked series some few certifies = record {
  few_answers = omega (arith, size, min_low x.k (length x.rows.series), asked.few_ranks);
  answers = subst (AllByRecursion IsPair) (sym certifies.answers) (all_in IsPair (answer x.rows q x.k) pair_spelled);
  labels_size = labels_many x.labels refl;
  labels = subst (AllByRecursion (λ l. l < 2 ^ 64)) (sym certifies.labels) (labels_spelled x.labels asked.label_fits b.answers);
  start = subst (λ (o : Option Start). IfSome o IsStart) (sym right.start) (start_spelled a ix queues question index);
  some_queue = omega (arith, right.queue_count);
  few_queues = omega (arith, right.queue_count);
  queues = all_at (AllByRecursion IsEntry) b.lines (λ m es here. all_in IsEntry es (λ e has. entry_spelled m e (right.entries m es here e has)));
  few_leaves = omega (arith, many, index.few_leaves);
  leaves = all_at (IsLeafLine x.layout.cuts.segments) b.leaves leaf_spelled;
}
  where
    a : Question
    a = question_in x q

    question : IsQuestion a
    question = is_question x asked q series

    ix : IndexParts
    ix = certifies.search.index

    index : IsIndex ix
    index = certifies.search.is_index

    right : IsRight a queues ix (search_in b)
    right = certifies.search.right

    tree : IsTreeOf a.collection a.layout leaf_size ix
    tree = certifies.search.is_tree

    size : length b.answers ≡ min x.k (length x.rows.series)
    size = ap (λ (ps : List Pair). length ps) certifies.answers ∙ answer_size x.rows q x.k

    min_low : (m n : ℕ) → min m n ≤ m
    min_low m n = omega arith

    pair_spelled : (p : Pair) → In p (answer x.rows q x.k) → IsPair p
    pair_spelled p has =
        let real = answer_real x.rows q x.k p has in
        let low = slice_get_within x.rows.series real.0 real.1 real.2 in
        let number : p.number ≡ 0 + real.0 = ap (λ (z : Pair). z.number) real.3 in
        let series_is : series_at x.rows real.0 ≡ real.1 =
        get_or_from_slice_get x.rows.series real.0 real.1 [] real.2 in
        let far : p.distance ≡ squared_distance (series_at x.rows real.0) q =
        ap (λ (z : Pair). z.distance) real.3 ∙ ap (λ (xs : List ℤ). squared_distance xs q) (sym series_is) in
        record {
          number = omega (arith, low, number, asked.rows.count_limit);
          distance = omega (arith, far, distance_each a question real.0);
        }

    labels_many : (o : Option (List ℕ)) → x.labels ≡ o
        → length b.labels ≡ (if is_some x.labels then length b.answers else 0)
    labels_many None e = ap (λ (ls : List ℕ). length ls) certifies.labels ∙ rw e refl
    labels_many (Some ls) e = ap (λ (zs : List ℕ). length zs) certifies.labels
        ∙ rw e (length-map b.answers (λ (p : Pair). slice_index ls p.number))

    beyond : (ls : List ℕ) (n : ℕ) → length ls ≤ n → slice_index ls n ≡ 0
    beyond [] n past = refl
    beyond (l ∷ ls) zero past = absurd (omega arith)
    beyond (l ∷ ls) (suc n) past = beyond ls n (omega arith)

    labels_spelled : (o : Option (List ℕ)) → IfSome o (All (λ l. l < 2 ^ 64)) → (ps : List Pair)
        → AllByRecursion (λ l. l < 2 ^ 64) (labels_of o ps)
    labels_spelled None fits ps = tt
    labels_spelled (Some ls) fits [] = tt
    labels_spelled (Some ls) fits (p ∷ ps) = (
      ⊎_elim
          (λ (low : p.number < length ls). fits p.number 0 low)
          (λ (past : length ls ≤ p.number). let none : slice_index ls p.number ≡ 0 = beyond ls p.number past in omega arith)
          (cases_lt p.number (length ls)),
      labels_spelled (Some ls) fits ps,
    )

    entry_spelled : (m : ℕ) (e : Entry) → EntryRight (search_over a ix 1 queues) m e → IsEntry e
    entry_spelled m e entry = record {
      leaf = omega (arith, entry.real, index.few_leaves);
      bound = omega (arith, entry.bound, bound_small a ix e.leaf question index tree.segments entry.real);
    }

    many : length b.leaves ≡ length ix.leaves
    many = sym (length-map b.leaves (λ (z : LeafLine). z.word)) ∙ ap (λ (ws : List (List Part)). length ws) right.words
        ∙ length-map ix.leaves (λ (z : TreeLeaf). z.word)

    leaf_spelled : (l : ℕ) (line : LeafLine) → slice_get b.leaves l ≡ Some line
        → IsLeafLine x.layout.cuts.segments line
    leaf_spelled l line here =
        let word = word_at_leaf ix.leaves b.leaves l line right.words here in
        record {
          size = ap (λ (w : List Part). length w) word.1 ∙ leaf_has_segments ix index l word.0 ∙ tree.segments;
          word = subst IsWord (sym word.1) (leaf_has_word ix index l word.0);
          said = said_spelled l word.0 line.said (right.said l line here);
        }
      where
        said_spelled : (n : ℕ) → n < length ix.leaves → (s : Said) → IsRightlySaid a (search_over a ix 1 queues) b.lines n s
            → IsSaid s
        said_spelled n low Scanned rightly = tt
        said_spelled n low (Bound bound) rightly =
            let own = rightly.2 in
            omega (arith, own, bound_small a ix n question index tree.segments low)
