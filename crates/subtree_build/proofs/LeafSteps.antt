-- One more of the words (`words_step`), of the first leaves (`firsts_step`) and of the leaves (`counted_step`) of parts; and the leaves of
-- words and numbers of members, with these (`counted_cut`).
use Rattle.std.proofs.Common.{◌≡◌, ℕ, suc, ◌+◌, ◌<◌, ◌≤◌, List, [], ◌∷◌, ◌++◌, length, map, get_or, take, drop, refl, sym, ap, ◌∙◌, arith, append_assoc, length-append}
use Rattle.std.proofs.lemmas.List.{get_or_default, take-append-drop, take_more, length-take-le}
use Rattle.list_totals.specs.Totals.{total}
use Rattle.list_totals.proofs.Totals.{total_append, total_push}
use Rattle.isax_word.specs.declared.member.Member.{Member}
use Rattle.isax_word.specs.declared.word.Part.{Part}
use Rattle.isax_word.specs.Word.{one_bit_word}
use Rattle.subtree_build.specs.declared.leaf.TreeLeaf.{TreeLeaf}
use Rattle.subtree_build.specs.declared.node.Node.{Node}
use Rattle.subtree_build.specs.Assembly.{all_words, counted_leaves, cut_lists, leaf_words, leaves_with}
use Rattle.subtree_build.specs.Division.{leaf_with}
use Rattle.subtree_build.specs.Grown.{cut_leaves, grown_leaf, members_in}
use Rattle.subtree_build.specs.Outline.{outline, leaf_numbers}
use Rattle.subtree_build.specs.Places.{tree_firsts}
use Rattle.subtree_build.proofs.Flattened.{drop_at}
use Rattle.subtree_build.proofs.Assembled.{length-leaf_words}

-- the words of one node more
pub words_step : (w : ℕ) (roots : List ℕ) (nodes : List Node) (i : ℕ) (node : Node) (old new : List (List Part))
    → i < length roots → i < length nodes → node ≡ get_or nodes i node
    → new ≡ old ++ leaf_words (one_bit_word (get_or roots i 0) w) (outline node)
    → old ++ all_words w (drop i roots) (drop i nodes) ≡ all_words w roots nodes
    → new ++ all_words w (drop (i + 1) roots) (drop (i + 1) nodes) ≡ all_words w roots nodes
words_step w roots nodes i node old new low inside item put was =
    let root = get_or roots i 0 in
    let own = leaf_words (one_bit_word root w) (outline node) in
    let rest = all_words w (drop (i + 1) roots) (drop (i + 1) nodes) in
    let here : all_words w (drop i roots) (drop i nodes) ≡ own ++ rest
    = ap (λ (rs : List ℕ). all_words w rs (drop i nodes)) (drop_at roots i root low (get_or_default roots i 0 root low))
    ∙ ap (all_words w (root ∷ drop (i + 1) roots)) (drop_at nodes i node inside item) in
    ap (λ (ws : List (List Part)). ws ++ rest) put ∙ append_assoc old own rest ∙ ap (λ (ws : List (List Part)). old ++ ws) (sym here) ∙ was

-- the first leaf of one node more
pub firsts_step : (w : ℕ) (roots : List ℕ) (nodes : List Node) (i : ℕ) (node : Node) (old new : List (List Part))
    (firsts more : List ℕ) (first : ℕ) → i < length nodes → node ≡ get_or nodes i node
    → new ≡ old ++ leaf_words (one_bit_word (get_or roots i 0) w) (outline node) → first ≡ length old
    → more ≡ firsts ++ first ∷ []
    → firsts ++ tree_firsts (length old) (map outline (drop i nodes)) ≡ tree_firsts 0 (map outline nodes)
    → more ++ tree_firsts (length new) (map outline (drop (i + 1) nodes)) ≡ tree_firsts 0 (map outline nodes)
firsts_step w roots nodes i node old new firsts more first inside item put is pushed was =
    let word = one_bit_word (get_or roots i 0) w in
    let rest = map outline (drop (i + 1) nodes) in
    let long : length new ≡ length old + length (leaf_numbers node)
    = ap (λ (ws : List (List Part)). length ws) put ∙ length-append old (leaf_words word (outline node))
    ∙ ap (λ n. length old + n) (length-leaf_words word (outline node)) in
    ap (λ (ns : List ℕ). ns ++ tree_firsts (length new) rest) pushed
    ∙ append_assoc firsts (first ∷ []) (tree_firsts (length new) rest)
    ∙ ap (λ n. firsts ++ n ∷ tree_firsts (length new) rest) is
    ∙ ap (λ n. firsts ++ length old ∷ tree_firsts n rest) long
    ∙ ap (λ (ns : List Node). firsts ++ tree_firsts (length old) (map outline ns)) (sym (drop_at nodes i node inside item))
    ∙ was

-- one leaf more of words and numbers of members
pub counted_step : (words : List (List Part)) (counts : List ℕ) (i : ℕ) (word : List Part) (count : ℕ) → i < length words
    → i < length counts → word ≡ get_or words i word → count ≡ get_or counts i count
    → counted_leaves (take i words) (take i counts) ++ grown_leaf word count ∷ []
    ≡ counted_leaves (take (i + 1) words) (take (i + 1) counts)
counted_step words counts i word count low inside word_is count_is =
    with_push (take i words) (take i counts) word count (length-take-le i words (omega arith) ∙ sym (length-take-le i counts (omega arith)))
    ∙ ap (λ (ws : List (List Part)). counted_leaves ws (take i counts ++ count ∷ []))
    (sym (take_more words i word low ∙ ap (λ x. take i words ++ x ∷ []) (sym word_is)))
    ∙ ap (counted_leaves (take (i + 1) words))
    (sym (take_more counts i count inside ∙ ap (λ x. take i counts ++ x ∷ []) (sym count_is)))
  where
    with_push : (ws : List (List Part)) (ns : List ℕ) (w : List Part) (n : ℕ) → length ws ≡ length ns
        → counted_leaves ws ns ++ grown_leaf w n ∷ [] ≡ counted_leaves (ws ++ w ∷ []) (ns ++ n ∷ [])
    with_push [] [] w n same = refl
    with_push [] (k ∷ ns) w n same = absurd (omega (arith, same))
    with_push (v ∷ ws) [] w n same = absurd (omega (arith, same))
    with_push (v ∷ ws) (k ∷ ns) w n same = ap (λ xs. grown_leaf v k ∷ xs) (with_push ws ns w n (omega (arith, same)))

-- leaves of words and numbers of members have the members that their numbers cut off
pub counted_cut : (words : List (List Part)) (counts : List ℕ) (members : List Member)
    → cut_leaves (counted_leaves words counts) members ≡ leaves_with words (cut_lists counts members)
counted_cut [] counts members = refl
counted_cut (word ∷ words) [] members = refl
counted_cut (word ∷ words) (count ∷ counts) members =
    ap (λ (ls : List TreeLeaf). leaf_with word (take count members) ∷ ls) (counted_cut words counts (drop count members))

-- and as many as these add up to
pub counted_in : (words : List (List Part)) (counts : List ℕ) → length words ≡ length counts
    → members_in (counted_leaves words counts) ≡ total (λ n. n) counts
counted_in [] [] same = refl
counted_in [] (n ∷ counts) same = absurd (omega (arith, same))
counted_in (word ∷ words) [] same = absurd (omega (arith, same))
counted_in (word ∷ words) (n ∷ counts) same = ap (λ k. n + k) (counted_in words counts (omega (arith, same)))

-- a list for each number
pub length-cut_lists : (counts : List ℕ) (members : List Member) → length (cut_lists counts members) ≡ length counts
length-cut_lists [] members = refl
length-cut_lists (n ∷ counts) members = ap suc (length-cut_lists counts (drop n members))

-- one number more of those that add up
pub added_step : (counts : List ℕ) (i count : ℕ) → i < length counts → count ≡ get_or counts i count
    → total (λ n. n) (take (i + 1) counts) ≡ total (λ n. n) (take i counts) + count
added_step counts i count inside is =
    ap (total (λ n. n)) (take_more counts i count inside ∙ ap (λ x. take i counts ++ x ∷ []) (sym is))
    ∙ total_push (λ n. n) (take i counts) count

-- the first numbers add up to no more than all
pub added_some : (counts : List ℕ) (i : ℕ) → total (λ n. n) (take i counts) ≤ total (λ n. n) counts
added_some counts i =
    omega (
      arith,
      total_append (λ n. n) (take i counts) (drop i counts),
      ap (total (λ n. n)) (take-append-drop i counts),
    )
