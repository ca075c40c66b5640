-- Root children read one after another: before the first (`no_roots_yet`), the next (`one_root_more`), none (`no_root`), and
-- all (`all_roots`).
use Rattle.std.proofs.Common.{◌≡◌, ℕ, suc, ◌+◌, ◌-◌, ◌^◌, ◌<◌, ◌≤◌, Bool, true, false, List, [], ◌∷◌, ◌++◌, length, map, drop, Some, None, refl, sym, ap, ◌∙◌, arith, append_assoc, append-nil, length-append, zero-add, add-zero}
use Rattle.std.specs.Prelude.{◌&&◌, nat_le, nat_lt}
use Rattle.std.specs.List.{flat_map}
use Rattle.std.proofs.lemmas.Bool.{cond-true, cond-false}
use Rattle.std.proofs.lemmas.Bool.Decides.{nat_tests}
use Rattle.std.proofs.lemmas.List.{drop-drop, map-append}
use Rattle.std.proofs.lemmas.Grind.{flat_map-append}
use Rattle.byteorder.specs.Endian.{little_number}
use Rattle.isax_word.specs.declared.word.Part.{Part}
use Rattle.isax_word.specs.Word.{one_bit_word}
use Rattle.subtree_build.specs.declared.node.Node.{Node}
use Rattle.subtree_build.specs.Division.{bits_left}
use Rattle.subtree_build.specs.Outline.{outline}
use Rattle.subtree_build.specs.Tree.{Tree, leaves_of, numbered, all_numbered}
use Rattle.saved_index.specs.Parsed.{AreRootsRead, IsNodeRead}
use Rattle.saved_index.specs.Reading.{Read, then_read, node_in, roots_in}
use Rattle.saved_index.proofs.NodesRead.{then_is, then_none}

-- root numbers and nodes
abbrev pub Roots : Type 0
Roots = List ℕ × List (Tree (List ℕ))

-- those behind others
abbrev pub behind : List ℕ → List (Tree (List ℕ)) → Roots → List ℕ → Read Roots
behind roots trees more end = Some ((roots ++ more.0, trees ++ more.1), end)

-- one before others
abbrev pub before : ℕ → Tree (List ℕ) → Roots → List ℕ → Read Roots
before root t more end = Some ((root ∷ more.0, t ∷ more.1), end)

-- whether a number can be the next root number
abbrev pub is_root : ℕ → ℕ → List ℕ → Bool
is_root from w bytes =
    nat_le 4 (length bytes) && (nat_le from (little_number 4 bytes) && nat_lt (little_number 4 bytes) (2 ^ w))

-- the root children so far and those to come are all
pub record AreRootsTold (all : Read Roots) (roots : List ℕ) (nodes : List Node) (lists : List (List ℕ))
    (left least w count : ℕ) (rest : List ℕ) : Type 0 where
  pub trees : List (Tree (List ℕ))
  pub told : all ≡ then_read (roots_in left least w count rest) (behind roots trees)
  pub nodes_are : map outline nodes ≡ all_numbered 0 trees
  pub lists_are : lists ≡ flat_map (λ t. leaves_of t) trees

pub no_roots_yet : (many w count : ℕ) (bytes : List ℕ)
    → AreRootsTold (roots_in many 0 w count bytes) [] [] [] many 0 w count bytes
no_roots_yet many w count bytes = record {
  trees = [];
  told = sym (same (roots_in many 0 w count bytes));
  nodes_are = refl;
  lists_are = refl;
}
  where
    same : (o : Read Roots) → then_read o (behind [] []) ≡ o
    same None = refl
    same (Some p) = refl

-- the next root child, read of what is left
pub root_in : (k from w count : ℕ) (bytes : List ℕ) (t : Tree (List ℕ)) (rest : List ℕ) → is_root from w bytes ≡ true
    → node_in (bits_left (one_bit_word (little_number 4 bytes) w)) count (one_bit_word (little_number 4 bytes) w) (drop 4 bytes)
    ≡ Some (t, rest)
    → roots_in (suc k) from w count bytes
    ≡ then_read (roots_in k (little_number 4 bytes + 1) w count rest) (before (little_number 4 bytes) t)
unfolding roots_in
root_in k from w count bytes t rest passes read =
    cond-true (is_root from w bytes) _ None passes
    ∙ then_is _ (λ t rest. then_read (roots_in k (little_number 4 bytes + 1) w count rest) (before (little_number 4 bytes) t)) (t, rest) read

no_number_in : (k from w count : ℕ) (bytes : List ℕ) → is_root from w bytes ≡ false
    → roots_in (suc k) from w count bytes ≡ None
unfolding roots_in
no_number_in k from w count bytes fails = cond-false (is_root from w bytes) _ None fails

no_node_in : (k from w count : ℕ) (bytes : List ℕ) → is_root from w bytes ≡ true
    → node_in (bits_left (one_bit_word (little_number 4 bytes) w)) count (one_bit_word (little_number 4 bytes) w) (drop 4 bytes)
    ≡ None
    → roots_in (suc k) from w count bytes ≡ None
unfolding roots_in
no_node_in k from w count bytes passes none =
    cond-true (is_root from w bytes) _ None passes
    ∙ then_none _ (λ t rest. then_read (roots_in k (little_number 4 bytes + 1) w count rest) (before (little_number 4 bytes) t)) none

push_root : (o : Read Roots) (roots : List ℕ) (trees : List (Tree (List ℕ))) (root : ℕ) (t : Tree (List ℕ))
    → then_read (then_read o (before root t)) (behind roots trees)
    ≡ then_read o (behind (roots ++ root ∷ []) (trees ++ t ∷ []))
push_root None roots trees root t = refl
push_root (Some p) roots trees root t =
    ap (λ (xs : List ℕ). Some ((xs, trees ++ t ∷ p.0.1), p.1)) (sym (append_assoc roots (root ∷ []) p.0.0))
    ∙ ap (λ (ts : List (Tree (List ℕ))). Some (((roots ++ root ∷ []) ++ p.0.0, ts), p.1)) (sym (append_assoc trees (t ∷ []) p.0.1))

-- the node behind a root number is that of its word
pub node_behind : (count w root at : ℕ) (word : List Part) (bytes : List ℕ) → word ≡ one_bit_word root w
    → node_in (bits_left word) count word (drop (at + 4) bytes)
    ≡ node_in (bits_left (one_bit_word root w)) count (one_bit_word root w) (drop 4 (drop at bytes))
node_behind count w root at word bytes is =
    let next : drop (at + 4) bytes ≡ drop 4 (drop at bytes)
    = ap (λ k. drop k bytes) (omega arith) ∙ sym (drop-drop 4 at bytes) in
    ap (node_in (bits_left word) count word) next
    ∙ ap (λ (x : List Part). node_in (bits_left x) count x (drop 4 (drop at bytes))) is

-- one tree more is numbered on
numbered_push : (first : ℕ) (trees : List (Tree (List ℕ))) (t : Tree (List ℕ))
    → all_numbered first (trees ++ t ∷ [])
    ≡ all_numbered first trees ++ numbered (first + length (flat_map (λ (u : Tree (List ℕ)). leaves_of u) trees)) t ∷ []
numbered_push first [] t = ap (λ n. numbered n t ∷ []) (sym (add-zero first))
numbered_push first (u ∷ trees) t =
    let here = length (leaves_of u) in
    let rest = flat_map (λ (v : Tree (List ℕ)). leaves_of v) trees in
    ap (λ ts. numbered first u ∷ ts) (numbered_push (first + here) trees t)
    ∙ ap (λ n. numbered first u ∷ (all_numbered (first + here) trees ++ numbered n t ∷ []))
    (omega (arith, length-append (leaves_of u) rest))

pub one_root_more : (all : Read Roots) (roots : List ℕ) (nodes : List Node) (lists after : List (List ℕ))
    (many i least w count root from to : ℕ) (bytes rest : List ℕ) (node : Node) (word_read : Read (Tree (List ℕ))) → i < many
    → AreRootsTold all roots nodes lists (many - i) least w count rest → 4 ≤ length rest → root ≡ little_number 4 rest
    → least ≤ root → root < 2 ^ w
    → word_read ≡ node_in (bits_left (one_bit_word root w)) count (one_bit_word root w) (drop 4 rest)
    → IsNodeRead bytes from to word_read lists (outline node) after
    → AreRootsTold all (roots ++ root ∷ []) (nodes ++ node ∷ []) after (many - (i + 1)) (root + 1) w count (drop to bytes)
one_root_more all roots nodes lists after many i least w count root from to bytes rest node word_read inside was long is low high read_is read =
    let left : many - i ≡ suc (many - (i + 1)) = omega arith in
    let k = many - (i + 1) in
    let m = little_number 4 rest in
    let passes : is_root least w rest ≡ true = grind (arith, nat_tests) in
    let t = read.tree in
    let here : node_in (bits_left (one_bit_word m w)) count (one_bit_word m w) (drop 4 rest) ≡ Some (t, drop to bytes)
    = ap (λ n. node_in (bits_left (one_bit_word n w)) count (one_bit_word n w) (drop 4 rest)) (sym is) ∙ sym read_is ∙ read.is in
    record {
      trees = was.trees ++ t ∷ [];
      told =
          was.told
          ∙ ap (λ j. then_read (roots_in j least w count rest) (behind roots was.trees)) left
          ∙ ap (λ (o : Read Roots). then_read o (behind roots was.trees)) (root_in k least w count rest t (drop to bytes) passes here)
          ∙ push_root (roots_in k (m + 1) w count (drop to bytes)) roots was.trees m t
          ∙ ap (λ n. then_read (roots_in k (n + 1) w count (drop to bytes)) (behind (roots ++ n ∷ []) (was.trees ++ t ∷ []))) (sym is);
      nodes_are =
          map-append outline nodes (node ∷ [])
          ∙ ap (λ ts. ts ++ outline node ∷ []) was.nodes_are
          ∙ ap (λ o. all_numbered 0 was.trees ++ o ∷ [])
          (read.built.node_is ∙ ap (λ n. numbered n t) (ap (λ (ls : List (List ℕ)). length ls) was.lists_are
          ∙ sym (zero-add (length (flat_map (λ (u : Tree (List ℕ)). leaves_of u) was.trees)))))
          ∙ sym (numbered_push 0 was.trees t);
      lists_are =
          read.built.leaves_are
          ∙ ap (λ ls. ls ++ leaves_of t) was.lists_are
          ∙ ap (λ ls. flat_map (λ (u : Tree (List ℕ)). leaves_of u) was.trees ++ ls) (sym (append-nil (leaves_of t)))
          ∙ sym (flat_map-append (λ (u : Tree (List ℕ)). leaves_of u) was.trees (t ∷ []));
    }

pub no_root : (all : Read Roots) (roots : List ℕ) (nodes : List Node) (lists : List (List ℕ)) (many i least w count : ℕ)
    (rest : List ℕ) → i < many → AreRootsTold all roots nodes lists (many - i) least w count rest
    → is_root least w rest ≡ false → all ≡ None
no_root all roots nodes lists many i least w count rest inside was fails =
    let left : many - i ≡ suc (many - (i + 1)) = omega arith in
    was.told
    ∙ ap (λ j. then_read (roots_in j least w count rest) (behind roots was.trees)) left
    ∙ ap (λ (o : Read Roots). then_read o (behind roots was.trees)) (no_number_in (many - (i + 1)) least w count rest fails)

pub no_root_node : (all : Read Roots) (roots : List ℕ) (nodes : List Node) (lists : List (List ℕ)) (many i least w count root : ℕ)
    (rest : List ℕ) → i < many → AreRootsTold all roots nodes lists (many - i) least w count rest
    → 4 ≤ length rest → root ≡ little_number 4 rest → least ≤ root → root < 2 ^ w
    → node_in (bits_left (one_bit_word root w)) count (one_bit_word root w) (drop 4 rest) ≡ None → all ≡ None
no_root_node all roots nodes lists many i least w count root rest inside was long is low high none =
    let left : many - i ≡ suc (many - (i + 1)) = omega arith in
    let passes : is_root least w rest ≡ true = grind (arith, nat_tests) in
    was.told
    ∙ ap (λ j. then_read (roots_in j least w count rest) (behind roots was.trees)) left
    ∙ ap (λ (o : Read Roots). then_read o (behind roots was.trees)) (no_node_in (many - (i + 1)) least w count rest passes
    (ap (λ n. node_in (bits_left (one_bit_word n w)) count (one_bit_word n w) (drop 4 rest)) (sym is) ∙ none))

pub short_root : (least w : ℕ) (rest : List ℕ) → length rest < 4 → is_root least w rest ≡ false
short_root least w rest short = grind (arith, nat_tests)

pub low_root : (least w n : ℕ) (rest : List ℕ) → n ≡ little_number 4 rest → n < least → is_root least w rest ≡ false
low_root least w n rest is low = grind (arith, nat_tests)

pub high_root : (least w n : ℕ) (rest : List ℕ) → n ≡ little_number 4 rest → 2 ^ w ≤ n → is_root least w rest ≡ false
high_root least w n rest is high = grind (arith, nat_tests)

pub all_roots : (all : Read Roots) (roots : List ℕ) (nodes : List Node) (lists : List (List ℕ)) (many i least w count to : ℕ)
    (bytes : List ℕ) → many ≤ i → AreRootsTold all roots nodes lists (many - i) least w count (drop to bytes)
    → to ≤ length bytes → length lists ≤ to → AreRootsRead bytes to all roots nodes lists
unfolding roots_in
all_roots all roots nodes lists many i least w count to bytes end was within fewer =
    let left : many - i ≡ 0 = omega arith in
    record {
      trees = was.trees;
      is =
          was.told
          ∙ ap (λ j. then_read (roots_in j least w count (drop to bytes)) (behind roots was.trees)) left
          ∙ ap (λ (xs : List ℕ). Some ((xs, was.trees ++ []), drop to bytes)) (append-nil roots)
          ∙ ap (λ (ts : List (Tree (List ℕ))). Some ((roots, ts), drop to bytes)) (append-nil was.trees);
      nodes_are = was.nodes_are;
      lists_are = was.lists_are;
      within = within;
      fewer = fewer;
    }
