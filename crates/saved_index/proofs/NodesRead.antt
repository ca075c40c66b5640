-- Nodes read from bytes: where there is none (`node_none`, `node_short`, `node_unsplit`), a leaf (`node_leaf`), and a split with
-- the children that are read behind one another (`node_split`).
use Rattle.std.proofs.Common.{◌≡◌, ℕ, zero, suc, ◌+◌, ◌<◌, ◌≤◌, Bool, true, false, List, [], ◌∷◌, ◌++◌, length, drop, get_or, Some, None, Err, IsErrOf, refl, sym, ap, ◌∙◌, arith, append_assoc, length-append}
use Rattle.std.specs.Prelude.{◌==◌, not}
use Rattle.std.proofs.Math.Seq.{drop-cons}
use Rattle.std.proofs.lemmas.List.{drop_all}
use Rattle.std.proofs.lemmas.Bool.{cond-true, cond-false}
use Rattle.std.proofs.lemmas.Bool.Decides.{nat_tests}
use Rattle.isax_word.specs.declared.word.Part.{Part}
use Rattle.isax_word.specs.Word.{part_at, child_word}
use Rattle.subtree_build.specs.Division.{bits_left}
use Rattle.subtree_build.specs.Tree.{Tree, split, leaves_of, numbered, IsBuilt}
use Rattle.subtree_build.proofs.Divisions.{bits_left-child}
use Rattle.saved_index.specs.Parsed.{IsNodeRead}
use Rattle.saved_index.specs.Reading.{Read, then_read, child_in, leaf_in, is_split_of, node_in}

-- what is read on behind what was read
pub then_is : {A B : Type 0} (o : Read A) (f : A → List ℕ → Read B) (p : A × List ℕ) → o ≡ Some p
    → then_read o f ≡ f p.0 p.1
then_is o f p is = ap (λ x. then_read x f) is

-- nothing is read behind nothing
pub then_none : {A B : Type 0} (o : Read A) (f : A → List ℕ → Read B) → o ≡ None → then_read o f ≡ None
then_none o f is = ap (λ x. then_read x f) is

pub node_none : (lacking count : ℕ) (word : List Part) → node_in lacking count word [] ≡ None
unfolding node_in
node_none zero count word = refl
node_none (suc lacking) count word = refl

pub node_leaf : (lacking count : ℕ) (word : List Part) (bytes : List ℕ)
    → node_in lacking count word (0 ∷ bytes) ≡ leaf_in count bytes
unfolding node_in
node_leaf zero count word bytes = refl
node_leaf (suc lacking) count word bytes = refl

pub node_short : (lacking count : ℕ) (word : List Part) (kind : ℕ) → 1 ≤ kind
    → node_in lacking count word (kind ∷ []) ≡ None
unfolding node_in
node_short lacking count word zero some = absurd (omega arith)
node_short zero count word (suc kind) some = refl
node_short (suc lacking) count word (suc kind) some = refl

pub node_unsplit : (lacking count : ℕ) (word : List Part) (kind j : ℕ) (bytes : List ℕ) → 1 ≤ kind
    → is_split_of word kind j ≡ false → node_in lacking count word (kind ∷ j ∷ bytes) ≡ None
unfolding node_in
node_unsplit lacking count word zero j bytes some fails = absurd (omega arith)
node_unsplit zero count word (suc kind) j bytes some fails = refl
node_unsplit (suc lacking) count word (suc kind) j bytes some fails =
    cond-false (is_split_of word (suc kind) j) _ None fails

-- the children of a split, read behind one another
abbrev pub children_in : ℕ → List Part → ℕ → ℕ → List ℕ → Read (Tree (List ℕ))
children_in count word kind j bytes =
    let low_word = child_word word j false in
    let high_word = child_word word j true in
    then_read (child_in (not (kind == 2)) (node_in (bits_left low_word) count low_word) bytes) (λ low rest.
    then_read (child_in (not (kind == 1)) (node_in (bits_left high_word) count high_word) rest) (λ high end.
    Some (split j low high, end)))

split_with : (lacking count : ℕ) (word : List Part) (kind j : ℕ) (bytes : List ℕ) → 1 ≤ kind
    → is_split_of word kind j ≡ true → bits_left (child_word word j false) ≡ lacking
    → bits_left (child_word word j true) ≡ lacking
    → node_in (suc lacking) count word (kind ∷ j ∷ bytes) ≡ children_in count word kind j bytes
unfolding node_in
split_with lacking count word zero j bytes some passes low high = absurd (omega arith)
split_with lacking count word (suc kind) j bytes some passes low high =
    cond-true (is_split_of word (suc kind) j) _ None passes
    ∙ ap (λ n. then_read (child_in (not (suc kind == 2)) (node_in n count (child_word word j false)) bytes) (λ low rest.
    then_read (child_in (not (suc kind == 1)) (node_in lacking count (child_word word j true)) rest) (λ high end.
    Some (split j low high, end)))) (sym low)
    ∙ ap (λ n. then_read (child_in (not (suc kind == 2)) (node_in (bits_left (child_word word j false)) count (child_word word j false)) bytes)
    (λ low rest. then_read (child_in (not (suc kind == 1)) (node_in n count (child_word word j true)) rest) (λ high end.
    Some (split j low high, end)))) (sym high)

pub node_split : (count : ℕ) (word : List Part) (kind j : ℕ) (bytes : List ℕ) → 1 ≤ kind → kind ≤ 3 → j < length word
    → (part_at word j).bits < 8
    → node_in (bits_left word) count word (kind ∷ j ∷ bytes) ≡ children_in count word kind j bytes
node_split count word kind j bytes some few used divisible =
    let low = bits_left-child word j false used divisible in
    let high = bits_left-child word j true used divisible in
    let passes : is_split_of word kind j ≡ true = grind (arith, nat_tests) in
    ap (λ n. node_in n count word (kind ∷ j ∷ bytes)) low
    ∙ split_with (bits_left (child_word word j false)) count word kind j bytes some passes refl (omega (arith, low, high))

-- both children were read
pub both_read : (count : ℕ) (word : List Part) (kind j : ℕ) (bytes between end : List ℕ) (low high : Tree (List ℕ))
    → child_in (not (kind == 2)) (node_in (bits_left (child_word word j false)) count (child_word word j false)) bytes
    ≡ Some (low, between)
    → child_in (not (kind == 1)) (node_in (bits_left (child_word word j true)) count (child_word word j true)) between
    ≡ Some (high, end)
    → children_in count word kind j bytes ≡ Some (split j low high, end)
both_read count word kind j bytes between end low high first second =
    then_is _ (λ low rest. then_read (child_in (not (kind == 1)) (node_in (bits_left (child_word word j true)) count (child_word word j true)) rest)
    (λ high end. Some (split j low high, end))) (low, between) first
    ∙ then_is _ (λ high end. Some (split j low high, end)) (high, end) second

-- the low child was not
pub low_unread : (count : ℕ) (word : List Part) (kind j : ℕ) (bytes : List ℕ)
    → child_in (not (kind == 2)) (node_in (bits_left (child_word word j false)) count (child_word word j false)) bytes ≡ None
    → children_in count word kind j bytes ≡ None
low_unread count word kind j bytes none = then_none _ _ none

-- or the high child was not
pub high_unread : (count : ℕ) (word : List Part) (kind j : ℕ) (bytes between : List ℕ) (low : Tree (List ℕ))
    → child_in (not (kind == 2)) (node_in (bits_left (child_word word j false)) count (child_word word j false)) bytes
    ≡ Some (low, between)
    → child_in (not (kind == 1)) (node_in (bits_left (child_word word j true)) count (child_word word j true)) between ≡ None
    → children_in count word kind j bytes ≡ None
high_unread count word kind j bytes between low first none =
    then_is _ (λ low rest. then_read (child_in (not (kind == 1)) (node_in (bits_left (child_word word j true)) count (child_word word j true)) rest)
    (λ high end. Some (split j low high, end))) (low, between) first
    ∙ then_none _ _ none

-- a split is built of its children
pub split_built : (j : ℕ) (low high : Tree (List ℕ)) (before between after : List (List ℕ)) (l h : Tree ℕ)
    → IsBuilt low before l between → IsBuilt high between h after → IsBuilt (split j low high) before (split j l h) after
split_built j low high before between after l h first second =
    let long : length between ≡ length before + length (leaves_of low)
    = ap (λ (ls : List (List ℕ)). length ls) first.leaves_are ∙ length-append before (leaves_of low) in
    record {
      node_is =
          ap (λ t. split j t h) first.node_is
          ∙ ap (λ t. split j (numbered (length before) low) t) (second.node_is ∙ ap (λ n. numbered n high) long);
      leaves_are =
          second.leaves_are
          ∙ ap (λ ls. ls ++ leaves_of high) first.leaves_are
          ∙ append_assoc before (leaves_of low) (leaves_of high);
    }

-- what is left begins with the byte at the place
pub drop_byte : (bytes : List ℕ) (at : ℕ) → at < length bytes
    → drop at bytes ≡ get_or bytes at 0 ∷ drop (at + 1) bytes
drop_byte bytes at inside =
    let next : suc at ≡ at + 1 = omega arith in
    drop-cons bytes at 0 inside ∙ ap (λ k. get_or bytes at 0 ∷ drop k bytes) next

-- and the one behind it
pub drop_two : (bytes : List ℕ) (at : ℕ) → at + 2 ≤ length bytes
    → drop at bytes ≡ get_or bytes at 0 ∷ get_or bytes (at + 1) 0 ∷ drop (at + 2) bytes
drop_two bytes at inside =
    let next : at + 1 + 1 ≡ at + 2 = omega arith in
    drop_byte bytes at (omega arith)
    ∙ ap (λ bs. get_or bytes at 0 ∷ bs) (drop_byte bytes (at + 1) (omega arith)
    ∙ ap (λ k. get_or bytes (at + 1) 0 ∷ drop k bytes) next)

-- no byte is left: no node
pub end_read : (lacking count : ℕ) (word : List Part) (bytes : List ℕ) (at : ℕ) → length bytes ≤ at
    → node_in lacking count word (drop at bytes) ≡ None
end_read lacking count word bytes at end = ap (node_in lacking count word) (drop_all at bytes end) ∙ node_none lacking count word

-- 0: a leaf
pub leaf_read : (lacking count : ℕ) (word : List Part) (bytes : List ℕ) (at : ℕ) → at < length bytes → get_or bytes at 0 ≡ 0
    → leaf_in count (drop (at + 1) bytes) ≡ node_in lacking count word (drop at bytes)
leaf_read lacking count word bytes at inside is =
    sym (ap (node_in lacking count word) (drop_byte bytes at inside ∙ ap (λ b. b ∷ drop (at + 1) bytes) is)
    ∙ node_leaf lacking count word (drop (at + 1) bytes))

-- one byte alone
pub short_read : (lacking count : ℕ) (word : List Part) (bytes : List ℕ) (at : ℕ) → at < length bytes
    → length bytes ≤ at + 1 → 1 ≤ get_or bytes at 0 → node_in lacking count word (drop at bytes) ≡ None
short_read lacking count word bytes at inside short some =
    ap (node_in lacking count word) (drop_byte bytes at inside ∙ ap (λ bs. get_or bytes at 0 ∷ bs) (drop_all (at + 1) bytes short))
    ∙ node_short lacking count word (get_or bytes at 0) some

-- no split
pub unsplit_read : (lacking count : ℕ) (word : List Part) (bytes : List ℕ) (at : ℕ) → at + 2 ≤ length bytes
    → 1 ≤ get_or bytes at 0 → is_split_of word (get_or bytes at 0) (get_or bytes (at + 1) 0) ≡ false
    → node_in lacking count word (drop at bytes) ≡ None
unsplit_read lacking count word bytes at inside some fails =
    ap (node_in lacking count word) (drop_two bytes at inside)
    ∙ node_unsplit lacking count word (get_or bytes at 0) (get_or bytes (at + 1) 0) (drop (at + 2) bytes) some fails

-- a split
pub split_read : (count : ℕ) (word : List Part) (bytes : List ℕ) (at j : ℕ) → at + 2 ≤ length bytes
    → 1 ≤ get_or bytes at 0 → get_or bytes at 0 ≤ 3 → j ≡ get_or bytes (at + 1) 0 → j < length word
    → (part_at word j).bits < 8
    → node_in (bits_left word) count word (drop at bytes) ≡ children_in count word (get_or bytes at 0) j (drop (at + 2) bytes)
split_read count word bytes at j inside some few is used divisible =
    ap (node_in (bits_left word) count word) (drop_two bytes at inside
    ∙ ap (λ i. get_or bytes at 0 ∷ i ∷ drop (at + 2) bytes) (sym is))
    ∙ node_split count word (get_or bytes at 0) j (drop (at + 2) bytes) some few used divisible

pub split_kind : (word : List Part) (kind j : ℕ) → 3 < kind → is_split_of word kind j ≡ false
split_kind word kind j many = grind (arith, nat_tests)

pub split_segment_past : (word : List Part) (kind j i : ℕ) → i ≡ j → length word ≤ i → is_split_of word kind j ≡ false
split_segment_past word kind j i is past = grind (arith, nat_tests)

pub split_full : (word : List Part) (kind j i : ℕ) → i ≡ j → 8 ≤ (part_at word i).bits → is_split_of word kind j ≡ false
split_full word kind j i is full =
    let here : 8 ≤ (part_at word j).bits = omega (arith, full, ap (λ k. (part_at word k).bits) is) in
    grind (arith, nat_tests)

-- the same node, read from fewer bytes on and as the same
pub node_from : (bytes : List ℕ) (from start to : ℕ) (read same : Read (Tree (List ℕ))) (before : List (List ℕ)) (node : Tree ℕ)
    (after : List (List ℕ)) → start ≤ from → read ≡ same → IsNodeRead bytes from to read before node after
    → IsNodeRead bytes start to same before node after
node_from bytes from start to read same before node after less is was = record {
  tree = was.tree;
  is = sym is ∙ was.is;
  built = was.built;
  within = was.within;
  fewer = omega (arith, was.fewer, less);
}

-- a child read under a word is read under the same word
pub same_child : (there : Bool) (count : ℕ) (word other : List Part) (bytes : List ℕ) → word ≡ other
    → child_in there (node_in (bits_left word) count word) bytes
    ≡ child_in there (node_in (bits_left other) count other) bytes
same_child there count word other bytes is =
    ap (λ (w : List Part). child_in there (node_in (bits_left w) count w) bytes) is

module _ (count : ℕ) (word low_word : List Part) (bytes : List ℕ) (at j : ℕ) (inside : at + 2 ≤ length bytes)
    (some : 1 ≤ get_or bytes at 0) (few : get_or bytes at 0 ≤ 3) (is : j ≡ get_or bytes (at + 1) 0) (used : j < length word)
    (divisible : (part_at word j).bits < 8) (low_is : low_word ≡ child_word word j false) where
  -- what the low child is read as
  abbrev low_read : Read (Tree (List ℕ))
  low_read = child_in (not (get_or bytes at 0 == 2)) (node_in (bits_left low_word) count low_word) (drop (at + 2) bytes)

  -- which is the low child of the word
  low_same : low_read ≡ child_in (not (get_or bytes at 0 == 2)) (node_in (bits_left (child_word word j false)) count (child_word word j false))
      (drop (at + 2) bytes)
  low_same = same_child (not (get_or bytes at 0 == 2)) count low_word (child_word word j false) (drop (at + 2) bytes) low_is

  -- a split whose low child cannot be read is none
  pub low_child_unread : low_read ≡ None → node_in (bits_left word) count word (drop at bytes) ≡ None
  low_child_unread none =
      split_read count word bytes at j inside some few is used divisible
      ∙ low_unread count word (get_or bytes at 0) j (drop (at + 2) bytes) (sym low_same ∙ none)

  -- nor is one whose high child cannot be read
  pub high_child_unread : (high_word : List Part) (middle : ℕ) (low : Tree (List ℕ)) → high_word ≡ child_word word j true
      → low_read ≡ Some (low, drop middle bytes)
      → child_in (not (get_or bytes at 0 == 1)) (node_in (bits_left high_word) count high_word) (drop middle bytes) ≡ None
      → node_in (bits_left word) count word (drop at bytes) ≡ None
  high_child_unread high_word middle low high_is first none =
      split_read count word bytes at j inside some few is used divisible
      ∙ high_unread count word (get_or bytes at 0) j (drop (at + 2) bytes) (drop middle bytes) low (sym low_same ∙ first)
      (sym (same_child (not (get_or bytes at 0 == 1)) count high_word (child_word word j true) (drop middle bytes) high_is) ∙ none)

-- a split was read with its children
pub split_is_read : (bytes : List ℕ) (count : ℕ) (word low_word high_word : List Part) (at j middle to : ℕ)
    (before between after : List (List ℕ)) (low high : Tree ℕ)
    → node_in (bits_left word) count word (drop at bytes) ≡ children_in count word (get_or bytes at 0) j (drop (at + 2) bytes)
    → low_word ≡ child_word word j false → high_word ≡ child_word word j true
    → IsNodeRead bytes (at + 2) middle
    (child_in (not (get_or bytes at 0 == 2)) (node_in (bits_left low_word) count low_word) (drop (at + 2) bytes)) before low between
    → IsNodeRead bytes middle to
    (child_in (not (get_or bytes at 0 == 1)) (node_in (bits_left high_word) count high_word) (drop middle bytes)) between high after
    → IsNodeRead bytes at to (node_in (bits_left word) count word (drop at bytes)) before (split j low high) after
split_is_read bytes count word low_word high_word at j middle to before between after low high is low_is high_is first second =
    let kind = get_or bytes at 0 in
    record {
      tree = split j first.tree second.tree;
      is = is ∙ both_read count word kind j (drop (at + 2) bytes) (drop middle bytes) (drop to bytes) first.tree second.tree
          (sym (same_child (not (kind == 2)) count low_word (child_word word j false) (drop (at + 2) bytes) low_is) ∙ first.is)
          (sym (same_child (not (kind == 1)) count high_word (child_word word j true) (drop middle bytes) high_is) ∙ second.is);
      built = split_built j first.tree second.tree before between after low high first.built second.built;
      within = second.within;
      fewer = omega (arith, first.fewer, second.fewer);
    }

-- an error that is handed on is the same error
pub err_again : {T U E : Type 0} (e f : E) → IsErrOf {T = T} {E = E} (Err e) f → IsErrOf {T = U} {E = E} (Err e) f
err_again e f is = let same : e ≡ f = cc in ap (λ x. Err x) same
