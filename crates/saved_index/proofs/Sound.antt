-- What bytes are read as has them as its text: numbers (`numbers_sound`), nodes (`node_sound`) and root children
-- (`roots_sound`).
use Rattle.std.proofs.Common.{◌≡◌, ℕ, zero, suc, ◌+◌, ◌^◌, ◌<◌, ◌≤◌, Bool, true, false, List, [], ◌∷◌, ◌++◌, length, drop, get_or, Option, Some, None, refl, sym, ap, ◌∙◌, subst, arith, append_assoc, All}
use Rattle.std.specs.Prelude.{if◌then◌else◌, ◌&&◌, ◌==◌, not, nat_le}
use Rattle.std.specs.List.Sorted.{IsStrictlyIncreasing}
use Rattle.std.proofs.lemmas.Bool.Decides.{nat_tests}
use Rattle.std.proofs.lemmas.Option.{same_Some, none-some}
use Rattle.std.proofs.lemmas.List.{take-append-drop}
use Rattle.std.proofs.lemmas.List.Elements.{All-nil, All-cons}
use Rattle.byteorder.specs.Endian.{little_bytes, little_number}
use Rattle.isax_word.specs.declared.word.Part.{Part}
use Rattle.isax_word.specs.Word.{part_at, child_word, one_bit_word}
use Rattle.subtree_build.specs.Division.{bits_left}
use Rattle.subtree_build.specs.Tree.{Tree, absent, leaf, split, is_absent}
use Rattle.series_file.proofs.Numbers.{AreBytes, drop_bytes, bytes_again}
use Rattle.saved_index.specs.Saved.{IsNode, AreRootNodes, split_byte, numbers_text, node_text, roots_text}
use Rattle.saved_index.specs.Reading.{Read, then_read, child_in, leaf_in, is_split_of, numbers_in, node_in, roots_in}
use Rattle.saved_index.proofs.Again.{Ascend}
use Rattle.saved_index.proofs.NumbersRead.{is_next}
use Rattle.saved_index.proofs.RootsRead.{is_root, before}

-- what was read on was read behind something
then_some : {A B : Type 0} (o : Read A) (f : A → List ℕ → Read B) (q : B × List ℕ) → then_read o f ≡ Some q
    → (p : A × List ℕ) × (o ≡ Some p) × (f p.0 p.1 ≡ Some q)
then_some None f q is = absurd (none-some q is)
then_some (Some p) f q is = (p, refl, is)

-- what was read behind a test passed it
pub if_some : {X : Type 0} (b : Bool) (o : Option X) (q : X) → (if b then o else None) ≡ Some q → (b ≡ true) × (o ≡ Some q)
if_some true o q is = (refl, is)
if_some false o q is = absurd (none-some q is)

-- the first four bytes are those of their number
pub four_bytes : (bytes : List ℕ) → AreBytes bytes → 4 ≤ length bytes
    → bytes ≡ little_bytes 4 (little_number 4 bytes) ++ drop 4 bytes
four_bytes bytes each long =
    sym (take-append-drop 4 bytes) ∙ ap (λ xs. xs ++ drop 4 bytes) (sym (bytes_again 4 bytes each long))

-- numbers that ascend strictly increase, from the first on, below the count
pub increase : (from count : ℕ) (numbers : List ℕ) → Ascend from count numbers → IsStrictlyIncreasing numbers
increase from count [] up k inside = absurd (omega (arith, inside))
increase from count (n ∷ []) up k inside = absurd (omega (arith, inside))
increase from count (n ∷ m ∷ numbers) up zero inside = omega (arith, up.2.0)
increase from count (n ∷ m ∷ numbers) up (suc k) inside =
    let next : suc (k + 1) ≡ suc k + 1 = omega arith in
    let P : ℕ → Type 0 = λ j. get_or (n ∷ m ∷ numbers) (suc k) 0 < get_or (n ∷ m ∷ numbers) j 0 in
    subst P next (increase (n + 1) count (m ∷ numbers) up.2 k (omega (arith, inside)))

pub below : (from count : ℕ) (numbers : List ℕ) → Ascend from count numbers → All (λ n. n < count) numbers
below from count [] up = All-nil (λ n. n < count)
below from count (n ∷ numbers) up = All-cons (λ m. m < count) n numbers up.1 (below (n + 1) count numbers up.2)

-- numbers were read from the front of these bytes
pub record IsNumbers (from count k : ℕ) (bytes numbers rest : List ℕ) : Type 0 where
  pub spelled : bytes ≡ numbers_text numbers ++ rest
  pub up : Ascend from count numbers
  pub many : length numbers ≡ k
  pub left : AreBytes rest

pub numbers_sound : (k from count : ℕ) (bytes numbers rest : List ℕ) → AreBytes bytes
    → numbers_in k from count bytes ≡ Some (numbers, rest) → IsNumbers from count k bytes numbers rest
unfolding numbers_in
numbers_sound zero from count bytes numbers rest each is =
    let pair : ◌≡◌ {A = List ℕ × List ℕ} ([], bytes) (numbers, rest) = same_Some ([], bytes) (numbers, rest) is in
    let none : [] ≡ numbers = ap (λ (p : List ℕ × List ℕ). p.0) pair in
    let same : bytes ≡ rest = ap (λ (p : List ℕ × List ℕ). p.1) pair in
    record {
      spelled = same ∙ ap (λ ns. numbers_text ns ++ rest) none;
      up = subst (Ascend from count) none tt;
      many = ap (λ (ns : List ℕ). length ns) (sym none);
      left = subst AreBytes same each;
    }
numbers_sound (suc k) from count bytes numbers rest each is =
    let n = little_number 4 bytes in
    let tested = if_some (is_next from count bytes) _ (numbers, rest) is in
    let passes = tested.0 in
    let more = then_some (numbers_in k (n + 1) count (drop 4 bytes)) (λ ns end. Some (n ∷ ns, end)) (numbers, rest) tested.1 in
    let p = more.0 in
    let pair : ◌≡◌ {A = List ℕ × List ℕ} (n ∷ p.0, p.1) (numbers, rest) = same_Some (n ∷ p.0, p.1) (numbers, rest) more.2 in
    let numbers_are : n ∷ p.0 ≡ numbers = ap (λ (q : List ℕ × List ℕ). q.0) pair in
    let rest_is : p.1 ≡ rest = ap (λ (q : List ℕ × List ℕ). q.1) pair in
    let behind = numbers_sound k (n + 1) count (drop 4 bytes) p.0 p.1 (drop_bytes 4 bytes each) more.1 in
    let long : 4 ≤ length bytes = grind (arith, nat_tests) in
    let low : from ≤ n = grind (arith, nat_tests) in
    let high : n < count = grind (arith, nat_tests) in
    record {
      spelled =
          four_bytes bytes each long
          ∙ ap (λ bs. little_bytes 4 n ++ bs) behind.spelled
          ∙ ap (λ ns. numbers_text ns ++ p.1) numbers_are
          ∙ ap (λ bs. numbers_text numbers ++ bs) rest_is;
      up = subst (Ascend from count) numbers_are (low, high, behind.up);
      many = ap (λ (ns : List ℕ). length ns) (sym numbers_are) ∙ ap (λ m. suc m) behind.many;
      left = subst AreBytes rest_is behind.left;
    }

-- a node was read from the front of these bytes
pub record IsNodeOf (count : ℕ) (word : List Part) (bytes : List ℕ) (t : Tree (List ℕ)) (rest : List ℕ) : Type 0 where
  pub spelled : bytes ≡ node_text t ++ rest
  pub there : is_absent t ≡ false
  pub node : IsNode count word t
  pub left : AreBytes rest

leaf_sound : (count : ℕ) (word : List Part) (bytes : List ℕ) (t : Tree (List ℕ)) (rest : List ℕ) → AreBytes bytes
    → leaf_in count bytes ≡ Some (t, rest) → IsNodeOf count word (0 ∷ bytes) t rest
leaf_sound count word bytes t rest each is =
    let k = little_number 4 bytes in
    let tested = if_some (nat_le 4 (length bytes) && nat_le 1 k) _ (t, rest) is in
    let passes = tested.0 in
    let more = then_some (numbers_in k 0 count (drop 4 bytes)) (λ ns end. Some (leaf ns, end)) (t, rest) tested.1 in
    let p = more.0 in
    let pair : ◌≡◌ {A = Tree (List ℕ) × List ℕ} (leaf p.0, p.1) (t, rest) = same_Some (leaf p.0, p.1) (t, rest) more.2 in
    let t_is : leaf p.0 ≡ t = ap (λ (q : Tree (List ℕ) × List ℕ). q.0) pair in
    let rest_is : p.1 ≡ rest = ap (λ (q : Tree (List ℕ) × List ℕ). q.1) pair in
    let read = numbers_sound k 0 count (drop 4 bytes) p.0 p.1 (drop_bytes 4 bytes each) more.1 in
    let long : 4 ≤ length bytes = grind (arith, nat_tests) in
    let some : 1 ≤ k = grind (arith, nat_tests) in
    let here : IsNodeOf count word (0 ∷ bytes) (leaf p.0) p.1 = record {
      spelled =
          ap (λ bs. 0 ∷ bs) (four_bytes bytes each long
          ∙ ap (λ bs. little_bytes 4 k ++ bs) read.spelled
          ∙ ap (λ m. little_bytes 4 m ++ (numbers_text p.0 ++ p.1)) (sym read.many));
      there = refl;
      node = record {
        some = omega (arith, read.many, some);
        ascend = increase 0 count p.0 read.up;
        below = below 0 count p.0 read.up;
      };
      left = read.left;
    } in
    let T : Tree (List ℕ) → Type 0 = λ u. IsNodeOf count word (0 ∷ bytes) u p.1 in
    let R : List ℕ → Type 0 = λ bs. IsNodeOf count word (0 ∷ bytes) t bs in
    subst R rest_is (subst T t_is here)

-- a child was read from the front of these bytes, where it is to be there
record IsChildOf (there : Bool) (count : ℕ) (word : List Part) (bytes : List ℕ) (t : Tree (List ℕ)) (rest : List ℕ)
    : Type 0 where
  pub spelled : bytes ≡ node_text t ++ rest
  pub is : is_absent t ≡ not there
  pub node : IsNode count word t
  pub left : AreBytes rest

child_sound : (there : Bool) (count : ℕ) (word : List Part) (read : List ℕ → Read (Tree (List ℕ)))
    → ((bytes : List ℕ) (t : Tree (List ℕ)) (rest : List ℕ) → AreBytes bytes → read bytes ≡ Some (t, rest)
    → IsNodeOf count word bytes t rest)
    → (bytes : List ℕ) (t : Tree (List ℕ)) (rest : List ℕ) → AreBytes bytes → child_in there read bytes ≡ Some (t, rest)
    → IsChildOf there count word bytes t rest
child_sound true count word read sound bytes t rest each is =
    let node = sound bytes t rest each is in
    record { spelled = node.spelled; is = node.there; node = node.node; left = node.left }
child_sound false count word read sound bytes t rest each is =
    let pair : ◌≡◌ {A = Tree (List ℕ) × List ℕ} (absent, bytes) (t, rest) = same_Some (absent, bytes) (t, rest) is in
    let t_is : absent ≡ t = ap (λ (q : Tree (List ℕ) × List ℕ). q.0) pair in
    let rest_is : bytes ≡ rest = ap (λ (q : Tree (List ℕ) × List ℕ). q.1) pair in
    let here : IsChildOf false count word bytes absent bytes = record { spelled = refl; is = refl; node = tt; left = each } in
    let T : Tree (List ℕ) → Type 0 = λ u. IsChildOf false count word bytes u bytes in
    let R : List ℕ → Type 0 = λ bs. IsChildOf false count word bytes t bs in
    subst R rest_is (subst T t_is here)

-- the byte of a split by its children
byte_told : (kind : ℕ) (a b : Bool) → 1 ≤ kind → kind ≤ 3 → a ≡ not (not (kind == 2)) → b ≡ not (not (kind == 1))
    → ((if b then 1 else (if a then 2 else 3)) ≡ kind) × ((a && b) ≡ false)
byte_told zero a b some few is_a is_b = absurd (omega arith)
byte_told (suc zero) a b some few is_a is_b = (
  ap (λ x. if x then 1 else (if a then 2 else 3)) is_b,
  ap (λ x. x && b) is_a,
)
byte_told (suc (suc zero)) a b some few is_a is_b = (
  ap (λ x. if x then 1 else (if a then 2 else 3)) is_b ∙ ap (λ x. if x then 2 else 3) is_a,
  ap (λ x. x && b) is_a ∙ is_b,
)
byte_told (suc (suc (suc zero))) a b some few is_a is_b = (
  ap (λ x. if x then 1 else (if a then 2 else 3)) is_b ∙ ap (λ x. if x then 2 else 3) is_a,
  ap (λ x. x && b) is_a,
)
byte_told (suc (suc (suc (suc k)))) a b some few is_a is_b = absurd (omega arith)

pub node_sound : (lacking count : ℕ) (word : List Part) (bytes : List ℕ) (t : Tree (List ℕ)) (rest : List ℕ) → AreBytes bytes
    → node_in lacking count word bytes ≡ Some (t, rest) → IsNodeOf count word bytes t rest
unfolding node_in
node_sound zero count word [] t rest each is = absurd (none-some (t, rest) is)
node_sound zero count word (zero ∷ bytes) t rest each is =
    leaf_sound count word bytes t rest (drop_bytes 1 (0 ∷ bytes) each) is
node_sound zero count word (suc kind ∷ []) t rest each is = absurd (none-some (t, rest) is)
node_sound zero count word (suc kind ∷ j ∷ bytes) t rest each is = absurd (none-some (t, rest) is)
node_sound (suc lacking) count word [] t rest each is = absurd (none-some (t, rest) is)
node_sound (suc lacking) count word (zero ∷ bytes) t rest each is =
    leaf_sound count word bytes t rest (drop_bytes 1 (0 ∷ bytes) each) is
node_sound (suc lacking) count word (suc kind ∷ []) t rest each is = absurd (none-some (t, rest) is)
node_sound (suc lacking) count word (suc kind ∷ j ∷ bytes) t rest each is =
    let low_word = child_word word j false in
    let high_word = child_word word j true in
    let has_low = not (suc kind == 2) in
    let has_high = not (suc kind == 1) in
    let read_low = node_in lacking count low_word in
    let read_high = node_in lacking count high_word in
    let tested = if_some (is_split_of word (suc kind) j) _ (t, rest) is in
    let passes = tested.0 in
    let first = then_some (child_in has_low read_low bytes)
    (λ l between. then_read (child_in has_high read_high between) (λ h end. Some (split j l h, end))) (t, rest) tested.1 in
    let low = first.0.0 in
    let between = first.0.1 in
    let second = then_some (child_in has_high read_high between) (λ h end. Some (split j low h, end)) (t, rest) first.2 in
    let high = second.0.0 in
    let end = second.0.1 in
    let pair : ◌≡◌ {A = Tree (List ℕ) × List ℕ} (split j low high, end) (t, rest)
    = same_Some (split j low high, end) (t, rest) second.2 in
    let t_is : split j low high ≡ t = ap (λ (q : Tree (List ℕ) × List ℕ). q.0) pair in
    let rest_is : end ≡ rest = ap (λ (q : Tree (List ℕ) × List ℕ). q.1) pair in
    let l = child_sound has_low count low_word read_low (node_sound lacking count low_word) bytes low between
    (drop_bytes 2 (suc kind ∷ j ∷ bytes) each) first.1 in
    let h = child_sound has_high count high_word read_high (node_sound lacking count high_word) between high end l.left second.1 in
    let few : suc kind ≤ 3 = grind (arith, nat_tests) in
    let used : j < length word = grind (arith, nat_tests) in
    let divisible : (part_at word j).bits < 8 = grind (arith, nat_tests) in
    let told = byte_told (suc kind) (is_absent low) (is_absent high) (omega arith) few l.is h.is in
    let here : IsNodeOf count word (suc kind ∷ j ∷ bytes) (split j low high) end = record {
      spelled =
          ap (λ k. k ∷ j ∷ bytes) (sym told.0)
          ∙ ap (λ bs. split_byte low high ∷ j ∷ bs) (l.spelled ∙ ap (λ bs. node_text low ++ bs) h.spelled
          ∙ sym (append_assoc (node_text low) (node_text high) end));
      there = refl;
      node = (record { used = used; divisible = divisible; some_child = told.1 }, l.node, h.node);
      left = h.left;
    } in
    let T : Tree (List ℕ) → Type 0 = λ u. IsNodeOf count word (suc kind ∷ j ∷ bytes) u end in
    let R : List ℕ → Type 0 = λ bs. IsNodeOf count word (suc kind ∷ j ∷ bytes) t bs in
    subst R rest_is (subst T t_is here)

-- root children were read from the front of these bytes
pub record AreRootsOf (from w count k : ℕ) (bytes roots : List ℕ) (nodes : List (Tree (List ℕ))) (rest : List ℕ) : Type 0 where
  pub spelled : bytes ≡ roots_text roots nodes ++ rest
  pub up : Ascend from (2 ^ w) roots
  pub are : AreRootNodes w count roots nodes
  pub many : length roots ≡ k
  pub left : AreBytes rest

pub roots_sound : (k from w count : ℕ) (bytes roots : List ℕ) (nodes : List (Tree (List ℕ))) (rest : List ℕ) → AreBytes bytes
    → roots_in k from w count bytes ≡ Some ((roots, nodes), rest) → AreRootsOf from w count k bytes roots nodes rest
unfolding roots_in
roots_sound zero from w count bytes roots nodes rest each is =
    let A : Type 0 = (List ℕ × List (Tree (List ℕ))) × List ℕ in
    let pair : ◌≡◌ {A = A} (([], []), bytes) ((roots, nodes), rest) = same_Some (([], []), bytes) ((roots, nodes), rest) is in
    let roots_are : [] ≡ roots = ap (λ (q : A). q.0.0) pair in
    let nodes_are : [] ≡ nodes = ap (λ (q : A). q.0.1) pair in
    let rest_is : bytes ≡ rest = ap (λ (q : A). q.1) pair in
    let here : AreRootsOf from w count zero bytes [] [] bytes
    = record { spelled = refl; up = tt; are = tt; many = refl; left = each } in
    let N : List (Tree (List ℕ)) → Type 0 = λ ns. AreRootsOf from w count zero bytes [] ns bytes in
    let O : List ℕ → Type 0 = λ rs. AreRootsOf from w count zero bytes rs nodes bytes in
    let R : List ℕ → Type 0 = λ bs. AreRootsOf from w count zero bytes roots nodes bs in
    subst R rest_is (subst O roots_are (subst N nodes_are here))
roots_sound (suc k) from w count bytes roots nodes rest each is =
    let A : Type 0 = (List ℕ × List (Tree (List ℕ))) × List ℕ in
    let root = little_number 4 bytes in
    let word = one_bit_word root w in
    let tested = if_some (is_root from w bytes) _ ((roots, nodes), rest) is in
    let passes = tested.0 in
    let first = then_some (node_in (bits_left word) count word (drop 4 bytes))
    (λ t between. then_read (roots_in k (root + 1) w count between) (before root t)) ((roots, nodes), rest) tested.1 in
    let t = first.0.0 in
    let between = first.0.1 in
    let second = then_some (roots_in k (root + 1) w count between) (before root t) ((roots, nodes), rest) first.2 in
    let more = second.0.0 in
    let end = second.0.1 in
    let pair : ◌≡◌ {A = A} ((root ∷ more.0, t ∷ more.1), end) ((roots, nodes), rest)
    = same_Some ((root ∷ more.0, t ∷ more.1), end) ((roots, nodes), rest) second.2 in
    let roots_are : root ∷ more.0 ≡ roots = ap (λ (q : A). q.0.0) pair in
    let nodes_are : t ∷ more.1 ≡ nodes = ap (λ (q : A). q.0.1) pair in
    let rest_is : end ≡ rest = ap (λ (q : A). q.1) pair in
    let node = node_sound (bits_left word) count word (drop 4 bytes) t between (drop_bytes 4 bytes each) first.1 in
    let others = roots_sound k (root + 1) w count between more.0 more.1 end node.left second.1 in
    let long : 4 ≤ length bytes = grind (arith, nat_tests) in
    let low : from ≤ root = grind (arith, nat_tests) in
    let high : root < 2 ^ w = grind (arith, nat_tests) in
    let here : AreRootsOf from w count (suc k) bytes (root ∷ more.0) (t ∷ more.1) end = record {
      spelled =
          four_bytes bytes each long
          ∙ ap (λ bs. little_bytes 4 root ++ bs) (node.spelled ∙ ap (λ bs. node_text t ++ bs) others.spelled
          ∙ sym (append_assoc (node_text t) (roots_text more.0 more.1) end));
      up = (low, high, others.up);
      are = (record { there = node.there; node = node.node }, others.are);
      many = ap (λ m. suc m) others.many;
      left = others.left;
    } in
    let N : List (Tree (List ℕ)) → Type 0 = λ ns. AreRootsOf from w count (suc k) bytes (root ∷ more.0) ns end in
    let O : List ℕ → Type 0 = λ rs. AreRootsOf from w count (suc k) bytes rs nodes end in
    let R : List ℕ → Type 0 = λ bs. AreRootsOf from w count (suc k) bytes roots nodes bs in
    subst R rest_is (subst O roots_are (subst N nodes_are here))
