-- Parts put together one by one (`joined_nodes_push`), and the numbers of their leaves (`moved_fits`).
use Rattle.std.proofs.Common.{◌≡◌, ℕ, ◌+◌, ◌^◌, ◌<◌, ◌≤◌, List, [], ◌∷◌, ◌++◌, length, refl, sym, ap, ◌∙◌, subst, arith, length-append, add_assoc, zero-add, All}
use Rattle.std.specs.Prelude.{flat_map}
use Rattle.std.proofs.lemmas.List.{flat_map_more}
use Rattle.list_totals.specs.Totals.{total}
use Rattle.list_totals.proofs.Totals.{total_append}
use Rattle.worker_team.proofs.Hiring.{All-middle}
use Rattle.subtree_build.specs.declared.leaf.TreeLeaf.{TreeLeaf}
use Rattle.isax_word.specs.declared.member.Member.{Member}
use Rattle.subtree_build.specs.declared.leaf.GrownLeaf.{GrownLeaf}
use Rattle.subtree_build.specs.declared.part.RootPart.{RootPart}
use Rattle.subtree_build.specs.Building.{leaves_of_part}
use Rattle.subtree_build.proofs.Growing.{length-cut}
use Rattle.subtree_build.specs.Tree.{Tree, absent, leaf, split, leaves_of, numbered, IsBuilt}
use Rattle.subtree_build.specs.Outline.{outline, moved_up, AllLeaves}
use Rattle.subtree_build.specs.Parts.{leaves_in, joined_nodes, part_firsts, NumbersWithin}

-- the leaves of parts, one part after another
abbrev pub part_leaves : List RootPart → List GrownLeaf
part_leaves parts = flat_map (λ p. p.leaves.items) parts

-- the members of parts, one part after another
abbrev pub part_members : List RootPart → List Member
part_members parts = flat_map (λ p. p.members.items) parts

-- one part more
pub joined_nodes_push : (first : ℕ) (parts : List RootPart) (p : RootPart)
    → joined_nodes first (parts ++ p ∷ [])
    ≡ joined_nodes first parts ++ moved_up (first + total leaves_in parts) (outline p.node) ∷ []
joined_nodes_push first [] p =
    ap (λ n. moved_up n (outline p.node) ∷ []) (omega arith)
joined_nodes_push first (q ∷ parts) p =
    ap (λ xs. moved_up first (outline q.node) ∷ xs)
    (joined_nodes_push (first + leaves_in q) parts p
    ∙ ap (λ n. joined_nodes (first + leaves_in q) parts ++ moved_up n (outline p.node) ∷ [])
    (add_assoc first (leaves_in q) (total leaves_in parts)))

-- the number behind the leaves of one part more
pub part_firsts_push : (first : ℕ) (parts : List RootPart) (p : RootPart)
    → part_firsts first (parts ++ p ∷ [])
    ≡ part_firsts first parts ++ (first + (total leaves_in parts + leaves_in p)) ∷ []
part_firsts_push first [] p = ap (λ n. first ∷ n ∷ []) (omega arith)
part_firsts_push first (q ∷ parts) p =
    ap (λ xs. first ∷ xs)
    (part_firsts_push (first + leaves_in q) parts p
    ∙ ap (λ n. part_firsts (first + leaves_in q) parts ++ n ∷ []) (omega arith))

-- the leaves of all parts are as many as those of each together
pub length-part_leaves : (parts : List RootPart) → length (part_leaves parts) ≡ total leaves_in parts
length-part_leaves [] = refl
length-part_leaves (p ∷ parts) =
    let rest = length-part_leaves parts in
    length-append p.leaves.items (part_leaves parts) ∙ ap (λ n. leaves_in p + n) rest

-- the leaves of one part more
pub part_leaves_push : (parts : List RootPart) (p : RootPart)
    → part_leaves (parts ++ p ∷ []) ≡ part_leaves parts ++ p.leaves.items
part_leaves_push parts p = sym (flat_map_more (λ (q : RootPart). q.leaves.items) [] parts p)

-- the members of one part more
pub part_members_push : (parts : List RootPart) (p : RootPart)
    → part_members (parts ++ p ∷ []) ≡ part_members parts ++ p.members.items
part_members_push parts p = sym (flat_map_more (λ (q : RootPart). q.members.items) [] parts p)

-- leaf numbers below a count, moved up, fit where the count does
pub moved_fits : (t : Tree ℕ) (count by room : ℕ) → AllLeaves (λ l. l < count) t → count + by ≤ room
    → AllLeaves (λ l. l + by < room) t
moved_fits absent count by room all fits = tt
moved_fits (leaf l) count by room all fits = omega arith
moved_fits (split j low high) count by room all fits =
    (moved_fits low count by room all.0 fits, moved_fits high count by room all.1 fits)

-- a numbered tree moved up is the tree numbered from there
pub moved_numbered : {A : Type 0} (t : Tree A) (first by : ℕ)
    → moved_up by (numbered first t) ≡ numbered (first + by) t
moved_numbered absent first by = refl
moved_numbered (leaf x) first by = refl
moved_numbered (split j low high) first by =
    ap (λ t. split j t (moved_up by (numbered (first + length (leaves_of low)) high)))
    (moved_numbered low first by)
    ∙ ap (λ t. split j (numbered (first + by) low) t)
    (moved_numbered high (first + length (leaves_of low)) by
    ∙ ap (λ n. numbered n high) (omega arith))

-- the leaves of a numbered tree have numbers from the first on, as many as there are leaves
pub numbered_within : {A : Type 0} (t : Tree A) (first : ℕ)
    → AllLeaves (λ l. l < first + length (leaves_of t)) (numbered first t)
numbered_within absent first = tt
numbered_within (leaf x) first = omega arith
numbered_within (split j low high) first =
    let long = length-append (leaves_of low) (leaves_of high) in (
      less (numbered first low) (first + length (leaves_of low)) (first + length (leaves_of low ++ leaves_of high))
          (omega arith) (numbered_within low first),
      less (numbered (first + length (leaves_of low)) high)
          (first + length (leaves_of low) + length (leaves_of high))
          (first + length (leaves_of low ++ leaves_of high))
          (omega arith) (numbered_within high (first + length (leaves_of low))),
    )
  where
    -- numbers below a count are below a greater one
    less : (t : Tree ℕ) (a b : ℕ) → a ≤ b → AllLeaves (λ l. l < a) t → AllLeaves (λ l. l < b) t
    less absent a b le all = tt
    less (leaf l) a b le all = omega arith
    less (split j low high) a b le all = (less low a b le all.0, less high a b le all.1)

-- a part that was built has the numbers of its own leaves
pub built_within : (t : Tree TreeLeaf) (p : RootPart) → IsBuilt t [] (outline p.node) (leaves_of_part p)
    → NumbersWithin p
built_within t p built =
    let P : Tree ℕ → Type 0 = λ n. AllLeaves (λ l. l < leaves_in p) n in
    let Q : ℕ → Type 0 = λ k. AllLeaves (λ l. l < k) (numbered 0 t) in
    let long : leaves_in p ≡ length (leaves_of t)
    = sym (length-cut p.leaves.items p.members.items) ∙ ap length built.leaves_are in
    subst P (sym built.node_is)
    (subst Q (sym long) (subst Q (zero-add (length (leaves_of t))) (numbered_within t 0)))

module _ (all done left rest : List RootPart) (p : RootPart) (next : left ≡ p ∷ rest) (whole : done ++ left ≡ all) where
  -- the next part stands behind the parts before it
  pub next_is_whole : done ++ p ∷ rest ≡ all
  next_is_whole = ap (λ xs. done ++ xs) (sym next) ∙ whole

  -- and its leaves fit behind theirs
  pub next_fits : total leaves_in all < 2 ^ 32 → leaves_in p + length (part_leaves done) < 2 ^ 32
  next_fits few =
      let parts : total leaves_in all ≡ total leaves_in done + (leaves_in p + total leaves_in rest)
      = ap (total leaves_in) (sym next_is_whole) ∙ total_append leaves_in done (p ∷ rest) in
      let long = length-part_leaves done in
      omega arith

  -- and it has what each part has
  pub next_has : (P : RootPart → Type 0) → All P all → P p
  next_has P each =
      let Q : List RootPart → Type 0 = λ ps. All P ps in
      All-middle P done rest p (subst Q (sym next_is_whole) each)
