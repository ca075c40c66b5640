-- The members of a tree are those that were divided: each as often (`total_divided`), and what holds of all of them
-- (`all_divided`). The root numbers part the members of a collection (`total_by_roots`).
use Rattle.std.proofs.Common.{◌≡◌, ℕ, zero, suc, ◌+◌, ◌*◌, Bool, true, false, cond, List, [], ◌∷◌, length, mul-one, refl, ap, ◌∙◌, arith, All}
use Rattle.std.specs.Prelude.{filter, nat_le, nat_eq, not}
use Rattle.std.proofs.lemmas.Bool.{cond_both}
use Rattle.std.proofs.lemmas.List.Elements.{All-nil, All-cons, All-append, All-filter, All-head, All-tail}
use Rattle.list_totals.specs.Totals.{total, times}
use Rattle.list_totals.proofs.Totals.{total_append}
use Rattle.isax_word.specs.declared.word.Part.{Part}
use Rattle.isax_word.specs.Word.{child_word}
use Rattle.isax_word.specs.FullWord.{root_number}
use Rattle.isax_word.specs.declared.member.Member.{Member}
use Rattle.summary_phase.specs.Roots.{of_root}
use Rattle.subtree_build.specs.declared.leaf.TreeLeaf.{TreeLeaf}
use Rattle.subtree_build.specs.Tree.{Tree, leaf, split, leaves_of}
use Rattle.subtree_build.specs.Division.{leaf_with, divide}
use Rattle.subtree_build.specs.Splitting.{goes_high, goes_low, split_segment}

-- a total over the members of a leaf
abbrev pub total_in : (Member → ℕ) → TreeLeaf → ℕ
total_in f x = total f x.members

-- the members that pass a test and those that do not make up all
total_both : (f : Member → ℕ) (p : Member → Bool) (ms : List Member)
    → total f (filter (λ m. not (p m)) ms) + total f (filter p ms) ≡ total f ms
total_both f p [] = refl
total_both f p (m ∷ ms) = by_test (p m) (total_both f p ms)
  where
    by_test : (b : Bool)
        → total f (filter (λ x. not (p x)) ms) + total f (filter p ms) ≡ total f ms
        → total f (cond (not b) (m ∷ filter (λ x. not (p x)) ms) (filter (λ x. not (p x)) ms))
        + total f (cond b (m ∷ filter p ms) (filter p ms))
        ≡ f m + total f ms
    by_test true rest = omega arith
    by_test false rest = omega arith

-- a total over the members of all leaves of a divided tree is that over the members
pub total_divided : (f : Member → ℕ) (size lacking : ℕ) (word : List Part) (members : List Member)
    → total (total_in f) (leaves_of (divide size lacking word members)) ≡ total f members
unfolding divide
total_divided f size lacking word [] = refl
total_divided f size zero word (m ∷ members) = omega arith
total_divided f size (suc lacking) word (m ∷ members) =
    let all = m ∷ members in
    let j = split_segment word all in
    let low = divide size lacking (child_word word j false) (filter (goes_low word j) all) in
    let high = divide size lacking (child_word word j true) (filter (goes_high word j) all) in
    let in_low = total_divided f size lacking (child_word word j false) (filter (goes_low word j) all) in
    let in_high = total_divided f size lacking (child_word word j true) (filter (goes_high word j) all) in
    let both = total_both f (goes_high word j) all in
    let parts = total_append (total_in f) (leaves_of low) (leaves_of high) in
    cond_both (nat_le (length all) size) (leaf (leaf_with word all)) (split j low high)
    (λ (t : Tree TreeLeaf). total (total_in f) (leaves_of t) ≡ total f all)
    (λ _. omega arith)
    (λ _. omega (arith, in_low, in_high, both, parts))

-- what holds of all members holds of all members of the leaves
pub all_divided : (P : Member → Type 0) (size lacking : ℕ) (word : List Part) (members : List Member)
    → All P members
    → All (λ (x : TreeLeaf). All P x.members) (leaves_of (divide size lacking word members))
unfolding divide
all_divided P size lacking word [] all = All-nil _
all_divided P size zero word (m ∷ members) all =
    All-cons (λ (x : TreeLeaf). All P x.members) (leaf_with word (m ∷ members)) [] all (All-nil _)
all_divided P size (suc lacking) word (m ∷ members) all =
    let ms = m ∷ members in
    let j = split_segment word ms in
    let low = divide size lacking (child_word word j false) (filter (goes_low word j) ms) in
    let high = divide size lacking (child_word word j true) (filter (goes_high word j) ms) in
    cond_both (nat_le (length ms) size) (leaf (leaf_with word ms)) (split j low high)
    (λ (t : Tree TreeLeaf). All (λ (x : TreeLeaf). All P x.members) (leaves_of t))
    (λ _. All-cons (λ (x : TreeLeaf). All P x.members) (leaf_with word ms) [] all (All-nil _))
    (λ _. All-append (λ (x : TreeLeaf). All P x.members) (leaves_of low) (leaves_of high)
    (all_divided P size lacking (child_word word j false) (filter (goes_low word j) ms)
    (All-filter (goes_low word j) P ms all))
    (all_divided P size lacking (child_word word j true) (filter (goes_high word j) ms)
    (All-filter (goes_high word j) P ms all)))

-- how often a member's root number stands in a list
abbrev pub times_root : List ℕ → Member → ℕ
times_root roots m = times (root_number m.full) roots

-- the part that a member has in the total over its own root's members
part_of_root : (f : Member → ℕ) (m : Member) (ms : List Member) (roots : List ℕ)
    → total (λ r. total f (of_root (m ∷ ms) r)) roots
    ≡ f m * times_root roots m + total (λ r. total f (of_root ms r)) roots
part_of_root f m ms [] = omega arith
part_of_root f m ms (r ∷ roots) =
    by_test (nat_eq (root_number m.full) r) (part_of_root f m ms roots)
  where
    by_test : (b : Bool)
        → total (λ q. total f (of_root (m ∷ ms) q)) roots
        ≡ f m * times_root roots m + total (λ q. total f (of_root ms q)) roots
        → total f (cond b (m ∷ of_root ms r) (of_root ms r)) + total (λ q. total f (of_root (m ∷ ms) q)) roots
        ≡ f m * (cond b 1 0 + times_root roots m)
        + (total f (of_root ms r) + total (λ q. total f (of_root ms q)) roots)
    by_test true rest =
        let parts : f m * (1 + times_root roots m) ≡ f m + f m * times_root roots m = grind arith in
        omega (arith, rest, parts)
    by_test false rest = omega (arith, rest)

-- without members there is no total
none_by_roots : (f : Member → ℕ) (roots : List ℕ) → total (λ r. total f (of_root [] r)) roots ≡ 0
none_by_roots f [] = refl
none_by_roots f (r ∷ roots) = omega (arith, none_by_roots f roots)

-- where each member's root number stands once in a list, totals over the members by root number are totals over all
pub total_by_roots : (f : Member → ℕ) (ms : List Member) (roots : List ℕ)
    → All (λ m. times_root roots m ≡ 1) ms
    → total (λ r. total f (of_root ms r)) roots ≡ total f ms
total_by_roots f [] roots once = none_by_roots f roots
total_by_roots f (m ∷ ms) roots once =
    let own : f m * times_root roots m ≡ f m
    = ap (λ n. f m * n) (All-head (λ x. times_root roots x ≡ 1) m ms once) ∙ mul-one (f m) in
    let rest = total_by_roots f ms roots (All-tail (λ x. times_root roots x ≡ 1) m ms once) in
    omega (arith, part_of_root f m ms roots, own, rest)
