-- The leaves of what is saved have numbers that can be saved (`all_numbers`), which are below its count (`all_below`).
use Rattle.std.proofs.Common.{ℕ, ◌<◌, List, [], ◌∷◌, All}
use Rattle.std.specs.Prelude.{flat_map, true, false}
use Rattle.std.proofs.lemmas.List.Elements.{All-nil, All-cons, All-append}
use Rattle.isax_word.specs.declared.word.Part.{Part}
use Rattle.isax_word.specs.Word.{child_word, one_bit_word}
use Rattle.subtree_build.specs.Tree.{Tree, absent, leaf, split, leaves_of}
use Rattle.saved_index.specs.Saved.{AreNumbers, IsNode, AreRootNodes}

-- numbers below a count
abbrev pub AreBelow : ℕ → List ℕ → Type 0
AreBelow count numbers = All (λ n. n < count) numbers

node_numbers : (count : ℕ) (word : List Part) (t : Tree (List ℕ)) → IsNode count word t
    → All (AreNumbers count) (leaves_of t)
node_numbers count word absent is = All-nil (AreNumbers count)
node_numbers count word (leaf xs) is = All-cons (AreNumbers count) xs [] is (All-nil (AreNumbers count))
node_numbers count word (split j low high) is =
    All-append (AreNumbers count) (leaves_of low) (leaves_of high) (node_numbers count (child_word word j false) low is.1)
    (node_numbers count (child_word word j true) high is.2)

pub all_numbers : (segments count : ℕ) (roots : List ℕ) (nodes : List (Tree (List ℕ))) → AreRootNodes segments count roots nodes
    → All (AreNumbers count) (flat_map (λ t. leaves_of t) nodes)
all_numbers segments count [] [] are = All-nil (AreNumbers count)
all_numbers segments count [] (t ∷ nodes) are = absurd are
all_numbers segments count (root ∷ roots) [] are = absurd are
all_numbers segments count (root ∷ roots) (t ∷ nodes) are =
    All-append (AreNumbers count) (leaves_of t) (flat_map (λ (u : Tree (List ℕ)). leaves_of u) nodes)
    (node_numbers count (one_bit_word root segments) t are.0.node) (all_numbers segments count roots nodes are.1)

pub all_below : (segments count : ℕ) (roots : List ℕ) (nodes : List (Tree (List ℕ))) → AreRootNodes segments count roots nodes
    → All (AreBelow count) (flat_map (λ t. leaves_of t) nodes)
all_below segments count roots nodes are k d inside = (all_numbers segments count roots nodes are k d inside).below
