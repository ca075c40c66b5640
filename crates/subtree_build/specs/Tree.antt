-- Plain trees: a child without members is absent, a leaf holds one item, and a split has two children.
use Rattle.std.specs.Prelude.{◌≡◌, ℕ, ◌+◌, Bool, true, false, List, [], ◌∷◌, ◌++◌, length}

-- a tree whose leaves hold an A each; a split names the segment in which its children have one bit more
pub data Tree (A : Type 0) : Type 0 where
  absent : Tree A
  leaf : A → Tree A
  split : ℕ → Tree A → Tree A → Tree A

-- whether there is no such node
abbrev pub is_absent : {A : Type 0} → Tree A → Bool
is_absent absent = true
is_absent (leaf x) = false
is_absent (split segment low high) = false

-- what the leaves hold, in order: low before high
abbrev pub leaves_of : {A : Type 0} → Tree A → List A
leaves_of absent = []
leaves_of (leaf x) = x ∷ []
leaves_of (split segment low high) = leaves_of low ++ leaves_of high

-- the tree with its leaves numbered in order, the first of them by `first`
abbrev pub numbered : {A : Type 0} → ℕ → Tree A → Tree ℕ
numbered first absent = absent
numbered first (leaf x) = leaf first
numbered first (split segment low high) =
    split segment (numbered first low) (numbered (first + length (leaves_of low)) high)

-- trees whose leaves are numbered on from one tree to the next, the first of them by `first`
abbrev pub all_numbered : {A : Type 0} → ℕ → List (Tree A) → List (Tree ℕ)
all_numbered first [] = []
all_numbered first (t ∷ trees) =
    numbered first t ∷ all_numbered (first + length (leaves_of t)) trees

-- a node was built behind the leaves that there were: its leaves stand behind them, and it names them in order
pub record IsBuilt {A : Type 0} (t : Tree A) (before : List A) (node : Tree ℕ) (after : List A) : Type 0 where
  pub node_is : node ≡ numbered (length before) t
  pub leaves_are : after ≡ before ++ leaves_of t
