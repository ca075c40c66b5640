-- Parts of a tree and how they are put together.
use Rattle.std.specs.Prelude.{ℕ, ◌+◌, ◌<◌, List, [], ◌∷◌, length}
use Rattle.subtree_build.specs.declared.part.RootPart.{RootPart}
use Rattle.subtree_build.specs.Tree.{Tree}
use Rattle.subtree_build.specs.Outline.{outline, moved_up, AllLeaves}

-- how many leaves a part has
abbrev pub leaves_in : RootPart → ℕ
leaves_in p = length p.leaves.items

-- the numbers of a part's leaves are those of its own leaves
abbrev pub NumbersWithin : RootPart → Type 0
NumbersWithin p = AllLeaves (λ l. l < leaves_in p) (outline p.node)

-- the outlines of the parts' nodes, each with its leaf numbers moved behind the leaves of the parts before it
abbrev pub joined_nodes : ℕ → List RootPart → List (Tree ℕ)
joined_nodes first [] = []
joined_nodes first (p ∷ parts) = moved_up first (outline p.node) ∷ joined_nodes (first + leaves_in p) parts

-- the number of the first leaf of each part, and behind them that of all leaves, where the leaves of the parts are numbered
-- on from `first`
abbrev pub part_firsts : ℕ → List RootPart → List ℕ
part_firsts first [] = first ∷ []
part_firsts first (p ∷ parts) = first ∷ part_firsts (first + leaves_in p) parts
