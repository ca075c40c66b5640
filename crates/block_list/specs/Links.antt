-- How the nodes of a row follow one another.
use Rattle.std.specs.Prelude.{◌≡◌, List, [], ◌∷◌, map}
use denote.RawPtr.{Ptr}

-- where a node lies, and its `next`
abbrev pub Link : Type 0
Link = Ptr × Ptr

-- the links of nodes that are listed with their handles
abbrev pub links_of : {Z : Type 0} → List (Link × Z) → List Link
links_of = map (λ n. n.0)

-- this pointer leads to the first node, and each `next` to the node behind, but for the last
abbrev pub Leads : Ptr → List Link → Type 0
Leads first [] = Unit {0}
Leads first (l ∷ ls) = (first ≡ l.0) × Leads l.1 ls

-- behind a node at this place, these are the rest, and the last of all lies at the end
abbrev pub EndsBehind : Ptr → List Link → Ptr → Type 0
EndsBehind place [] last = last ≡ place
EndsBehind place (l ∷ ls) last = EndsBehind l.0 ls last

-- this pointer leads to the last node
abbrev pub Ends : List Link → Ptr → Type 0
Ends [] last = Unit {0}
Ends (l ∷ ls) last = EndsBehind l.0 ls last

-- the nodes are linked from head to tail
abbrev pub IsLinked : Ptr → Ptr → List Link → Type 0
IsLinked head tail ls = Leads head ls × Ends ls tail
