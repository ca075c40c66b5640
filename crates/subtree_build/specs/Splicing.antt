-- Lists of members taken out of the buffers.
use Rattle.std.specs.Prelude.{ℕ, Bool, true, false, List, [], ◌∷◌, ◌++◌, slice_set}
use Rattle.isax_word.specs.declared.member.Member.{Member}

-- whether there is a member
abbrev pub has_members : List Member → Bool
has_members [] = false
has_members (m ∷ members) = true

-- buffers of which one root's list is empty
abbrev pub emptied : ℕ → List (List Member) → List (List Member)
emptied root buffers = slice_set buffers root []

-- a list with one item more where a test passes
abbrev pub kept_if : {X : Type 0} → Bool → List X → X → List X
kept_if true xs x = xs ++ x ∷ []
kept_if false xs x = xs
