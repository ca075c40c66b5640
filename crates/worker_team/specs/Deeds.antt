-- What was made with each pass.
use Rattle.std.specs.Prelude.{List, [], ◌∷◌}
use Rattle.claim_word.specs.Passes.{Pass}

-- there is one thing made for each pass, in order, and the pass did it
abbrev pub EachDid : {M : Type 0} → (Pass → M → Type 0) → List Pass → List M → Type 0
EachDid Did [] [] = Unit {0}
EachDid Did [] (m ∷ made) = ⊥
EachDid Did (p ∷ passes) [] = ⊥
EachDid Did (p ∷ passes) (m ∷ made) = Did p m × EachDid Did passes made
