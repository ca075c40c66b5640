-- The search for the symbols of sixteen segments at once: what is left to search of each (`NarrowedAt`); a step of one of them narrows it
-- (`narrowed_at_next`) and leaves the others as they were (`narrowed_at_other`).
use Rattle.std.proofs.Common.{◌≡◌, ◌≢◌, ℕ, ◌+◌, ◌*◌, ◌<◌, ◌≤◌, cond, ℤ, pos, List, length, get_or, set, sym, subst, ◌∙◌}
use Rattle.std.proofs.lemmas.List.{get_or-set_same, get_or-set_other}
use Rattle.breakpoints.specs.declared.table.Table.TheVariants.{Bent}
use Rattle.isax_word.specs.Symbol.{is_reached}
use Rattle.isax_word.proofs.Symbols.{Narrowed, narrowed_next}

-- the search for the symbol of segment i has this many places left
abbrev pub NarrowedAt : List ℤ → List ℕ → ℕ → ℕ → Type 0
NarrowedAt means found left i = Narrowed 1 (get_or means i (pos 0)) (get_or found i 0) left

-- a step of segment j leaves segment i as it was
pub narrowed_at_other : (means : List ℤ) (found : List ℕ) (left i j y : ℕ) → i ≢ j
    → NarrowedAt means found left i → NarrowedAt means (set found j y) left i
narrowed_at_other means found left i j y other is =
    subst (λ k. Narrowed 1 (get_or means i (pos 0)) k left) (sym (get_or-set_other found j i y 0 other)) is

-- a step of segment j
pub narrowed_at_next : (means : List ℤ) (found : List ℕ) (step j y : ℕ) → j < length found → 1 ≤ step
    → NarrowedAt means found (2 * step) j
    → y ≡ get_or found j 0
    + step * cond (is_reached Bent 1 (get_or means j (pos 0)) (get_or found j 0 + step)) 1 0
    → NarrowedAt means (set found j y) step j
narrowed_at_next means found step j y inside some is value =
    subst (λ k. Narrowed 1 (get_or means j (pos 0)) k step)
    (sym (get_or-set_same found j y 0 inside ∙ value))
    (narrowed_next 1 (get_or means j (pos 0)) (get_or found j 0) step some is)
