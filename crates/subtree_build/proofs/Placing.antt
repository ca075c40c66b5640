-- Parts that workers drew, put in the order of their places: one for each place (`places_are`).
use Rattle.std.proofs.Common.{◌≡◌, ℕ, zero, suc, ◌+◌, ◌<◌, ◌≤◌, true, List, [], ◌∷◌, ◌++◌, length, get_or, refl, sym, ap, ◌∙◌, subst, ⊎_elim, arith, All, zero-add}
use Rattle.std.specs.Prelude.{flat_map, IsPermutation}
use Rattle.std.specs.List.{range_with_len}
use Rattle.std.specs.List.Sorted.{IsNonDecreasingBy}
use Rattle.std.proofs.lemmas.Bool.{cases_eq}
use Rattle.std.proofs.lemmas.Bool.Decides.{nat_tests}
use Rattle.std.proofs.lemmas.List.{map-append}
use Rattle.std.proofs.lemmas.List.Elements.{All-nil, All-append}
use Rattle.std.proofs.lemmas.List.Sorted.{sum_by-IsPermutation}
use Rattle.list_totals.specs.Totals.{times, one_if_same, once_below}
use Rattle.list_totals.proofs.Totals.{total_map}
use Rattle.claim_word.specs.Passes.{Pass, EachDrawnOnce}
use Rattle.worker_team.specs.Deeds.{EachDid}
use Rattle.worker_team.proofs.Deeds.{passes_have}
use Rattle.claim_word.proofs.Draws.{all_draws, all_drawn, times_all}
use Rattle.std.specs.declared.vec.Vec.{Vec}
use Rattle.std.specs.declared.alloc.Global.{Global}
use Rattle.subtree_build.specs.declared.part.RootPart.{RootPart}
use Rattle.subtree_build.specs.declared.settings.Settings.{Settings}
use Rattle.subtree_build.specs.declared.splicing.RootLists.{RootLists}
use Rattle.subtree_build.specs.Building.{HasBuilt, IsPartAt, places_of}
use Rattle.subtree_build.proofs.ByNumber.{sum_by_is_total}

-- how parts were made with a pass
abbrev Made : Settings → RootLists → Pass → Vec RootPart Global → Type 0
Made settings found pass parts = HasBuilt settings found pass parts.items

-- the passes of workers that built have ended
builders_ended : (settings : Settings) (found : RootLists) (passes : List Pass) (made : List (Vec RootPart Global))
    → EachDid (Made settings found) passes made → All (λ (p : Pass). p.ended ≡ true) passes
builders_ended settings found passes made did =
    passes_have (Made settings found) (λ (p : Pass). p.ended ≡ true) (λ p m d. d.ended) passes made did

-- what workers made are root children at their places
pub builders_made : (settings : Settings) (found : RootLists) (passes : List Pass) (made : List (Vec RootPart Global))
    → EachDid (Made settings found) passes made → All (IsPartAt settings found) (flat_map (λ own. own.items) made)
builders_made settings found passes [] did = All-nil (IsPartAt settings found)
builders_made settings found [] (m ∷ made) did = absurd did
builders_made settings found (p ∷ passes) (m ∷ made) did =
    All-append (IsPartAt settings found) m.items (flat_map (λ (own : Vec RootPart Global). own.items) made)
    did.0.made (builders_made settings found passes made did.1)

-- the places of what workers made are what their passes drew
places_drawn : (settings : Settings) (found : RootLists) (passes : List Pass) (made : List (Vec RootPart Global))
    → EachDid (Made settings found) passes made
    → places_of (flat_map (λ own. own.items) made) ≡ all_draws passes
places_drawn settings found [] [] did = refl
places_drawn settings found [] (m ∷ made) did = absurd did
places_drawn settings found (p ∷ passes) [] did = absurd did
places_drawn settings found (p ∷ passes) (m ∷ made) did =
    let rest = flat_map (λ (own : Vec RootPart Global). own.items) made in
    map-append (λ (q : RootPart). q.place) m.items rest
    ∙ ap (λ l. l ++ places_of rest) did.0.drawn
    ∙ ap (λ l. p.draws ++ l) (places_drawn settings found passes made did.1)

-- each number is from a on, and none is followed by a smaller one
abbrev UpFrom : ℕ → List ℕ → Type 0
UpFrom a [] = Unit {0}
UpFrom a (x ∷ xs) = (a ≤ x) × UpFrom x xs

-- places that do not fall
up_from_sort : (a : ℕ) (ps : List RootPart) → ((d : RootPart) → 0 < length ps → a ≤ (get_or ps 0 d).place)
    → IsNonDecreasingBy (λ (p : RootPart). p.place) ps → UpFrom a (places_of ps)
up_from_sort a [] first up = tt
up_from_sort a (p ∷ ps) first up = (
  first p (omega arith),
  up_from_sort p.place ps (λ d some. up 0 1 d (omega arith) (omega arith))
      (λ i j d before inside. up (suc i) (suc j) d (omega arith) (omega arith)),
)

-- a number below those of a list does not stand in it
not_in : (x a : ℕ) (xs : List ℕ) → x < a → UpFrom a xs → times x xs ≡ 0
not_in x a [] below up = refl
not_in x a (y ∷ ys) below up =
    let other : one_if_same x y ≡ 0 = apart x y (omega (arith, up.0)) in
    omega (arith, other, not_in x y ys (omega (arith, up.0)) up.1)
  where
    apart : (x y : ℕ) → x < y → one_if_same x y ≡ 0
    apart x y less = grind (arith, nat_tests)

-- numbers of which a is none are from a + 1 on
up_next : (a : ℕ) (xs : List ℕ) → UpFrom a xs → times a xs ≡ 0 → UpFrom (a + 1) xs
up_next a [] up none = tt
up_next a (x ∷ xs) up none = (above a x up.0 (omega arith), up.1)
  where
    above : (a x : ℕ) → a ≤ x → one_if_same a x ≡ 0 → a + 1 ≤ x
    above a x no_less other = grind (arith, nat_tests)

-- a number counts once as itself, and not as another
itself : (x y : ℕ) → x ≡ y → one_if_same x y ≡ 1
itself x y same = grind (arith, nat_tests)

another : (x y : ℕ) → y < x → one_if_same x y ≡ 0
another x y less = grind (arith, nat_tests)

within : (x n : ℕ) → x < n → once_below x n ≡ 1
within x n inside = grind (arith, nat_tests)

past : (x n : ℕ) → n ≤ x → once_below x n ≡ 0
past x n outside = grind (arith, nat_tests)

-- numbers in order, each of those from a up to a + n once and no others, are those numbers
ordered_range : (a n : ℕ) (xs : List ℕ) → UpFrom a xs
    → ((x : ℕ) → a ≤ x → times x xs ≡ once_below x (a + n)) → xs ≡ range_with_len a n
ordered_range a zero [] up once = refl
ordered_range a zero (y ∷ ys) up once =
    absurd (omega (arith, once y up.0, itself y y refl, past y (a + 0) (omega (arith, up.0))))
ordered_range a (suc n) [] up once =
    absurd (omega (arith, once a (omega arith), within a (a + suc n) (omega arith)))
ordered_range a (suc n) (y ∷ ys) up once =
    ⊎_elim
    (λ same.
    let up' : UpFrom a ys = let P : ℕ → Type 0 = λ k. UpFrom k ys in subst P (sym same) up.1 in
    let none : times a ys ≡ 0
    = omega (arith, once a (omega arith), within a (a + suc n) (omega arith), itself a y same) in
    ap (λ k. k ∷ ys) (sym same)
    ∙ ap (λ zs. a ∷ zs)
    (ordered_range (a + 1) n ys (up_next a ys up' none)
    (λ x above. omega (
      arith,
      once x (omega (arith, above)),
      another x y (omega (arith, above, same)),
      ap (once_below x) (end a n),
    ))))
    (λ other. absurd (omega (
      arith,
      once a (omega arith),
      within a (a + suc n) (omega arith),
      not_in a y (y ∷ ys) (omega (arith, other, up.0)) (omega arith, up.1),
    )))
    (cases_eq a y)
  where
    end : (a n : ℕ) → a + suc n ≡ a + 1 + n
    end a n = omega arith

-- a permutation has each place as often
times_permuted : (ps qs : List RootPart) (x : ℕ) → IsPermutation ps qs
    → times x (places_of qs) ≡ times x (places_of ps)
times_permuted ps qs x moved =
    let one : RootPart → ℕ = λ p. one_if_same x p.place in
    total_map (one_if_same x) (λ (p : RootPart). p.place) qs
    ∙ sym (sum_by_is_total one qs)
    ∙ sum_by-IsPermutation one ps qs moved
    ∙ sum_by_is_total one ps
    ∙ sym (total_map (one_if_same x) (λ (p : RootPart). p.place) ps)

-- where workers drew all places, each once, their parts in order have the places in order
pub places_are : (settings : Settings) (found : RootLists) (count : ℕ) (passes : List Pass)
    (made : List (Vec RootPart Global)) (parts sorted : List RootPart)
    → EachDid (Made settings found) passes made → parts ≡ flat_map (λ own. own.items) made
    → 0 < length passes → EachDrawnOnce count passes → IsPermutation parts sorted
    → IsNonDecreasingBy (λ (p : RootPart). p.place) sorted
    → places_of sorted ≡ range_with_len 0 count
places_are settings found count passes made parts sorted did is_parts some drawn moved up =
    let all : drawn.drawn ≡ count
    = all_drawn count passes drawn some (builders_ended settings found passes made did) in
    ordered_range 0 count (places_of sorted) (up_from_sort 0 sorted (λ d some. omega arith) up)
    (λ x low.
    times_permuted parts sorted x moved
    ∙ ap (λ (ps : List RootPart). times x (places_of ps)) is_parts
    ∙ ap (times x) (places_drawn settings found passes made did)
    ∙ times_all x passes
    ∙ drawn.once x
    ∙ ap (once_below x) (all ∙ sym (zero-add count)))
