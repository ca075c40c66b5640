-- Groups of boxes in a row: one more group is that of the next boxes (`group_more`), and where all boxes are in groups they are the
-- groups (`all_grouped`). Of what is left the first `size` are taken, or all of it (`front_is`, `back_is`). A group of an index has
-- the box of its leaves' means (`group_of_means`).
use Rattle.std.proofs.Common.{◌≡◌, ℕ, ◌+◌, ◌-◌, ◌*◌, ◌<◌, ◌≤◌, ◌++◌, ◌∷◌, [], List, arith, length, length-append, take, drop, take_all, drop_of_length-le, drop-drop, get_or, map, refl, ap, sym, ◌∙◌, ⊎_elim}
use Rattle.std.specs.Prelude.{min, Some, slice_get}
use Rattle.std.proofs.lemmas.Bool.{cases_lt}
use Rattle.std.proofs.lemmas.List.{drop-map, get_or_append_left, length-map, take-map}
use Rattle.std.proofs.lemmas.Nat.{mul-le}
use Rattle.std.proofs.lemmas.Option.{get_or_from_slice_get, slice_get-get_or, slice_get_within}
use Rattle.std.proofs.Math.Seq.{get_or-append_seam}
use Rattle.mean_bound.specs.Boxes.{Box, box_of, box_of_boxes}
use Rattle.subtree_build.specs.declared.leaf.LeafPlace.{LeafPlace}
use Rattle.subtree_build.specs.Places.{boxes_seen, means_seen, AreGroups}

-- the first n groups are those of their boxes
abbrev pub FirstGroups : ℕ → List Box → ℕ → List Box → Type 0
FirstGroups size boxes n groups = (g : ℕ) → g < n
    → slice_get groups g ≡ Some (box_of_boxes (take size (drop (g * size) boxes)))

-- where at most all is taken, the least of both counts is as good
pub front_is : {X : Type 0} (size : ℕ) (rest : List X) → take (min size (length rest)) rest ≡ take size rest
front_is size rest = ⊎_elim
    (λ (short : size < length rest). ap (λ n. take n rest) {x = min size (length rest)} {y = size} (omega arith))
    (λ (long : length rest ≤ size).
    ap (λ n. take n rest) {x = min size (length rest)} {y = length rest} (omega arith)
    ∙ take_all (length rest) rest (omega arith) ∙ sym (take_all size rest long))
    (cases_lt size (length rest))

-- and so for what is behind
pub back_is : {X : Type 0} (size : ℕ) (rest : List X) → drop (min size (length rest)) rest ≡ drop size rest
back_is size rest = ⊎_elim
    (λ (short : size < length rest). ap (λ n. drop n rest) {x = min size (length rest)} {y = size} (omega arith))
    (λ (long : length rest ≤ size).
    ap (λ n. drop n rest) {x = min size (length rest)} {y = length rest} (omega arith)
    ∙ drop_of_length-le rest (omega arith) ∙ sym (drop_of_length-le rest long))
    (cases_lt size (length rest))

-- what is behind one group more
pub behind_more : {X : Type 0} (size n : ℕ) (boxes rest : List X) → rest ≡ drop (n * size) boxes
    → drop size rest ≡ drop ((n + 1) * size) boxes
behind_more size n boxes rest is =
    ap (drop size) is ∙ drop-drop size (n * size) boxes
    ∙ ap (λ m. drop m boxes) {x = n * size + size} {y = (n + 1) * size} (omega arith)

-- one group more
pub group_more : (size : ℕ) (boxes rest groups : List Box) (b : Box) → rest ≡ drop (length groups * size) boxes
    → b ≡ box_of_boxes (take size rest) → FirstGroups size boxes (length groups) groups
    → FirstGroups size boxes (length groups + 1) (groups ++ b ∷ [])
group_more size boxes rest groups b left is first g inside = ⊎_elim
    (λ (before : g < length groups).
    let here = first g before in
    there ∙ ap Some (get_or_append_left groups (b ∷ []) b g before
    ∙ get_or_from_slice_get groups g (box_of_boxes (take size (drop (g * size) boxes))) b here))
    (λ (last : length groups ≤ g).
    let same : g ≡ length groups = omega arith in
    there ∙ ap Some (ap (λ n. get_or (groups ++ b ∷ []) n b) same ∙ get_or-append_seam groups b [] b ∙ is
    ∙ ap (λ (bs : List Box). box_of_boxes (take size bs)) left
    ∙ ap (λ n. box_of_boxes (take size (drop (n * size) boxes))) (sym same)))
    (cases_lt g (length groups))
  where
    there : slice_get (groups ++ b ∷ []) g ≡ Some (get_or (groups ++ b ∷ []) g b)
    there = slice_get-get_or (groups ++ b ∷ []) g b (omega (arith, inside, length-append groups (b ∷ [])))

-- all boxes are in groups
pub all_grouped : (size n : ℕ) (boxes groups : List Box) → length boxes ≤ n * size → FirstGroups size boxes n groups
    → AreGroups size boxes groups
all_grouped size n boxes groups whole first g inside = ⊎_elim
    (λ (before : g < n). first g before)
    (λ (past : n ≤ g). let more = mul-le n size g size past (omega arith) in absurd (omega arith))
    (cases_lt g n)

-- the boxes of leaves are those of their means
boxes_of_means : (means : List (List ℕ)) (places : List LeafPlace)
    → boxes_seen means places ≡ map box_of (means_seen means places)
boxes_of_means means [] = refl
boxes_of_means means (p ∷ places) =
    ap (λ (bs : List Box). box_of (take (p.end - p.first) (drop p.first means)) ∷ bs) (boxes_of_means means places)

module _ (size g : ℕ) (means : List (List ℕ)) (places : List LeafPlace) (boxes groups : List Box)
    (are_boxes : boxes ≡ boxes_seen means places) (are_groups : AreGroups size boxes groups)
    (inside : g * size < length places) where
  -- the group is there, with the box of its boxes
  there : slice_get groups g ≡ Some (box_of_boxes (take size (drop (g * size) boxes)))
  there = are_groups g (omega (
    arith,
    inside,
    ap (λ (bs : List Box). length bs) are_boxes,
    length-map places (λ (p : LeafPlace). box_of (take (p.end - p.first) (drop p.first means))),
  ))

  -- so its number is that of a group
  pub group_inside : g < length groups
  group_inside = slice_get_within groups g (box_of_boxes (take size (drop (g * size) boxes))) there

  -- and its box is that of the boxes of its leaves' means
  pub group_of_means : (b : Box) → b ≡ get_or groups g b
      → b ≡ box_of_boxes (map box_of (take size (drop (g * size) (means_seen means places))))
  group_of_means b at =
      let all = means_seen means places in
      at ∙ get_or_from_slice_get groups g (box_of_boxes (take size (drop (g * size) boxes))) b there
      ∙ ap (λ (bs : List Box). box_of_boxes (take size (drop (g * size) bs))) (are_boxes ∙ boxes_of_means means places)
      ∙ ap (λ (bs : List Box). box_of_boxes (take size bs)) (drop-map box_of (g * size) all)
      ∙ ap (λ (bs : List Box). box_of_boxes bs) (take-map box_of size (drop (g * size) all))
