-- Items kept in 16 places, the rest padded: writing at the first padded place adds an item
-- (`padded_next`).
use Rattle.std.proofs.Common.{◌≡◌, ℕ, suc, ◌+◌, ◌-◌, ◌<◌, ◌≤◌, arith, refl, List, [], ◌∷◌, ◌++◌, replicate, length, map, get_or, set, take, sym, ◌∙◌, ap, append_assoc}
use Rattle.std.proofs.lemmas.List.{get_or_append_left, get_or-append_right, get_or-replicate, get_or-map, length-map, set_at, set-append_left, length-append, length-replicate, length_push, map-append, take_more, take_more_set, length-set}
use Rattle.std.proofs.Math.Seq.{take-set-lt}
use Rattle.isax_word.specs.Padded.{padded, IsKept}

-- a list of padding keeps no items
pub padded_none : {X : Type 0} (padding : X) → IsKept padding (replicate 16 padding) 0
padded_none padding = record { long = refl; kept = refl }

-- a padded list of at most 16 items has 16 places
pub length-kept : {X : Type 0} (padding : X) (xs : List X) (k : ℕ) → k ≤ 16 → IsKept padding xs k
    → length xs ≡ 16
length-kept {X} padding xs k few is =
    ap (λ (l : List X). length l) is.kept ∙ length-append (take k xs) _
    ∙ omega (arith, length-replicate (16 - length (take k xs)) padding, is.long)

-- writing at the first padded place adds an item
pub padded_next : {X : Type 0} (padding : X) (xs : List X) (k : ℕ) (y : X) → k < 16
    → IsKept padding xs k
    → IsKept padding (set xs k y) (k + 1) × (take (k + 1) (set xs k y) ≡ take k xs ++ y ∷ [])
padded_next {X} padding xs k y inside is =
    let front = take k xs in
    let whole : k < length xs = omega (arith, length-kept padding xs k (omega arith) is) in
    let more : take (k + 1) (set xs k y) ≡ front ++ y ∷ [] = take_more_set xs k y whole in
    let long : length (front ++ y ∷ []) ≡ k + 1 = length_push front y ∙ ap (λ n. n + 1) is.long in
    let behind = replicate (16 - (k + 1)) padding in
    let one_less : 16 - length front ≡ suc (16 - (k + 1)) = omega (arith, is.long) in
    let split : xs ≡ front ++ padding ∷ behind = is.kept
    ∙ ap (λ m. front ++ replicate m padding) one_less in
    let written : set xs k y ≡ padded padding (front ++ y ∷ [])
    = ap (λ (l : List X). set l k y) split ∙ set_at front padding behind y k is.long
    ∙ sym (append_assoc front (y ∷ []) behind)
    ∙ ap (λ m. (front ++ y ∷ []) ++ replicate (16 - m) padding) (sym long) in (
      record {
        long = ap (λ (l : List X). length l) more ∙ long;
        kept = written ∙ ap (λ l. padded padding l) (sym more);
      },
      more,
    )

-- writing at an item in use keeps as many items
pub padded_set : {X : Type 0} (padding : X) (xs : List X) (k j : ℕ) (y : X) → k ≤ 16 → j < k
    → IsKept padding xs k
    → IsKept padding (set xs j y) k × (take k (set xs j y) ≡ set (take k xs) j y)
padded_set {X} padding xs k j y few used is =
    let more : take k (set xs j y) ≡ set (take k xs) j y = take-set-lt k xs j y used in
    let long : length (set (take k xs) j y) ≡ k = length-set (take k xs) j y ∙ is.long in
    let inside : j < length (take k xs) = omega (arith, is.long) in
    let written : set xs j y ≡ padded padding (take k (set xs j y))
    = ap (λ (l : List X). set l j y) is.kept
    ∙ set-append_left (take k xs) _ j y inside
    ∙ ap (λ m. set (take k xs) j y ++ replicate (16 - m) padding) (is.long ∙ sym long)
    ∙ ap (λ l. padded padding l) (sym more) in (
      record {
        long = ap (λ (l : List X). length l) more ∙ long;
        kept = written;
      },
      more,
    )

-- a list that keeps the images of the first k items of another
pub record HoldsImages {X : Type 0} (f : X → ℕ) (xs : List X) (ys : List ℕ) (k : ℕ) : Type 0 where
  pub kept : IsKept 0 ys k
  pub are : take k ys ≡ map f (take k xs)

-- writing the image of the next item at the first padded place adds it
pub images_next : {X : Type 0} (f : X → ℕ) (xs : List X) (ys : List ℕ) (k y : ℕ) (d : X) → k < 16 → k < length xs
    → y ≡ f (get_or xs k d) → HoldsImages f xs ys k → HoldsImages f xs (set ys k y) (k + 1)
images_next {X} f xs ys k y d inside used is holds =
    let next = padded_next 0 ys k y inside holds.kept in
    record {
      kept = next.0;
      are = next.1
          ∙ ap (λ (l : List ℕ). l ++ y ∷ []) holds.are
          ∙ ap (λ (n : ℕ). map f (take k xs) ++ n ∷ []) is
          ∙ sym (map-append f (take k xs) (get_or xs k d ∷ []))
          ∙ ap (λ (l : List X). map f l) (sym (take_more xs k d used));
    }

-- the images of all items that are kept are padded as these are
pub images_padded : {X : Type 0} (f : X → ℕ) (xs : List X) (ys : List ℕ) (k : ℕ) → HoldsImages f xs ys k
    → ys ≡ padded 0 (map f (take k xs))
images_padded f xs ys k holds = holds.kept.kept ∙ ap (λ (l : List ℕ). padded 0 l) holds.are

-- among the images of all items, padded, stands that of each
pub get_or-images : {X : Type 0} (f : X → ℕ) (xs : List X) (j : ℕ) (d : X) → j < length xs
    → get_or (padded 0 (map f xs)) j 0 ≡ f (get_or xs j d)
get_or-images f xs j d used =
    get_or_append_left (map f xs) _ 0 j (omega (arith, length-map xs f)) ∙ get_or-map f xs j d 0 used

-- behind the items stands the padding
pub get_or-padding : (items : List ℕ) (j : ℕ) → length items ≤ j → j < 16 → get_or (padded 0 items) j 0 ≡ 0
get_or-padding items j behind inside =
    get_or-append_right items (replicate (16 - length items) 0) (length items) j 0 refl behind
    ∙ get_or-replicate (16 - length items) (j - length items) 0 0 (omega (arith, behind, inside))
