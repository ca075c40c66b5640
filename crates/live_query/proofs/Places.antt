-- Lists by their places: a list of what there is for each place (`choose`), lists whose items give the same by place
-- (`totals_same`, `maps_same`), and what a mapped list holds.
use Rattle.std.proofs.Common.{◌≡◌, ℕ, zero, suc, ◌<◌, ◌≤◌, List, [], ◌∷◌, ◌++◌, Some, All, get_or, length, map, refl, sym, ap, ◌∙◌, subst, ⊎_elim, append_assoc, arith}
use Rattle.std.specs.Prelude.{slice_get, slice_index_or}
use Rattle.std.proofs.lemmas.List.{map-append}
use Rattle.std.proofs.lemmas.Option.{none-some, same_Some, slice_get-get_or, slice_get_within, get_or_from_slice_get}
use Rattle.list_totals.specs.Standing.{In}
use Rattle.list_totals.specs.Totals.{total}
use Rattle.list_totals.proofs.Standing.{in_append}
use Rattle.search_machine.proofs.Places.{get_map, get_some}

-- a list of what there is for each of n places
pub record Chosen {Y : Type 0} (n : ℕ) (P : ℕ → Y → Type 0) : Type 0 where
  pub items : List Y
  pub count : length items ≡ n
  pub each : (i : ℕ) (y : Y) → slice_get items i ≡ Some y → P i y

pub choose : {Y : Type 0} (n : ℕ) (P : ℕ → Y → Type 0) → ((i : ℕ) → i < n → (y : Y) × P i y) → Chosen n P
choose zero P f = record { items = []; count = refl; each = λ i y e. absurd (none-some y e) }
choose {Y} (suc n) P f =
    let first = f 0 (omega arith) in
    let rest = choose n (λ i. P (suc i)) (λ i low. f (suc i) (omega arith)) in
    record {
      items = first.0 ∷ rest.items;
      count = ap suc rest.count;
      each = each_of first rest;
    }
  where
    each_of : (first : (y : Y) × P 0 y) (rest : Chosen n (λ i. P (suc i))) (i : ℕ) (y : Y)
        → slice_get (first.0 ∷ rest.items) i ≡ Some y → P i y
    each_of first rest zero y e = subst (P 0) (same_Some first.0 y e) first.1
    each_of first rest (suc i) y e = rest.each i y e

-- a total is at most another where the parts at each place are
pub totals_most : {X Y : Type 0} (f : X → ℕ) (h : Y → ℕ) (xs : List X) (ys : List Y) → length xs ≡ length ys
    → ((i : ℕ) (x : X) (y : Y) → slice_get xs i ≡ Some x → slice_get ys i ≡ Some y → f x ≤ h y)
    → total f xs ≤ total h ys
totals_most f h [] [] e most = omega arith
totals_most f h [] (y ∷ ys) e most = absurd (omega arith)
totals_most f h (x ∷ xs) [] e most = absurd (omega arith)
totals_most f h (x ∷ xs) (y ∷ ys) e most =
    let here = most 0 x y refl refl in
    let rest = totals_most f h xs ys (omega arith) (λ i a b p q. most (suc i) a b p q) in
    omega arith

-- and the same where the parts are
pub totals_same : {X Y : Type 0} (f : X → ℕ) (h : Y → ℕ) (xs : List X) (ys : List Y) → length xs ≡ length ys
    → ((i : ℕ) (x : X) (y : Y) → slice_get xs i ≡ Some x → slice_get ys i ≡ Some y → f x ≡ h y)
    → total f xs ≡ total h ys
totals_same f h xs ys e same =
    let most = totals_most f h xs ys e (λ i x y p q. let s = same i x y p q in omega arith) in
    let least = totals_most h f ys xs (sym e) (λ i y x q p. let s = same i x y p q in omega arith) in
    omega arith

-- mapped lists are the same where the items at each place are
pub maps_same : {X Y Z : Type 0} (f : X → Z) (h : Y → Z) (xs : List X) (ys : List Y) → length xs ≡ length ys
    → ((i : ℕ) (x : X) (y : Y) → slice_get xs i ≡ Some x → slice_get ys i ≡ Some y → f x ≡ h y)
    → map f xs ≡ map h ys
maps_same f h [] [] e same = refl
maps_same f h [] (y ∷ ys) e same = absurd (omega arith)
maps_same f h (x ∷ xs) [] e same = absurd (omega arith)
maps_same {Z = Z} f h (x ∷ xs) (y ∷ ys) e same =
    let here = same 0 x y refl refl in
    let rest = maps_same f h xs ys (omega arith) (λ i a b p q. same (suc i) a b p q) in
    ap (λ (z : Z). z ∷ map f xs) here ∙ ap (λ (zs : List Z). h y ∷ zs) rest

-- what holds of all items holds of the one at a place
pub all_at : {X : Type 0} (P : X → Type 0) (xs : List X) (i : ℕ) (x : X) → All P xs → slice_get xs i ≡ Some x → P x
all_at P xs i x all at =
    subst P (get_or_from_slice_get xs i x x at) (all i x (slice_get_within xs i x at))

-- what holds at each place holds of all items
pub all_from : {X : Type 0} (P : X → Type 0) (xs : List X) → ((i : ℕ) (x : X) → slice_get xs i ≡ Some x → P x) → All P xs
all_from P xs each i d low = each i (get_or xs i d) (slice_get-get_or xs i d low)

-- what holds of the image of each item holds of all of a mapped list
pub all_map : {X Y : Type 0} (P : Y → Type 0) (f : X → Y) (xs : List X) (ys : List Y) → ys ≡ map f xs
    → ((i : ℕ) (x : X) → slice_get xs i ≡ Some x → P (f x)) → All P ys
all_map {Y = Y} P f xs ys is each = subst (All P) (sym is) (all_from P (map f xs) at)
  where
    at : (i : ℕ) (y : Y) → slice_get (map f xs) i ≡ Some y → P y
    at i y e = let r = get_map f xs i y e in subst P r.2 (each i r.0 r.1)

-- an item of a mapped list is the image of that at its place
pub map_at : {X Y : Type 0} (f : X → Y) (xs : List X) (i : ℕ) (x : X) → slice_get xs i ≡ Some x
    → slice_get (map f xs) i ≡ Some (f x)
map_at f [] i x e = absurd (none-some x e)
map_at f (y ∷ ys) zero x e = ap (λ z. Some (f z)) (same_Some y x e)
map_at f (y ∷ ys) (suc i) x e = map_at f ys i x e

-- what stands at a place of the later list, with what stood there
pub record CameFrom {X : Type 0} (R : X → X → Type 0) (old : List X) (i : ℕ) (y : X) : Type 0 where
  pub from : X
  pub at : slice_get old i ≡ Some from
  pub on : R from y

pub by_place : {X : Type 0} (R : X → X → Type 0) (old new : List X) → length new ≡ length old
    → ((i : ℕ) (d : X) → i < length old → R (slice_index_or old i d) (slice_index_or new i d))
    → (i : ℕ) (y : X) → slice_get new i ≡ Some y → CameFrom R old i y
by_place R old new len rel i y at =
    let low : i < length old = let a = slice_get_within new i y at in omega arith in
    let x = get_some old i low in
    let r = rel i y low in
    record {
      from = x.0;
      at = x.1;
      on = subst (λ z. R x.0 z) (get_or_from_slice_get new i y y at)
          (subst (λ z. R z (slice_index_or new i y)) (get_or_from_slice_get old i x.0 y x.1) r);
    }

-- what holds of all items of a list with one at the end holds of those before it and of that one
pub all_ends : {X : Type 0} (P : X → Type 0) (xs : List X) (x : X) → All P (xs ++ x ∷ []) → All P xs × P x
all_ends P xs x all = (
  all_from P xs (λ i y at. all_at P (xs ++ x ∷ []) i y all (get_front xs i y at)),
  all_at P (xs ++ x ∷ []) (length xs) x all (get_end xs),
)
  where
    get_front : (xs : List _) (i : ℕ) (y : _) → slice_get xs i ≡ Some y → slice_get (xs ++ x ∷ []) i ≡ Some y
    get_front [] i y at = absurd (none-some y at)
    get_front (z ∷ zs) zero y at = at
    get_front (z ∷ zs) (suc i) y at = get_front zs i y at

    get_end : (xs : List _) → slice_get (xs ++ x ∷ []) (length xs) ≡ Some x
    get_end [] = refl
    get_end (z ∷ zs) = get_end zs

-- a list that is cut before its next item
module _ {X : Type 0} {left rest all : List X} {x : X} (done : List X) (next : left ≡ x ∷ rest) (whole : done ++ left ≡ all) where
  with_next : done ++ x ∷ rest ≡ all
  with_next = ap (λ (xs : List X). done ++ xs) (sym next) ∙ whole

  -- cut behind that item
  pub cut_later : (done ++ x ∷ []) ++ rest ≡ all
  cut_later = append_assoc done (x ∷ []) rest ∙ with_next

  pub at_next : slice_get all (length done) ≡ Some x
  at_next = subst (λ (l : List X). slice_get l (length done) ≡ Some x) with_next (at done)
    where
      at : (xs : List X) → slice_get (xs ++ x ∷ rest) (length xs) ≡ Some x
      at [] = refl
      at (z ∷ zs) = at zs

  -- what holds of all items holds of the next
  pub all_next : (P : X → Type 0) → All P all → P x
  all_next P each = all_at P all (length done) x each at_next

-- what stands in a list with one item more stands in the list or is that item
pub in_pushed : {X P : Type 0} (x z : X) (xs : List X) → In x (xs ++ z ∷ []) → (In x xs → P) → (x ≡ z → P) → P
in_pushed x z xs i old last = ⊎_elim old
    (λ (h : In x (z ∷ [])). ⊎_elim last (λ (none : ⊥). absurd none) h)
    (in_append x xs (z ∷ []) i)

-- a list of images with one more is the image of the list with one more
pub map_more : {X Y : Type 0} (f : X → Y) (xs : List X) (x : X) (y : Y) (ys zs : List Y) → zs ≡ ys ++ y ∷ [] → ys ≡ map f xs
    → y ≡ f x → zs ≡ map f (xs ++ x ∷ [])
map_more {Y = Y} f xs x y ys zs push was is =
    push ∙ ap (λ (l : List Y). l ++ y ∷ []) was ∙ ap (λ (z : Y). map f xs ++ z ∷ []) is ∙ sym (map-append f xs (x ∷ []))
