-- Lists put together from pieces of one length: how long they are (`length_pieces`), what is dropped and taken of whole pieces
-- (`drop_pieces`, `take_pieces`, `first_piece`), and one piece more (`piece_push`).
use Rattle.std.proofs.Common.{◌≡◌, ℕ, zero, suc, ◌+◌, ◌*◌, ◌<◌, arith, sym, ap, ◌∙◌, List, [], ◌∷◌, ◌++◌, length, take, drop, get_or, All, append-nil, length-append}
use Rattle.std.specs.Prelude.{flat_map}
use Rattle.std.proofs.Math.Seq.{drop-cons, drop-nil, take-nil, drop-append-add, take-append-add, take-append_seam}
use Rattle.std.proofs.lemmas.Grind.{flat_map-append}
use Rattle.std.proofs.lemmas.List.{take_more}
use Rattle.std.proofs.lemmas.List.Elements.{All-head, All-tail}

-- what is left from a place on begins with what stands there
pub drop_at : {X : Type 0} (xs : List X) (i : ℕ) (x : X) → i < length xs → x ≡ get_or xs i x
    → drop i xs ≡ x ∷ drop (i + 1) xs
drop_at xs i x inside item =
    let next : suc i ≡ i + 1 = omega arith in
    drop-cons xs i x inside
    ∙ ap (λ j. get_or xs i x ∷ drop j xs) next
    ∙ ap (λ y. y ∷ drop (i + 1) xs) (sym item)

-- one piece more stands behind those before it
pub piece_push : {X Y : Type 0} (f : X → List Y) (xs : List X) (i : ℕ) (x : X) (front own : List Y) → i < length xs
    → x ≡ get_or xs i x → front ≡ flat_map f (take i xs) → own ≡ f x → front ++ own ≡ flat_map f (take (i + 1) xs)
piece_push f xs i x front own inside item are is =
    ap (λ ys. ys ++ own) are
    ∙ ap (λ ys. flat_map f (take i xs) ++ ys) (is ∙ sym (append-nil (f x)))
    ∙ sym (flat_map-append f (take i xs) (x ∷ []))
    ∙ ap (λ y. flat_map f (take i xs ++ y ∷ [])) item
    ∙ ap (flat_map f) (sym (take_more xs i x inside))

module _ {X Y : Type 0} (f : X → List Y) (n : ℕ) (P : X → Type 0) (each : (x : X) → P x → length (f x) ≡ n) where
  -- the whole is as long as its pieces
  pub length_pieces : (xs : List X) → All P xs → length (flat_map f xs) ≡ length xs * n
  length_pieces [] all = omega arith
  length_pieces (x ∷ xs) all =
      omega (arith, length-append (f x) (flat_map f xs), each x (All-head P x xs all), length_pieces xs (All-tail P x xs all))

  -- one piece more is so much longer
  one_more : (k : ℕ) (x : X) (xs : List X) → All P (x ∷ xs) → suc k * n ≡ length (f x) + k * n
  one_more k x xs all = omega (arith, each x (All-head P x xs all))

  -- no pieces are of no length
  no_piece : zero * n ≡ 0
  no_piece = omega arith

  -- what is left behind some pieces are the other pieces
  pub drop_pieces : (k : ℕ) (xs : List X) → All P xs → drop (k * n) (flat_map f xs) ≡ flat_map f (drop k xs)
  drop_pieces zero xs all = ap (λ m. drop m (flat_map f xs)) no_piece
  drop_pieces (suc k) [] all = drop-nil (suc k * n)
  drop_pieces (suc k) (x ∷ xs) all =
      ap (λ m. drop m (f x ++ flat_map f xs)) (one_more k x xs all)
      ∙ drop-append-add (f x) (flat_map f xs) (k * n) ∙ drop_pieces k xs (All-tail P x xs all)

  -- and some pieces from the front
  pub take_pieces : (k : ℕ) (xs : List X) → All P xs → take (k * n) (flat_map f xs) ≡ flat_map f (take k xs)
  take_pieces zero xs all = ap (λ m. take m (flat_map f xs)) no_piece
  take_pieces (suc k) [] all = take-nil (suc k * n)
  take_pieces (suc k) (x ∷ xs) all =
      ap (λ m. take m (f x ++ flat_map f xs)) (one_more k x xs all)
      ∙ take-append-add (f x) (flat_map f xs) (k * n)
      ∙ ap (λ ys. f x ++ ys) (take_pieces k xs (All-tail P x xs all))

  -- the first piece
  pub first_piece : (x : X) (xs : List X) → P x → take n (flat_map f (x ∷ xs)) ≡ f x
  first_piece x xs is =
      ap (λ m. take m (f x ++ flat_map f xs)) (sym (each x is)) ∙ take-append_seam (f x) (flat_map f xs)
