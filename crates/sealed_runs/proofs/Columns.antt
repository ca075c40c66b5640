-- A step of a loop that changes the visits of each pass in turn.
use Rattle.std.proofs.Common.{◌≡◌, ℕ, zero, suc, ◌+◌, ◌<◌, ◌≤◌, List, [], ◌∷◌, ◌++◌, length, get_or, take, drop, map, replicate, set, refl, sym, ap, ◌∙◌, add-zero, drop_of_length-le, arith}
use Rattle.std.proofs.lemmas.List.{append-nil, take_more, take_more_set, take_all, drop-set-lt, get_or-drop, map-append}
use Rattle.std.proofs.Math.Numerals.{add-one}
use Rattle.sealed_runs.specs.Visits.{Visit, visit_at, column}

-- a map of copies is copies of what they are mapped to
pub map_replicate : {X Y : Type 0} (f : X → Y) (n : ℕ) (x : X)
    → map f (replicate n x) ≡ replicate n (f x)
map_replicate f zero x = refl
map_replicate f (suc n) x = ap (λ ys. f x ∷ ys) (map_replicate f n x)

-- what is read in front of the rest is read at its place
read_drop : (xs : List (List Visit)) (i : ℕ) → get_or (drop i xs) 0 [] ≡ get_or xs i []
read_drop xs i = get_or-drop i xs 0 [] ∙ ap (λ k. get_or xs k []) (add-zero i)

-- the rest behind one more is the rest of the rest
drop_suc : (i : ℕ) (xs : List (List Visit)) → drop (suc i) xs ≡ drop 1 (drop i xs)
drop_suc zero xs = refl
drop_suc (suc i) [] = refl
drop_suc (suc i) (x ∷ xs) = drop_suc i xs

-- two lists that are the same behind i are the same behind i + 1
drop_more : (i : ℕ) (xs ys : List (List Visit)) → drop i xs ≡ drop i ys
    → drop (i + 1) xs ≡ drop (i + 1) ys
drop_more i xs ys same =
    ap (λ n. drop n xs) (add-one i)
    ∙ drop_suc i xs
    ∙ ap (drop 1) same
    ∙ sym (drop_suc i ys)
    ∙ sym (ap (λ n. drop n ys) (add-one i))

module _ (f : List Visit → List Visit) (all now : List (List Visit)) (i : ℕ) where
  -- the visits of the next pass are those that it came with
  pub next_pass : drop i now ≡ drop i all → get_or now i [] ≡ get_or all i []
  next_pass left = sym (read_drop now i) ∙ ap (λ xs. get_or xs 0 []) left ∙ read_drop all i

  -- one pass more is changed by f
  pub changed_more : (new : List Visit) → i < length now → i < length all
      → take i now ≡ map f (take i all) → new ≡ f (get_or all i [])
      → take (i + 1) (set now i new) ≡ map f (take (i + 1) all)
  changed_more new in_now in_all changed is =
      take_more_set now i new in_now
      ∙ ap (λ xs. xs ++ new ∷ []) changed
      ∙ ap (λ r. map f (take i all) ++ r ∷ []) is
      ∙ sym (map-append f (take i all) (get_or all i [] ∷ []))
      ∙ ap (map f) (sym (take_more all i [] in_all))

  -- the passes behind it are as they came
  pub left_more : (new : List Visit) → drop i now ≡ drop i all
      → drop (i + 1) (set now i new) ≡ drop (i + 1) all
  left_more new left = drop-set-lt (i + 1) now i new (omega arith) ∙ drop_more i now all left

  -- at the end all passes are changed by f
  pub all_changed : (len : ℕ) → length now ≡ length all → length now ≤ i → len ≡ length all
      → take i now ≡ map f (take i all) → take len (now ++ drop (length now) all) ≡ map f all
  all_changed len same far len_is changed =
      ap (λ r. take len (now ++ r)) (drop_of_length-le all (omega arith))
      ∙ ap (take len) (append-nil now)
      ∙ take_all len now (omega arith)
      ∙ sym (take_all i now far)
      ∙ changed
      ∙ ap (map f) (take_all i all (omega arith))

-- a pass's visit joins the column
pub column_more : (all : List (List Visit)) (m i : ℕ) → i < length all
    → column (take i all) m ++ visit_at (get_or all i []) m ∷ [] ≡ column (take (i + 1) all) m
column_more all m i in_all =
    sym (map-append (λ vs. visit_at vs m) (take i all) (get_or all i [] ∷ []))
    ∙ ap (map (λ vs. visit_at vs m)) (sym (take_more all i [] in_all))
