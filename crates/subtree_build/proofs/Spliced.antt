-- One buffer after another gives up a root's list (`list_grows`, `one_emptied`), and one root after another is kept
-- where it has members (`roots_grow`, `lists_grow`, `others_stand`).
use Rattle.std.proofs.Common.{◌≡◌, ℕ, zero, suc, ◌+◌, ◌<◌, Bool, true, false, cond, List, [], ◌∷◌, ◌++◌, length, get_or, set, take, drop, map, refl, sym, ap, ◌∙◌, arith, All, append-nil}
use Rattle.std.specs.Prelude.{filter, slice_index_or}
use Rattle.std.specs.List.{range_with_len}
use Rattle.std.proofs.lemmas.List.{map-append, map-id, take_more}
use Rattle.std.proofs.lemmas.List.FromFn.{map-range_with_len_more}
use Rattle.std.proofs.lemmas.List.Concat.{flat_map-append}
use Rattle.std.proofs.lemmas.List.Elements.{filter-append, All-map}
use Rattle.std.proofs.Math.ListN.{length-set}
use Rattle.isax_word.specs.declared.member.Member.{Member}
use Rattle.summary_phase.specs.Roots.{root_of_all}
use Rattle.subtree_build.specs.Splicing.{emptied, kept_if}

-- a worker's lists, by root number
abbrev pub Lists : Type 0
Lists = List (List Member)

-- the buffer that is next stands as it was
next_stands : (root i : ℕ) (all : List Lists) (d : Lists) → i < length all
    → get_or (map (emptied root) (take i all) ++ drop i all) i d ≡ get_or all i d
next_stands root i [] d inside = absurd (omega arith)
next_stands root zero (b ∷ all) d inside = refl
next_stands root (suc i) (b ∷ all) d inside = next_stands root i all d (omega arith)

-- the next buffer is emptied
next_emptied : (root i : ℕ) (all : List Lists) (d : Lists) → i < length all
    → set (map (emptied root) (take i all) ++ drop i all) i (emptied root (get_or all i d))
    ≡ map (emptied root) (take (suc i) all) ++ drop (suc i) all
next_emptied root i [] d inside = absurd (omega arith)
next_emptied root zero (b ∷ all) d inside = refl
next_emptied root (suc i) (b ∷ all) d inside =
    ap (λ (bs : List Lists). emptied root b ∷ bs) (next_emptied root i all d (omega arith))

-- the list so far and the next buffer's are the list of one buffer more
pub list_grows : (root i : ℕ) (all now : List Lists) (d : Lists) (list : List Member) → i < length all
    → now ≡ map (emptied root) (take i all) ++ drop i all → list ≡ root_of_all (take i all) root
    → list ++ slice_index_or (get_or now i d) root [] ≡ root_of_all (take (i + 1) all) root
list_grows root i all now d list inside is_now is_list =
    let b = get_or all i d in
    let here : get_or now i d ≡ b
    = ap (λ (bs : List Lists). get_or bs i d) is_now ∙ next_stands root i all d inside in
    let one : root_of_all (b ∷ []) root ≡ slice_index_or b root [] = append-nil (slice_index_or b root []) in
    ap (λ (ms : List Member). ms ++ slice_index_or (get_or now i d) root []) is_list
    ∙ ap (λ (x : Lists). root_of_all (take i all) root ++ slice_index_or x root []) here
    ∙ ap (λ (ms : List Member). root_of_all (take i all) root ++ ms) (sym one)
    ∙ sym (flat_map-append (λ (x : Lists). slice_index_or x root []) (take i all) (b ∷ []))
    ∙ ap (λ (bs : List Lists). root_of_all bs root) (sym (take_more all i d inside))

-- the buffers so far and the next one are emptied
pub one_emptied : (root i : ℕ) (all now : List Lists) (d : Lists) → i < length all
    → now ≡ map (emptied root) (take i all) ++ drop i all
    → set now i (emptied root (get_or now i d))
    ≡ map (emptied root) (take (i + 1) all) ++ drop (i + 1) all
one_emptied root i all now d inside is_now =
    let next : suc i ≡ i + 1 = omega arith in
    ap (λ (bs : List Lists). set bs i (emptied root (get_or bs i d))) is_now
    ∙ ap (λ (x : Lists). set (map (emptied root) (take i all) ++ drop i all) i (emptied root x))
    (next_stands root i all d inside)
    ∙ next_emptied root i all d inside
    ∙ ap (λ k. map (emptied root) (take k all) ++ drop k all) next

-- the numbers below one more
range_more : (n : ℕ) → range_with_len 0 (n + 1) ≡ range_with_len 0 n ++ n ∷ []
range_more n =
    sym (map-id (range_with_len 0 (n + 1)))
    ∙ map-range_with_len_more (λ k. k) 0 n n (omega arith)
    ∙ ap (λ xs. xs ++ n ∷ []) (map-id (range_with_len 0 n))

-- a number is kept where it passes
kept_is : (p : ℕ → Bool) (xs : List ℕ) (x : ℕ) (b : Bool) → p x ≡ b
    → kept_if b xs x ≡ xs ++ filter p (x ∷ [])
kept_is p xs x true h = ap (λ c. xs ++ cond c (x ∷ []) []) (sym h)
kept_is p xs x false h = sym (append-nil xs) ∙ ap (λ c. xs ++ cond c (x ∷ []) []) (sym h)

-- the root numbers below one more that have members
pub roots_grow : (p : ℕ → Bool) (root : ℕ) (found : List ℕ) (b : Bool) → p root ≡ b
    → found ≡ filter p (range_with_len 0 root)
    → kept_if b found root ≡ filter p (range_with_len 0 (root + 1))
roots_grow p root found b h is =
    kept_is p found root b h
    ∙ ap (λ xs. xs ++ filter p (root ∷ [])) is
    ∙ sym (filter-append p (range_with_len 0 root) (root ∷ []))
    ∙ ap (filter p) (sym (range_more root))

-- and their lists
pub lists_grow : (f : ℕ → List Member) (root : ℕ) (list : List Member) (found : List ℕ)
    (lists : List (List Member)) (b : Bool) → list ≡ f root → lists ≡ map f found
    → kept_if b lists list ≡ map f (kept_if b found root)
lists_grow f root list found lists true is are =
    ap (λ (ls : List (List Member)). ls ++ list ∷ []) are
    ∙ ap (λ (l : List Member). map f found ++ l ∷ []) is
    ∙ sym (map-append f found (root ∷ []))
lists_grow f root list found lists false is are = are

-- the lists of other roots stand where one root's are emptied
pub others_stand : (root r : ℕ) (buffers : List Lists) → (root ≡ r → ⊥)
    → root_of_all (map (emptied root) buffers) r ≡ root_of_all buffers r
others_stand root r [] other = refl
others_stand root r (b ∷ buffers) other =
    ap (λ (ms : List Member). ms ++ root_of_all (map (emptied root) buffers) r)
    (set_other b root r [] other)
    ∙ ap (λ (ms : List Member). slice_index_or b r [] ++ ms) (others_stand root r buffers other)
  where
    set_other : (xs : Lists) (i j : ℕ) (v : List Member) → (i ≡ j → ⊥)
        → get_or (set xs i v) j [] ≡ get_or xs j []
    set_other [] i j v apart = refl
    set_other (x ∷ xs) zero zero v apart = absurd (apart refl)
    set_other (x ∷ xs) zero (suc j) v apart = refl
    set_other (x ∷ xs) (suc i) zero v apart = refl
    set_other (x ∷ xs) (suc i) (suc j) v apart = set_other xs i j v (λ e. apart (ap suc e))

-- emptied buffers have as many lists
pub emptied_whole : (root n : ℕ) (buffers : List Lists) → All (λ b. length b ≡ n) buffers
    → All (λ b. length b ≡ n) (map (emptied root) buffers)
emptied_whole root n buffers whole =
    All-map (λ (b : Lists). length b ≡ n) (emptied root) buffers
    (λ k d inside. length-set (get_or buffers k d) root [] ∙ whole k d inside)
