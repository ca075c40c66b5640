-- Passes and readers as they are dealt: the last pass becomes the first reader of those that are made.
use Rattle.std.proofs.Common.{◌≡◌, ℕ, zero, suc, ◌+◌, ◌<◌, ◌≤◌, List, [], ◌∷◌, ◌++◌, length, map, get_or, inl, inr, refl, sym, subst, length-append, arith}
use Rattle.std.proofs.lemmas.List.{get_or_push, get_or_append_left}
use Rattle.list_totals.specs.Standing.{In}
use Rattle.turn_lock.specs.Passes.{AreNewPasses, IsNewPass}
use Rattle.live_collection.specs.declared.live.LiveCollection.{LiveCollection}
use Rattle.live_collection.specs.declared.live.Reader.{Reader}
use Rattle.live_collection.specs.Sides.{AreAllReaders, AreNewReaders, IsNewReader}
use Rattle.live_collection.specs.Steps.{LivePass}

-- without the last pass the others are new in order, and the last has the last number
pub new_front : (k : LiveCollection) (ps : List LivePass) (p : LivePass) → AreNewPasses k.lock (ps ++ p ∷ []) → AreNewPasses k.lock ps
new_front k ps p new i d h =
    let l = length-append ps (p ∷ []) in
    subst (IsNewPass k.lock i) (get_or_append_left ps (p ∷ []) d i h) (new i d (omega arith))

pub new_last : (k : LiveCollection) (ps : List LivePass) (p : LivePass) → AreNewPasses k.lock (ps ++ p ∷ []) → IsNewPass k.lock (length ps) p
new_last k ps p new =
    let l = length-append ps (p ∷ []) in
    subst (IsNewPass k.lock (length ps)) (get_or_push ps p p (length ps) refl) (new (length ps) p (omega arith))

-- a reader put before those that are numbered from the next number on
pub readers_more : (k : LiveCollection) (n : ℕ) (r : Reader) (rs : List Reader) → IsNewReader k n r
    → ((i : ℕ) (d : Reader) → i < length rs → IsNewReader k (n + 1 + i) (get_or rs i d))
    → (i : ℕ) (d : Reader) → i < length (r ∷ rs) → IsNewReader k (n + i) (get_or (r ∷ rs) i d)
readers_more k n r rs new more zero d h = let e : n ≡ n + 0 = omega arith in subst (λ m. IsNewReader k m r) e new
readers_more k n r rs new more (suc i) d h =
    let e : n + 1 + i ≡ n + suc i = omega arith in
    subst (λ m. IsNewReader k m (get_or rs i d)) e (more i d (omega arith))

-- readers that are numbered in a row have each of these numbers
in_numbers : (rs : List Reader) (m : ℕ) → ((i : ℕ) (d : Reader) → i < length rs → (get_or rs i d).pass.number ≡ m + i)
    → (i : ℕ) → i < length rs → In (m + i) (map (λ (r : Reader). r.pass.number) rs)
in_numbers [] m row i h = absurd (omega arith)
in_numbers (r ∷ rs) m row zero h = inl (sym (row zero r h))
in_numbers (r ∷ rs) m row (suc i) h =
    let e : (m + 1) + i ≡ m + suc i = omega arith in
    inr (subst (λ n. In n (map (λ (x : Reader). x.pass.number) rs)) e
    (in_numbers rs (m + 1) (λ j d l. let f = row (suc j) d (omega arith) in omega arith) i (omega arith)))

-- new readers, as many as the collection has, are all of them
pub new_all : (k : LiveCollection) (rs : List Reader) → AreNewReaders k rs → length rs ≡ k.readers → AreAllReaders k rs
new_all k rs new count = record {
  each = λ i d h. (new i d h).reader;
  count = count;
  numbers = in_row;
}
  where
    in_row : (n : ℕ) → 0 < n → n ≤ k.readers → In n (map (λ (r : Reader). r.pass.number) rs)
    in_row zero some limit = absurd (omega arith)
    in_row (suc n) some limit =
        let e : 1 + n ≡ suc n = omega arith in
        subst (λ m. In m (map (λ (r : Reader). r.pass.number) rs)) e
        (in_numbers rs 1 (λ i d h. let f = (new i d h).number in omega arith) n (omega arith))
