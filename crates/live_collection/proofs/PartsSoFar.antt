-- The parts that a search has passed, the next one, and the rest.
use Rattle.std.proofs.Common.{◌≡◌, ℕ, ◌+◌, ◌≤◌, List, [], ◌∷◌, ◌++◌, All, length, map, sym, ap, ◌∙◌, append_assoc, append-nil, length-append, arith}
use Rattle.std.specs.Prelude.{ℤ}
use Rattle.std.proofs.lemmas.List.{map-append}
use Rattle.std.proofs.lemmas.List.Concat.{flat_map-append}
use Rattle.std.proofs.lemmas.List.Elements.{All-head, All-tail}
use denote.Ref.{Bor}
use Rattle.live_collection.specs.declared.batch.Batch.{Batch}
use Rattle.live_collection.specs.Histories.{series_of}

-- the batches that were passed
abbrev pub passed : List (Bor Batch) → List Batch
passed bs = map (λ (b : Bor Batch). b.now) bs

-- one batch more has its series behind
pub series_of-push : (bs : List Batch) (b : Batch) → series_of (bs ++ b ∷ []) ≡ series_of bs ++ b.series.series
series_of-push bs b =
    flat_map-append (λ (x : Batch). x.series.series) bs (b ∷ [])
    ∙ ap (λ (r : List (List ℤ)). series_of bs ++ r) (append-nil b.series.series)

-- what holds of each holds of one in the middle
pub All-middle : (P : Batch → Type 0) (xs ys : List Batch) (b : Batch) → All P (xs ++ b ∷ ys) → P b
All-middle P [] ys b h = All-head P b ys h
All-middle P (x ∷ xs) ys b h = All-middle P xs ys b (All-tail P x (xs ++ b ∷ ys) h)

-- the series passed and those of the next batch are no more than all
pub within_all : (most : ℕ) (xs ys : List Batch) (b : Batch) → length (series_of (xs ++ b ∷ ys)) ≤ most
    → length (series_of xs) + length b.series.series ≤ most
within_all most xs ys b h =
    let whole : series_of (xs ++ b ∷ ys) ≡ series_of xs ++ (b.series.series ++ series_of ys)
    = flat_map-append (λ (x : Batch). x.series.series) xs (b ∷ ys) in
    let l = ap length whole ∙ length-append (series_of xs) (b.series.series ++ series_of ys) in
    let m = length-append b.series.series (series_of ys) in
    omega (arith, l, m, h)

-- one batch more was passed
pub passed_more : (bs : List (Bor Batch)) (b : Bor Batch) (parts rest rest' : List Batch) → passed bs ++ rest ≡ parts
    → rest ≡ b.now ∷ rest' → passed (bs ++ b ∷ []) ++ rest' ≡ parts
passed_more bs b parts rest rest' whole next =
    ap (λ (l : List Batch). l ++ rest') (map-append (λ (x : Bor Batch). x.now) bs (b ∷ []))
    ∙ append_assoc (passed bs) (b.now ∷ []) rest'
    ∙ ap (λ (l : List Batch). passed bs ++ l) (sym next)
    ∙ whole
