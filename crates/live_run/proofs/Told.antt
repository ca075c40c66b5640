-- A reader that has seen the batches before a group, and sees no more than those and the group's, is answered over the first
-- series before the append or behind it.
use Rattle.std.proofs.Common.{◌≡◌, ℕ, ◌+◌, ◌≤◌, ◌⊎◌, inl, inr, ⊎_elim, List, [], ◌∷◌, ◌++◌, length, take, drop, get_or, refl, sym, ap, ◌∙◌, subst, append_assoc, append-nil, length-append, arith}
use Rattle.std.proofs.lemmas.List.{take_all, take-append-le}
use Rattle.std.proofs.lemmas.List.Concat.{flat_map-append}
use mathlib.Core.List.{IsPrefix}
use Rattle.series_core.specs.Answer.{answer}
use Rattle.live_collection.specs.declared.batch.Batch.{Batch}
use Rattle.live_collection.specs.Histories.{series_of}
use Rattle.live_run.specs.Replies.{IsAskedText, batches_text}
use Rattle.live_run.specs.Texts.{IsQueriesText, Query, Scene, first_text, query_text}

module _ {X : Type 0} where
  -- what begins a beginning begins the whole
  pub prefix_then : (xs ys zs : List X) → IsPrefix xs ys → IsPrefix ys zs → IsPrefix xs zs
  prefix_then xs ys zs (r, e) (s, f) = (r ++ s, sym (append_assoc xs r s) ∙ ap (λ l. l ++ s) e ∙ f)

  pub prefix_same : (xs : List X) → IsPrefix xs xs
  prefix_same xs = ([], append-nil xs)

  -- between a list and the same with one item more there is nothing
  between : (xs r s : List X) (b : X) → (xs ++ r) ++ s ≡ xs ++ b ∷ []
      → ((xs ++ r) ≡ xs) ⊎ ((xs ++ r) ≡ xs ++ b ∷ [])
  between [] [] s b e = inl refl
  between [] (x ∷ []) s b e = let same : x ≡ b = ap (λ l. get_or l 0 x) e in inr (ap (λ y. y ∷ []) same)
  between [] (x ∷ y ∷ r) s b e = let l = ap length e in absurd (omega arith)
  between (x ∷ xs) r s b e =
      ⊎_elim
      (λ (t : (xs ++ r) ≡ xs). inl (ap (λ l. x ∷ l) t))
      (λ (t : (xs ++ r) ≡ xs ++ b ∷ []). inr (ap (λ l. x ∷ l) t))
      (between xs r s b (ap (drop 1) e))

  pub one_more : (xs ys : List X) (b : X) → IsPrefix xs ys → IsPrefix ys (xs ++ b ∷ []) → (ys ≡ xs) ⊎ (ys ≡ xs ++ b ∷ [])
  one_more xs ys b (r, e) (s, f) =
      subst (λ l. (l ≡ xs) ⊎ (l ≡ xs ++ b ∷ [])) e (between xs r s b (ap (λ l. l ++ s) e ∙ f))

-- what was seen grows
pub asked_seen : (n i : ℕ) (seen : List Batch) (qs : List Query) (text : List ℕ) (later : List Batch)
    → IsAskedText n i seen qs text later → IsPrefix seen later
asked_seen n i seen [] text later is = subst (IsPrefix seen) is.1 (prefix_same seen)
asked_seen n i seen (q ∷ qs) text later (next, rest, pre, is, whole) =
    prefix_then seen next later pre (asked_seen n (i + 1) next qs rest later is)

-- of a list and a longer one, the first has no more series
pub fewer : (xs ys : List Batch) → IsPrefix xs ys → length (series_of xs) ≤ length (series_of ys)
fewer xs ys (r, e) =
    let both : series_of ys ≡ series_of xs ++ series_of r
    = ap series_of (sym e) ∙ flat_map-append (λ (b : Batch). b.series.series) xs r in
    let l : length (series_of ys) ≡ length (series_of xs) + length (series_of r)
    = ap length both ∙ length-append (series_of xs) (series_of r) in
    omega arith

-- the series of one batch more
pub series_more : (bs : List Batch) (b : Batch) → series_of (bs ++ b ∷ []) ≡ series_of bs ++ b.series.series
series_more bs b =
    flat_map-append (λ (x : Batch). x.series.series) bs (b ∷ [])
    ∙ ap (λ l. series_of bs ++ l) (append-nil b.series.series)

-- the scene of one batch more
abbrev pub scene_more : ℕ → List Batch → Batch → Scene
scene_more n bs b = record {
  points = n;
  series = series_of bs ++ b.series.series;
  before = length (series_of bs);
  after = length (series_of bs) + length b.series.series;
}

-- the batches that stand before the append or behind it have the first series, as many as stood before it or stand behind it
first_series : (n : ℕ) (bs next : List Batch) (b : Batch) → (next ≡ bs) ⊎ (next ≡ bs ++ b ∷ [])
    → ((length (series_of next) ≡ (scene_more n bs b).before) ⊎ (length (series_of next) ≡ (scene_more n bs b).after))
    × (series_of next ≡ take (length (series_of next)) (scene_more n bs b).series)
first_series n bs next b (inl e) =
    let l : length (series_of next) ≡ length (series_of bs) = ap (λ x. length (series_of x)) e in (
      inl l,
      ap series_of e
          ∙ sym (ap (λ m. take m (series_of bs ++ b.series.series)) l
          ∙ take-append-le (length (series_of bs)) (series_of bs) b.series.series (omega arith)
          ∙ take_all (length (series_of bs)) (series_of bs) (omega arith)),
    )
first_series n bs next b (inr e) =
    let whole : series_of next ≡ series_of bs ++ b.series.series = ap series_of e ∙ series_more bs b in
    let l : length (series_of next) ≡ length (series_of bs) + length b.series.series
    = ap length whole ∙ length-append (series_of bs) b.series.series in (
      inr l,
      sym (ap (take (length (series_of next))) (sym whole) ∙ take_all (length (series_of next)) (series_of next) (omega arith)),
    )

-- the text of such queries is that of a group
pub asked_told : (n i least : ℕ) (bs : List Batch) (b : Batch) (seen : List Batch) (qs : List Query) (text : List ℕ)
    (later : List Batch) → IsPrefix bs seen → IsPrefix later (bs ++ b ∷ []) → least ≤ length (series_of seen)
    → IsAskedText n i seen qs text later → (last : ℕ) × IsQueriesText (scene_more n bs b) i least qs text last
asked_told n i least bs b seen [] text later low high le is = (least, (is.0, refl))
asked_told n i least bs b seen (q ∷ qs) text later low high le (next, rest, pre, is, whole) =
    let low' = prefix_then bs seen next low pre in
    let high' = prefix_then next later (bs ++ b ∷ []) (asked_seen n (i + 1) next qs rest later is) high in
    let m = length (series_of next) in
    let first = first_series n bs next b (one_more bs next b low' high') in
    let more = asked_told n (i + 1) m bs b next qs rest later low' high (omega arith) is in
    let grows = fewer seen next pre in
    let same : batches_text n i next q ≡ first_text (scene_more n bs b) i m q
    = ap (λ s. query_text i m (answer (record { points = n; series = s }) q.values q.k)) first.1 in (
      more.0,
      (m, rest, first.0, omega (arith, grows, le), more.1, whole ∙ ap (λ t. t ++ rest) same),
    )
