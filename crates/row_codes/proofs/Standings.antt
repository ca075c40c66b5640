-- How a query stands behind some blocks of a row: before the first (`stands_first`), behind one more (`stands_more`, `stands_next`), and in the end, or
-- where it is too far already (`stands_last`, `stands_far`).
use Rattle.std.proofs.Common.{◌≡◌, ℕ, suc, ◌+◌, ◌-◌, ◌*◌, ◌<◌, ◌≤◌, arith, sym, ap, ◌∙◌, refl, subst, Bool, true, false, not, leb, ℤ, List, ◌∷◌, length, drop, get_or, slice_index}
use Rattle.std.specs.Prelude.{◌&&◌}
use Rattle.std.proofs.lemmas.Bool.{leb-true, leb-false, le-leb, lt-leb}
use Rattle.std.proofs.lemmas.Grind.{get_or_default_zero}
use Rattle.std.proofs.lemmas.List.{drop_all}
use Rattle.std.proofs.Math.Seq.{drop-cons}
use Rattle.row_codes.specs.Rows.{Block}
use Rattle.row_codes.specs.Bound.{AreCodesFor, HaveSquares, block_distance, bound_at, bound_from, code_bound}
use Rattle.row_codes.proofs.Views.{squares_left, within_more}

-- how far a query lies from the codes of the first k blocks, and whether it may be near: then what is left decides
pub record Stands (query : List ℤ) (codes : List Block) (limit k squared : ℕ) (within : Bool) : Type 0 where
  pub small : squared ≤ 8000000000000 * k
  pub left : leb (code_bound query codes) limit ≡ (within && leb (bound_from squared (drop (256 * k) query) (drop k codes)) limit)
  pub squares : HaveSquares (length query - 256 * k) (drop k codes)

-- before the first
pub stands_first : {query : List ℤ} {codes : List Block} {limit : ℕ} → AreCodesFor (length query) codes
    → Stands query codes limit 0 0 true
stands_first {query} {codes} fit = record {
  small = omega arith;
  left = refl;
  squares = subst (λ n. HaveSquares n codes) (from_none (length query)) fit.squares;
}
  where
    from_none : (n : ℕ) → n ≡ n - 256 * 0
    from_none n = omega arith

-- a block that is too far decides
far_more : (query : List ℤ) (codes : List Block) (limit before k : ℕ) (b : Block) → k < length codes → b ≡ get_or codes k b
    → limit < bound_at (before + block_distance (drop (256 * k) query) b) b.rest
    → leb (bound_from before (drop (256 * k) query) (drop k codes)) limit ≡ false
far_more query codes limit before k b inside is_b far =
    let q = drop (256 * k) query in
    let left : drop k codes ≡ b ∷ drop (suc k) codes
    = drop-cons codes k b inside ∙ ap (λ x. x ∷ drop (suc k) codes) (sym is_b) in
    ap (λ l. leb (bound_from before q l) limit) left
    ∙ lt-leb (bound_from before q (b ∷ drop (suc k) codes)) limit (omega (arith, far))

-- behind one block more
pub stands_more : (query : List ℤ) (codes : List Block) (limit k squared after : ℕ) (within next : Bool) (b : Block)
    → k < length codes → b ≡ get_or codes k b → Stands query codes limit k squared within
    → after ≡ squared + block_distance (drop (256 * k) query) b → after ≤ 8000000000000 * (k + 1)
    → next ≡ (within && leb (bound_at after b.rest) limit) → Stands query codes limit (k + 1) after next
stands_more query codes limit k squared after within next b inside is_b stands is_after small is_next = record {
  small = small;
  left = stands.left ∙ by_test within (leb (bound_at after b.rest) limit) refl
      ∙ ap (λ t. t && leb (bound_from after (drop (256 * (k + 1)) query) (drop (k + 1) codes)) limit) (sym is_next);
  squares = squares_left (length query) k codes b inside stands.squares;
}
  where
    by_test : (w t : Bool) → leb (bound_at after b.rest) limit ≡ t
        → (w && leb (bound_from squared (drop (256 * k) query) (drop k codes)) limit)
        ≡ ((w && t) && leb (bound_from after (drop (256 * (k + 1)) query) (drop (k + 1) codes)) limit)
    by_test false t is = refl
    by_test true true is =
        within_more query codes limit squared k (block_distance (drop (256 * k) query) b) b inside is_b refl
        (subst (λ n. bound_at n b.rest ≤ limit) is_after (leb-true (bound_at after b.rest) limit is))
        ∙ ap (λ n. leb (bound_from n (drop (256 * (k + 1)) query) (drop (k + 1) codes)) limit) (sym is_after)
    by_test true false is =
        far_more query codes limit squared k b inside is_b
        (subst (λ n. limit < bound_at n b.rest) is_after (leb-false (bound_at after b.rest) limit is))

-- and so where the limit is one of a list
pub stands_next : {query : List ℤ} {codes : List Block} {k squared after : ℕ} {within next : Bool} {b : Block} (limits : List ℕ) (at d : ℕ)
    → at < length limits → k < length codes → b ≡ get_or codes k b → Stands query codes (slice_index limits at) k squared within
    → after ≡ squared + block_distance (drop (256 * k) query) b → after ≤ 8000000000000 * (k + 1)
    → next ≡ (within && leb (bound_at after b.rest) (get_or limits at d)) → Stands query codes (slice_index limits at) (k + 1) after next
stands_next {query} {codes} {k} {squared} {after} {within} {next} {b} limits at d there inside is_b stands is_after small is_next =
    stands_more query codes (slice_index limits at) k squared after within next b inside is_b stands is_after small
    (is_next ∙ ap (λ l. within && leb (bound_at after b.rest) l) (get_or_default_zero limits at d there))

-- in the end
pub stands_last : {query : List ℤ} {codes : List Block} {limit k squared : ℕ} {within : Bool} → length codes ≤ k
    → Stands query codes limit k squared within → within ≡ leb (code_bound query codes) limit
stands_last {query} {codes} {limit} {k} {squared} {within} all stands =
    sym (stands.left ∙ ap (λ l. within && leb (bound_from squared (drop (256 * k) query) l) limit) (drop_all k codes all) ∙ none within)
  where
    none : (w : Bool) → (w && leb 0 limit) ≡ w
    none true = le-leb 0 limit (omega arith)
    none false = refl

-- or where it is too far
pub stands_far : {query : List ℤ} {codes : List Block} {limit k squared : ℕ} {within : Bool} → not within ≡ true
    → Stands query codes limit k squared within → within ≡ leb (code_bound query codes) limit
stands_far {within = true} is stands = cc
stands_far {within = false} is stands = sym stands.left
