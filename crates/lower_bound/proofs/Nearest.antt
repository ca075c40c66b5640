-- The bound of a word, place by place of 16: the symbol that is found in a segment is the nearest one (`nearest_found`), its cost is
-- that of the part, and behind the word nothing costs, so a place more adds what its part costs (`bound_next`).
use Rattle.std.proofs.Common.{◌≡◌, ℕ, ◌+◌, ◌<◌, ◌≤◌, arith, sym, ap, ◌∙◌, ⊎_elim, List, [], length, get_or, drop}
use Rattle.std.specs.Prelude.{min, max}
use Rattle.std.specs.List.{All}
use Rattle.std.proofs.lemmas.Bool.{cases_lt}
use Rattle.std.proofs.lemmas.List.{drop_all, get_or_append_left, get_or-replicate}
use Rattle.std.proofs.lemmas.List.Elements.{All-get_or}
use Rattle.isax_word.specs.declared.word.Part.{Part}
use Rattle.isax_word.specs.Padded.{padded}
use Rattle.isax_word.specs.Word.{IsPart, no_part, part_at, first_symbol, first_symbols, last_symbol, last_symbols}
use Rattle.isax_word.proofs.PaddedLists.{get_or-images}
use Rattle.lower_bound.specs.Gap.{part_cost, symbol_cost, nearest_symbol}
use Rattle.lower_bound.specs.Bound.{View, HoldsView, sum_at, length_at, symbol_at, parts_bound, word_bound}
use Rattle.lower_bound.proofs.Gaps.{part_cost_nearest}
use Rattle.lower_bound.proofs.Views.{parts_bound-drop}

-- what is found in place j of the symbols of a query, under a word
abbrev pub found_at : List Part → List ℕ → ℕ → ℕ
found_at word symbols j =
    max (get_or (first_symbols word) j 0) (min (get_or (last_symbols word) j 0) (get_or (padded 0 symbols) j 0))

-- in a segment of the word it is the symbol nearest to the query's
pub nearest_found : (word : List Part) (symbols : List ℕ) (j : ℕ) → j < length word → j < length symbols
    → found_at word symbols j ≡ nearest_symbol (part_at word j) (get_or symbols j 0)
nearest_found word symbols j used there =
    let part = part_at word j in
    let last = get_or (last_symbols word) j 0 in
    let symbol = get_or (padded 0 symbols) j 0 in
    ap (λ n. max n (min last symbol)) (get_or-images first_symbol word j no_part used)
    ∙ ap (λ n. max (first_symbol part) (min n symbol)) (get_or-images last_symbol word j no_part used)
    ∙ ap (λ n. max (first_symbol part) (min (last_symbol part) n)) (get_or_append_left symbols _ 0 j there)

-- one place more adds the cost of the next part, and nothing behind the word
pub bound_next : (view : View) (word : List Part) (symbols : List ℕ) (costs : List (List ℕ)) (j near bound : ℕ)
    → HoldsView view symbols costs → All IsPart word → length word ≡ view.layout.cuts.segments
    → j < 16 → near < 256 → near ≡ found_at word symbols j
    → bound + parts_bound view j (drop j word) ≡ word_bound view word
    → bound + get_or (get_or costs j []) near 0 + parts_bound view (j + 1) (drop (j + 1) word) ≡ word_bound view word
bound_next view word symbols costs j near bound holds parts long inside small found before =
    ⊎_elim in_word behind (cases_lt j (length word))
  where
    -- the cost that is read is that of the next part
    in_word : j < length word
        → bound + get_or (get_or costs j []) near 0 + parts_bound view (j + 1) (drop (j + 1) word) ≡ word_bound view word
    in_word used =
        let cost = symbol_cost view.layout.table (length_at view j) (sum_at view j) in
        let segment : j < view.layout.cuts.segments = omega (arith, used, long) in
        let read : get_or (get_or costs j []) near 0 ≡ cost near = (holds.costs_of j segment).each near small in
        let nearest : near ≡ nearest_symbol (part_at word j) (symbol_at view j)
        = found ∙ nearest_found word symbols j used (omega (arith, segment, holds.as_many))
        ∙ ap (λ s. nearest_symbol (part_at word j) s) (holds.symbols_of j segment) in
        let is : IsPart (part_at word j) = All-get_or IsPart word j no_part used parts in
        let here : part_cost view.layout.table (length_at view j) (sum_at view j) (part_at word j) ≡ cost near
        = part_cost_nearest view.layout.table (length_at view j) (sum_at view j) (part_at word j) is
        ∙ ap cost (sym nearest) in
        omega (arith, before, parts_bound-drop view word j used, read, here)

    -- the cost that is read is 0
    behind : length word ≤ j
        → bound + get_or (get_or costs j []) near 0 + parts_bound view (j + 1) (drop (j + 1) word) ≡ word_bound view word
    behind past =
        let read : get_or (get_or costs j []) near 0 ≡ 0
        = ap (λ (row : List ℕ). get_or row near 0) (holds.none_behind j (omega (arith, past, long)) inside)
        ∙ get_or-replicate 256 near 0 0 small in
        let none : parts_bound view j (drop j word) ≡ 0 = ap (λ ps. parts_bound view j ps) (drop_all j word past) in
        let none_next : parts_bound view (j + 1) (drop (j + 1) word) ≡ 0
        = ap (λ ps. parts_bound view (j + 1) ps) (drop_all (j + 1) word (omega (arith, past))) in
        omega (arith, before, read, none, none_next)
