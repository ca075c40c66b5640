-- Where the word of a number stands in lists of words: at which list, and where there (`word_there`).
use Rattle.std.proofs.Common.{◌≡◌, ◌∙◌, ℕ, zero, suc, ◌+◌, ◌-◌, ◌*◌, ◌/◌, ◌%◌, ◌<◌, ◌≤◌, List, [], length, take, drop, get_or, sym, ap, subst, ⊎_elim, arith}
use Rattle.std.proofs.Math.Nat.{div-eq-sub-div, div-eq_of_lt, min-eq_left, min-eq_right, min-le_right, mod-eq_of_lt, mod-eq-sub-mod}
use Rattle.std.proofs.lemmas.Bool.{cases_lt}
use Rattle.std.proofs.lemmas.List.{get_or-drop, get_or-map, get_or-take, length-drop, length-map, length-take-le}
use Rattle.series_core.specs.Collection.{Collection}
use Rattle.isax_word.specs.declared.layout.Layout.{Layout}
use Rattle.isax_word.specs.FullWord.{full_word}
use Rattle.subtree_build.specs.Members.{series_at}
use Rattle.saved_index.specs.declared.words.SeriesWords.{SeriesWords}
use Rattle.saved_index.specs.Membership.{words_between}
use Rattle.saved_index.specs.Words.{HasWords, next_from, word_lists}

-- the word of a series stands at a place of a list of lists
pub record IsThere (c : Collection) (layout : Layout) (lists : List (List (List ℕ))) (i j n : ℕ) : Type 0 where
  pub list : i < length lists
  pub place : j < length (get_or lists i [])
  pub word : get_or (get_or lists i []) j [] ≡ full_word layout (series_at c n)

-- a list that begins with that of number `from` has that of a later one as much further on
record IsIn (c : Collection) (layout : Layout) (words : List (List ℕ)) (j n : ℕ) : Type 0 where
  place : j < length words
  word : get_or words j [] ≡ full_word layout (series_at c n)

in_list : (c : Collection) (layout : Layout) (from to n : ℕ) → from ≤ n → n < to → to ≤ length c.series
    → IsIn c layout (words_between c layout from to) (n - from) n
in_list c layout from to n past inside few =
    let word = full_word layout in
    let rest = drop from c.series in
    let row = take (to - from) rest in
    let enough : to - from ≤ length rest = omega (arith, length-drop from c.series, few, past, inside) in
    let long : length row ≡ to - from = length-take-le (to - from) rest enough in
    let low : n - from < length row = omega (arith, long, past, inside) in
    let at : from + (n - from) ≡ n = omega (arith, past) in
    record {
      place = omega (arith, length-map row word, low);
      word = get_or-map word row (n - from) [] [] low
          ∙ ap word (get_or-take (to - from) rest (n - from) [] (omega (arith, past, inside))
          ∙ get_or-drop from c.series (n - from) []
          ∙ ap (λ k. get_or c.series k []) at);
    }

-- there is a list
some_list : (c : Collection) (layout : Layout) (each behind from : ℕ) → 0 < length (word_lists c layout each behind from)
some_list c layout each zero from = omega arith
some_list c layout each (suc behind) from = omega arith

-- it stands at the first list where it is near
at_first : (c : Collection) (layout : Layout) (each behind from n : ℕ) → IsIn c layout (get_or (word_lists c layout each behind from) 0 []) (n - from) n
    → (n - from) < each → IsThere c layout (word_lists c layout each behind from) ((n - from) / each) ((n - from) % each) n
at_first c layout each behind from n is near =
    let lists = word_lists c layout each behind from in
    let P : ℕ → ℕ → Type 0 = λ i j. IsThere c layout lists i j n in
    subst (λ i. P i ((n - from) % each)) (sym (div-eq_of_lt near))
    (subst (P 0) (sym (mod-eq_of_lt near)) (record { list = some_list c layout each behind from; place = is.place; word = is.word }))

-- and else further on in the lists behind it
further_on : (c : Collection) (layout : Layout) (each behind from n : ℕ) → 1 ≤ each → from ≤ n → n < length c.series → each ≤ (n - from)
    → (let next = next_from c each from in
    IsThere c layout (word_lists c layout each behind next) ((n - next) / each) ((n - next) % each) n)
    → IsThere c layout (word_lists c layout each (suc behind) from) ((n - from) / each) ((n - from) % each) n
further_on c layout each behind from n some past inside far there =
    let next = next_from c each from in
    let at : next ≡ from + each = min-eq_left (omega (arith, far, past, inside)) in
    let left : n - next ≡ (n - from) - each = omega (arith, at, far, past) in
    let i = (n - next) / each in
    let j = (n - next) % each in
    let list : suc i ≡ (n - from) / each
    = ap (λ k. suc (k / each)) left ∙ (omega (arith, div-eq-sub-div {m = each} {n = n - from} some far)) in
    let place : j ≡ (n - from) % each = ap (λ k. k % each) left ∙ sym (mod-eq-sub-mod far) in
    let lists = word_lists c layout each (suc behind) from in
    subst (λ k. IsThere c layout lists k ((n - from) % each) n) list
    (subst (λ k. IsThere c layout lists (suc i) k n) place
    (record { list = omega (arith, there.list); place = there.place; word = there.word }))

-- the list from `from` on has what is near
in_first : (c : Collection) (layout : Layout) (each from n : ℕ) → from ≤ n → n < length c.series → (n - from) < each
    → IsIn c layout (words_between c layout from (next_from c each from)) (n - from) n
in_first c layout each from n past inside near =
    let next = next_from c each from in
    let below : n < next
    = ⊎_elim
    (λ less. let all : next ≡ from + each = min-eq_left (omega (arith, less)) in omega (arith, all, past, near))
    (λ more. let all : next ≡ length c.series = min-eq_right (omega (arith, more)) in omega (arith, all, inside))
    (cases_lt (from + each) (length c.series)) in
    in_list c layout from next n past below (min-le_right (from + each) (length c.series))

pub word_there : (c : Collection) (layout : Layout) (each behind from n : ℕ) → 1 ≤ each → from ≤ n → n < length c.series
    → length c.series ≤ from + (behind + 1) * each
    → IsThere c layout (word_lists c layout each behind from) ((n - from) / each) ((n - from) % each) n
word_there c layout each zero from n some past inside enough =
    let one : (zero + 1) * each ≡ each = omega arith in
    let near : (n - from) < each = omega (arith, past, inside, enough, one) in
    at_first c layout each zero from n (in_first c layout each from n past inside near) near
word_there c layout each (suc behind) from n some past inside enough =
    let next = next_from c each from in
    ⊎_elim (λ near. at_first c layout each (suc behind) from n (in_first c layout each from n past inside near) near)
    (λ far.
    let at : next ≡ from + each = min-eq_left (omega (arith, far, past, inside)) in
    let more : (suc behind + 1) * each ≡ each + (behind + 1) * each = omega arith in
    further_on c layout each behind from n some past inside far
    (word_there c layout each behind next n some (omega (arith, at, far, past)) inside (omega (arith, at, enough, more))))
    (cases_lt (n - from) each)

-- so the word of each series stands where its number says
pub word_at : (c : Collection) (layout : Layout) (w : SeriesWords) (n : ℕ) → HasWords c layout w → n < length c.series
    → IsThere c layout w.lists.items (n / w.each) (n % w.each) n
word_at c layout w n has inside =
    let P : ℕ → Type 0 = λ k. IsThere c layout (word_lists c layout w.each has.behind 0) (k / w.each) (k % w.each) n in
    let all : n - 0 ≡ n = omega arith in
    subst (λ (lists : List (List (List ℕ))). IsThere c layout lists (n / w.each) (n % w.each) n) (sym has.lists_are)
    (subst P all (word_there c layout w.each has.behind 0 n has.some (omega arith) inside (omega (arith, has.enough))))
