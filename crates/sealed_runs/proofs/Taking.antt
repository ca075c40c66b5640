-- What closing a run takes: the entries of all places up to one, without those that were refused.
use Rattle.std.proofs.Common.{◌≡◌, ◌⊎◌, ℕ, zero, suc, ◌+◌, ◌-◌, ◌*◌, ◌<◌, List, [], ◌∷◌, ◌++◌, length, get_or, Contains, refl, sym, ap, subst, ⊎_elim, arith}
use Rattle.std.proofs.lemmas.List.Elements.{Contains-push, Contains-append_left, Contains-push_cases, Contains-get_or}
use Rattle.std.proofs.Math.Numerals.{add-one}
use Rattle.std.proofs.lemmas.List.Quantifiers.{all_pairs_push}
use Rattle.series_core.specs.declared.queue_words.Entry.{Entry}
use Rattle.series_core.specs.EntryOrder.{Before, IsAscending}
use Rattle.list_totals.specs.Below.{sum_below}
use Rattle.list_totals.specs.Totals.{times}
use Rattle.list_totals.proofs.Below.{part_other, part_same}
use Rattle.list_totals.proofs.Places.{times_at, times_contains}
use Rattle.list_totals.proofs.Totals.{total_push}
use Rattle.sealed_runs.specs.Entries.{no_entry, entry_at}
use Rattle.sealed_runs.specs.Tallied.{Takes}

-- a number that is not contained in a list stands there at no time
pub not_counted : (xs : List ℕ) (x : ℕ) → ¬ (Contains xs x) → times x xs ≡ 0
not_counted xs x not = none (times x xs) (λ some. not (times_contains x xs some))
  where
    none : (k : ℕ) → (0 < k → ⊥) → k ≡ 0
    none zero not = refl
    none (suc k) not = absurd (not (omega arith))

-- the last place below n + 1 is n, or it is below n
last_or_below : (x n : ℕ) → x < n + 1 → (x ≡ n) ⊎ (x < n)
last_or_below x n low = grind arith

-- a refused place is passed over
pub takes_past : (es : List Entry) (refused : List ℕ) (n : ℕ) (taken : List Entry)
    → Contains refused n
    → Takes es refused n taken → Takes es refused (n + 1) taken
takes_past es refused n taken is t = record {
  from = λ e there. let x = t.from e there in let low = x.1 in (x.0, omega arith, x.2, x.3);
  all = λ x low not_refused. ⊎_elim
      (λ (same : x ≡ n). absurd (not_refused (subst (Contains refused) (sym same) is)))
      (λ (below : x < n). t.all x below not_refused)
      (last_or_below x n low);
  ascending = t.ascending;
  counts = λ f.
      let some = times_at n refused is.0 n is.1 is.2 in
      let here = part_other (1 - times n refused) (f (entry_at es n)) (omega arith) in
      let next = ap (λ k. sum_below k (λ x. (1 - times x refused) * f (entry_at es x))) (add-one n)
      in
      let was = t.counts f in
      omega arith;
}

-- another place is taken
pub takes_more : (es : List Entry) (refused : List ℕ) (n : ℕ) (taken : List Entry) → IsAscending es
    → n < length es
    → ¬ (Contains refused n) → Takes es refused n taken
    → Takes es refused (n + 1) (taken ++ entry_at es n ∷ [])
takes_more es refused n taken ascending low not t = record {
  from = λ e there. ⊎_elim
      (λ (was : Contains taken e). let x = t.from e was in let below = x.1 in
      (x.0, omega arith, x.2, x.3))
      (λ (new : entry_at es n ≡ e). (n, omega arith, not, new))
      (Contains-push_cases taken (entry_at es n) e there);
  all = λ x below not_refused. ⊎_elim
      (λ (same : x ≡ n).
      subst (λ y. Contains (taken ++ entry_at es n ∷ []) (entry_at es y)) (sym same)
      (Contains-push taken (entry_at es n)))
      (λ (before : x < n).
      Contains-append_left taken (entry_at es n ∷ []) (entry_at es x) (t.all x before not_refused))
      (last_or_below x n below);
  ascending = all_pairs_push Before taken (entry_at es n) t.ascending (λ k d in_list.
      let x = t.from (get_or taken k d) (Contains-get_or taken k d in_list) in
      subst (λ y. Before y (entry_at es n)) x.3 (ascending x.0 n no_entry x.1 low));
  counts = λ f.
      let none = not_counted refused n not in
      let here = part_same (1 - times n refused) (f (entry_at es n)) (omega arith) in
      let next = ap (λ k. sum_below k (λ x. (1 - times x refused) * f (entry_at es x))) (add-one n)
      in
      let more = total_push f taken (entry_at es n) in
      let was = t.counts f in
      omega arith;
}
