-- A search by leaves on its way: as it begins (`all_left`), with what is left in another order (`left_moved`), after some of it was scanned
-- (`others_left`), by a closer limit (`left_within`), and at its end, where the list is the answer (`left_answered`).
use Rattle.std.proofs.Common.{◌≡◌, ℕ, ◌<◌, ◌≤◌, List, [], ◌∷◌, ◌++◌, length, sym, ap, subst, ◌∙◌, ⊎_elim, ◌⊎◌, inl, inr, append_assoc, arith}
use Rattle.std.specs.List.{All}
use Rattle.std.specs.List.Sorted.{IsPermutation}
use Rattle.std.proofs.lemmas.Bool.{cases_lt}
use Rattle.std.proofs.lemmas.List.{map-append}
use Rattle.std.proofs.lemmas.List.Elements.{All-cons, All-head, All-nil, All-tail}
use Rattle.std.proofs.lemmas.List.Sorted.{All-permutation}
use Rattle.list_totals.specs.Totals.{once_below, times}
use Rattle.list_totals.proofs.Totals.{once_below_most, once_below_yes, times_append}
use Rattle.series_core.specs.Answer.{answer}
use Rattle.series_core.specs.Best.{Best}
use Rattle.series_core.specs.declared.pair.Pair.{Pair}
use Rattle.series_core.specs.declared.queue_words.Entry.{Entry}
use Rattle.search_machine.specs.Ground.{Ground, last}
use Rattle.search_machine.specs.Sound.{ListSound}
use Rattle.search_task.specs.Questions.{CanBeSearched, Searched, ground_of}
use Rattle.search_task.proofs.Grounds.{ground_answer, ground_fits, ground_last}
use Rattle.nearest_answer.specs.Begun.{AreLeft, IsLeft}
use Rattle.nearest_answer.specs.NearLeaves.{AreNear, IsFar, IsLeafEntry, leaves_in, within_bound}
use Rattle.nearest_answer.proofs.LeavesNear.{same_count, within_all, within_or_far, within_times}
use Rattle.nearest_answer.proofs.Nearest.{answer_met, none_met}

-- what holds of all entries holds of the first of them and of the others
parts_all : (g : Ground) (es ds : List Entry) → All (IsLeafEntry g) (es ++ ds)
    → All (IsLeafEntry g) es × All (IsLeafEntry g) ds
parts_all g [] ds all = (All-nil (IsLeafEntry g), all)
parts_all g (e ∷ es) ds all =
    let rest = parts_all g es ds (All-tail (IsLeafEntry g) e (es ++ ds) all) in
    (All-cons (IsLeafEntry g) e es (All-head (IsLeafEntry g) e (es ++ ds) all) rest.0, rest.1)

-- the leaves of the first entries and of the others, behind those that were met
leaves_behind : (met : List ℕ) (es ds : List Entry)
    → (met ++ leaves_in es) ++ leaves_in ds ≡ met ++ leaves_in (es ++ ds)
leaves_behind met es ds =
    append_assoc met (leaves_in es) (leaves_in ds)
    ∙ ap (λ (ls : List ℕ). met ++ ls) (sym (map-append (λ (e : Entry). e.leaf) es ds))

-- a step that scans these leaves, each of them new, into a list
abbrev pub Scans : Ground → List ℕ → List Pair → List Pair → Type 0
Scans g leaves before after =
    (met : List ℕ) → ((l : ℕ) → times l (met ++ leaves) ≤ 1) → ListSound g met before → ListSound g (met ++ leaves) after

module _ (g : Ground) where
  -- what is near is left where no leaf was met
  pub all_left : (v : ℕ) (es : List Entry) → AreNear g v (λ l. once_below l g.leaves) es → AreLeft g v [] [] es
  all_left v es near = record {
    sound = none_met g;
    entries = near.entries;
    once = λ l. let most = near.once l in let one = once_below_most l g.leaves in omega (arith, most, one);
    whole = λ l real. near.whole l (let one = once_below_yes l g.leaves real in omega (arith, one));
  }

  -- it is left in any order
  pub left_moved : (v : ℕ) (met : List ℕ) (ps : List Pair) (es ds : List Entry) → IsPermutation es ds
      → AreLeft g v met ps es → AreLeft g v met ps ds
  left_moved v met ps es ds moved are = record {
    sound = are.sound;
    entries = All-permutation (IsLeafEntry g) es ds moved are.entries;
    once = λ l. let same = counts l in let most = are.once l in omega (arith, same, most);
    whole = λ l real. ⊎_elim
        (λ (there : 0 < times l (met ++ leaves_in es)). inl (let same = counts l in omega (arith, same, there)))
        (λ (far : IsFar g v l). inr far)
        (are.whole l real);
  }
    where
      counts : (l : ℕ) → times l (met ++ leaves_in ds) ≡ times l (met ++ leaves_in es)
      counts l =
          let a = times_append l met (leaves_in ds) in
          let b = times_append l met (leaves_in es) in
          let same = same_count es ds moved l in
          omega (arith, a, b, same)

  module _ (v : ℕ) (met : List ℕ) (ps : List Pair) (es ds : List Entry) (are : AreLeft g v met ps (es ++ ds)) where
    -- the first of what is left are leaves
    first_entries : All (IsLeafEntry g) es
    first_entries = (parts_all g es ds are.entries).0

    -- each of them is new
    first_new : (l : ℕ) → times l (met ++ leaves_in es) ≤ 1
    first_new l =
        let most = are.once l in
        let same = ap (times l) (leaves_behind met es ds) in
        let parts = times_append l (met ++ leaves_in es) (leaves_in ds) in
        omega (arith, most, same, parts)

    -- and listed once
    first_once : (l : ℕ) → times l (leaves_in es) ≤ 1
    first_once l =
        let most = first_new l in let parts = times_append l met (leaves_in es) in omega (arith, most, parts)

    -- the others are left where the first were scanned
    part_scanned : (qs : List Pair) → Scans g (leaves_in es) ps qs → AreLeft g v (met ++ leaves_in es) qs ds
    part_scanned qs scanned = record {
      sound = scanned met first_new are.sound;
      entries = (parts_all g es ds are.entries).1;
      once = subst (λ (ls : List ℕ). (l : ℕ) → times l ls ≤ 1) (sym (leaves_behind met es ds)) are.once;
      whole = subst (λ (ls : List ℕ). (l : ℕ) → l < g.leaves → (0 < times l ls) ⊎ IsFar g v l)
          (sym (leaves_behind met es ds)) are.whole;
    }

  -- by a closer limit
  pub left_within : (v w : ℕ) (met : List ℕ) (ps : List Pair) (es : List Entry) → w ≤ v
      → AreLeft g v met ps es → AreLeft g w met ps (within_bound w es)
  left_within v w met ps es closer are = record {
    sound = are.sound;
    entries = within_all g w es are.entries;
    once = λ l.
        let few = times_append l met (leaves_in (within_bound w es)) in
        let all = times_append l met (leaves_in es) in
        let less = within_times w l es in
        let most = are.once l in
        omega (arith, few, all, less, most);
    whole = λ l real. ⊎_elim (still l)
        (λ (far : IsFar g v l). inr (λ x member. let above = far x member in omega (arith, above, closer)))
        (are.whole l real);
  }
    where
      still : (l : ℕ) → 0 < times l (met ++ leaves_in es)
          → (0 < times l (met ++ leaves_in (within_bound w es))) ⊎ IsFar g w l
      still l there =
          let few = times_append l met (leaves_in (within_bound w es)) in
          let all = times_append l met (leaves_in es) in
          ⊎_elim
          (λ (some : 0 < times l met). inl (omega (arith, few, some)))
          (λ (none : times l met ≤ 0). ⊎_elim
          (λ (some : 0 < times l (leaves_in (within_bound w es))). inl (omega (arith, few, some)))
          (λ (far : IsFar g w l). inr far)
          (within_or_far g w l es are.entries (omega (arith, all, none, there))))
          (cases_lt 0 (times l met))

-- a search with a list, and what is left of it
module _ {s : Searched} {v : ℕ} {best : Best} {es : List Entry} (was : IsLeft s v best es) where
  -- of what is left, as it is lent, the closest are to be scanned, as they are lent, and then the others are left
  module _ {ds closest cs : List Entry} (others : List Entry) (lent : ds ≡ es) (parted : IsPermutation ds (closest ++ others))
      (closest_lent : cs ≡ closest) where
    are : AreLeft (ground_of s) v was.left.0 best.pairs (cs ++ others)
    are =
        left_moved (ground_of s) v was.left.0 best.pairs es (cs ++ others)
        (subst (λ (xs : List Entry). IsPermutation es (xs ++ others)) (sym closest_lent)
        (subst (λ (xs : List Entry). IsPermutation xs (closest ++ others)) lent parted)) was.left.1

    pub closest_leaves : All (IsLeafEntry (ground_of s)) cs
    closest_leaves = first_entries (ground_of s) v was.left.0 best.pairs cs others are

    pub closest_once : (l : ℕ) → times l (leaves_in cs) ≤ 1
    closest_once = first_once (ground_of s) v was.left.0 best.pairs cs others are

    pub others_left : (after : Best) → (after.k ≡ s.question.k) × (length after.pairs ≤ s.question.k)
        → Scans (ground_of s) (leaves_in cs) best.pairs after.pairs → IsLeft s v after others
    others_left after list scanned = record {
      limit = was.limit;
      list = list;
      left = (
        was.left.0 ++ leaves_in cs,
        part_scanned (ground_of s) v was.left.0 best.pairs cs others are after.pairs scanned,
      );
    }

  -- where all that is left was scanned, as it is lent, the list is the answer
  pub left_answered : CanBeSearched s.question s.index → {ds : List Entry} → ds ≡ es → (after : Best)
      → length after.pairs ≤ s.question.k → Scans (ground_of s) (leaves_in ds) best.pairs after.pairs
      → after.pairs ≡ answer s.question.collection s.question.query s.question.k
  left_answered searched lent after size scanned =
      let g = ground_of s in
      let met = was.left.0 in
      let are = was.left.1 in
      let enough : last g ≤ v = omega (arith, ground_last s searched, was.limit) in
      let whole : Scans g (leaves_in es) best.pairs after.pairs
      = subst (λ (xs : List Entry). Scans g (leaves_in xs) best.pairs after.pairs) lent scanned in
      answer_met g (ground_fits s searched) (met ++ leaves_in es) v after.pairs size enough (whole met are.once are.sound) are.whole
      ∙ ground_answer s
