-- What the next leaf of a walk is: below a root child that is cut each leaf is skipped (`root_cut`), a leaf that is not given is
-- passed over (`passed_over`), and one that is given is the first (`given_first`).
use Rattle.std.proofs.Common.{◌≡◌, ◌≢◌, ℕ, suc, ◌+◌, ◌-◌, ◌<◌, ◌≤◌, ⊎_elim, List, [], ◌∷◌, ◌++◌, All, Option, None, Some, length, refl, sym, ap, append-nil, ◌∙◌, true, false, arith}
use Rattle.std.specs.Prelude.{nat_eq, nat_lt, not, slice_index}
use Rattle.std.proofs.lemmas.Bool.{cond-true, cond-false, cond_both, eq-eqb, ne_eqb, lt-ltb, le-ltb}
use Rattle.std.specs.List.{range_with_len}
use Rattle.std.specs.Option.{is_some, option_map}
use Rattle.std.proofs.lemmas.List.Elements.{All-head, All-tail, All-cons, All-nil, All-weaker}
use Rattle.std.proofs.lemmas.Option.{slice_get-get_or}
use Rattle.isax_word.proofs.Roots.{IsWord-one_bit_word}
use Rattle.lower_bound.specs.Bound.{View, IsView}
use Rattle.subtree_build.specs.declared.node.Node.{Leaf}
use Rattle.subtree_build.specs.Index.{IndexParts, IsIndex, root_word_at}
use Rattle.subtree_build.specs.Outline.{outline, leaf_numbers}
use Rattle.subtree_build.specs.Start.{node_at, root_bound}
use Rattle.subtree_build.proofs.Bounds.{IsNoNearer, leaves_no_nearer}
use Rattle.series_core.specs.declared.queue_words.Entry.{Entry}
use Rattle.search_machine.specs.Ground.{Ground}
use Rattle.search_machine.specs.Workers.{skip, without}
use Rattle.search_task.specs.Questions.{leaf_bound}
use Rattle.query_core.specs.Walks.{IsFirst, IsGiven, leaves_between}

-- a leaf above the limit at the front is dropped
skip-far : (g : Ground) (v l : ℕ) (ls : List ℕ) → v < g.bound l → skip g v (l ∷ ls) ≡ skip g v ls
skip-far g v l ls far = cond-true (nat_lt v (g.bound l)) _ _ (lt-ltb v (g.bound l) far)

-- a leaf within the limit at the front is the next
skip-near : (g : Ground) (v l : ℕ) (ls : List ℕ) → g.bound l ≤ v → skip g v (l ∷ ls) ≡ l ∷ ls
skip-near g v l ls near = cond-false (nat_lt v (g.bound l)) _ _ (le-ltb v (g.bound l) near)

-- leaves above the limit at the front are dropped, the start leaf among them or not
skip-all_far : (g : Ground) (v : ℕ) (start : Option ℕ) (far ls : List ℕ)
    → All (λ l. v < g.bound l) far
    → skip g v (without start (far ++ ls)) ≡ skip g v (without start ls)
skip-all_far g v start [] ls all = refl
skip-all_far g v None (l ∷ far) ls all =
    let P : ℕ → Type 0 = λ l. v < g.bound l in
    skip-far g v l (far ++ ls) (All-head P l far all)
    ∙ skip-all_far g v None far ls (All-tail P l far all)
skip-all_far g v (Some m) (l ∷ far) ls all =
    let P : ℕ → Type 0 = λ l. v < g.bound l in
    let rest = without (Some m) (far ++ ls) in
    let below : skip g v rest ≡ skip g v (without (Some m) ls)
    = skip-all_far g v (Some m) far ls (All-tail P l far all) in
    cond_both (not (nat_eq l m)) (l ∷ rest) rest
    (λ xs. skip g v xs ≡ skip g v (without (Some m) ls))
    (λ _. skip-far g v l rest (All-head P l far all) ∙ below)
    (λ _. below)

-- the start leaf is left out
pub start_left_out : (start : Option ℕ) (l : ℕ) (ls : List ℕ) → start ≡ Some l
    → without start (l ∷ ls) ≡ without start ls
start_left_out start l ls same =
    ap (λ (o : Option ℕ). without o (l ∷ ls)) same
    ∙ cond-false (not (nat_eq l l)) _ _ (ap not (eq-eqb l l refl))
    ∙ ap (λ (o : Option ℕ). without o ls) (sym same)

-- any other leaf is left in
left_in : (start : Option ℕ) (l : ℕ) (ls : List ℕ) → start ≢ Some l
    → without start (l ∷ ls) ≡ l ∷ without start ls
left_in None l ls other = refl
left_in (Some m) l ls other =
    cond-true (not (nat_eq l m)) _ _ (ap not (ne_eqb l m (λ e. other (ap Some (sym e)))))

-- a leaf within the limit that is not the start leaf is the next
pub given : (g : Ground) (v : ℕ) (start : Option ℕ) (l : ℕ) (ls : List ℕ)
    → g.bound l ≤ v → start ≢ Some l → skip g v (without start (l ∷ ls)) ≡ l ∷ without start ls
given g v start l ls near other =
    ap (λ (xs : List ℕ). skip g v xs) (left_in start l ls other)
    ∙ skip-near g v l (without start ls) near

-- the leaves from one on are that one and those behind it
next_first : (next end : ℕ) → next < end → leaves_between next end ≡ next ∷ leaves_between (next + 1) end
next_first next end inside =
    let more : end - next ≡ suc (end - (next + 1)) = omega (arith, inside) in
    ap (range_with_len next) more

-- nothing lies between a number and one that is no greater
pub none_between : (n end : ℕ) → end ≤ n → leaves_between n end ≡ []
none_between n end low = ap (range_with_len n) (let e : end - n ≡ 0 = omega (arith, low) in e)

-- nothing is left of nothing
pub nothing_left : (g : Ground) (v : ℕ) (start : Option ℕ) (n end : ℕ) → end ≤ n
    → skip g v (without start (leaves_between n end)) ≡ []
nothing_left g v start n end low =
    ap (λ (ls : List ℕ). skip g v (without start ls)) (none_between n end low) ∙ nothing start
  where
    nothing : (start : Option ℕ) → skip g v (without start []) ≡ []
    nothing None = refl
    nothing (Some l) = refl

-- the leaves below a root child whose bound is above the limit are dropped
pub root_cut : (view : View) (ix : IndexParts) (i : ℕ) (g : Ground) (v : ℕ) (start : Option ℕ) (ls : List ℕ)
    → IsView view → IsIndex ix → i < length ix.roots → g.bound ≡ leaf_bound view ix → v < root_bound view ix i
    → leaf_numbers (node_at ix i) ≡ ls → skip g v (without start ls) ≡ []
root_cut view ix i g v start ls is_view is inside bounds above below =
    let word = root_word_at ix i in
    let node = node_at ix i in
    let low : i < length ix.nodes = omega (arith, is.one_node_each, inside) in
    let near =
    leaves_no_nearer view ix.leaves word (outline node) is_view
    (IsWord-one_bit_word (slice_index ix.roots i) ix.segments is.some_segments is.few_segments
    (is.roots_fit i 0 inside))
    (is.nodes_stand i node (slice_get-get_or ix.nodes i (Leaf 0) low)) in
    let far : All (λ l. v < g.bound l) (leaf_numbers node)
    = All-weaker (IsNoNearer view ix.leaves (root_bound view ix i)) (λ l. v < g.bound l)
    (λ l h.
    let same : g.bound l ≡ leaf_bound view ix l = ap (λ (f : ℕ → ℕ). f l) bounds in
    omega (arith, above, h, same))
    (leaf_numbers node) near in
    ap (λ (xs : List ℕ). skip g v (without start xs)) (sym below ∙ sym (append-nil (leaf_numbers node)))
    ∙ skip-all_far g v start (leaf_numbers node) [] far
    ∙ ap (λ (ls : List ℕ). skip g v (without start ls)) (sym (none_between 0 0 (omega arith)))
    ∙ nothing_left g v start 0 0 (omega arith)

module _ (g : Ground) (bound : ℕ → ℕ) (bounds : g.bound ≡ bound) (v : ℕ) (start : Option ℕ) (next end : ℕ)
    (inside : next < end) where
  -- the bound of the next leaf
  same_bound : g.bound next ≡ bound next
  same_bound = ap (λ (f : ℕ → ℕ). f next) bounds

  -- the next leaf is passed over where it is not given
  leaf_passed : IsGiven start v (bound next) next None
      → skip g v (without start (leaves_between next end)) ≡ skip g v (without start (leaves_between (next + 1) end))
  leaf_passed passed =
      let P : ℕ → Type 0 = λ m. v < g.bound m in
      let rest = leaves_between (next + 1) end in
      ap (λ (ls : List ℕ). skip g v (without start ls)) (next_first next end inside)
      ∙ ⊎_elim
      (λ at_start. ap (λ (xs : List ℕ). skip g v xs) (start_left_out start next rest at_start))
      (λ above. skip-all_far g v start (next ∷ []) rest
      (All-cons P next [] (omega (arith, above, same_bound)) (All-nil P)))
      passed

  -- the next leaf is the next that is given where it is given
  leaf_given : (e : Entry) → IsGiven start v (bound next) next (Some e)
      → skip g v (without start (leaves_between next end)) ≡ e.leaf ∷ without start (leaves_between (e.leaf + 1) end)
  leaf_given e told =
      ap (λ (ls : List ℕ). skip g v (without start ls)) (next_first next end inside)
      ∙ given g v start next (leaves_between (next + 1) end) (omega (arith, told.2, same_bound)) told.3
      ∙ ap (λ (m : ℕ). m ∷ without start (leaves_between (m + 1) end)) (sym told.0)

  -- a leaf that is not given is passed over
  pub passed_over : (r : Option Entry) → false ≡ is_some r → IsGiven start v (bound next) next r
      → skip g v (without start (leaves_between next end)) ≡ skip g v (without start (leaves_between (next + 1) end))
  passed_over None none told = leaf_passed told
  passed_over (Some e) none told = cc

  -- a leaf that is given is the first of those from one on, of which those before it were passed over
  pub given_first : (first : ℕ) (r : Option Entry) → true ≡ is_some r → IsGiven start v (bound next) next r
      → skip g v (without start (leaves_between first end)) ≡ skip g v (without start (leaves_between next end))
      → IsFirst g start v first end (option_map (λ e. e.leaf) r)
  given_first first None some told was = cc
  given_first first (Some e) some told was = was ∙ leaf_given e told
