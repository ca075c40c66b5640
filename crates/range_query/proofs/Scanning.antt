-- The scan of a leaf: each member is that of a series (`number_is_series`), and has its means where there are any (`means_there`).
use Rattle.std.proofs.Common.{◌≡◌, ℕ, ◌<◌, List, length, get_or, ap, sym, true, ◌∙◌, arith}
use Rattle.std.specs.Prelude.{is_some}
use Rattle.std.proofs.lemmas.List.{get_or-map}
use Rattle.lower_bound.specs.Bound.{View}
use Rattle.isax_word.specs.declared.member.Member.{Member}
use Rattle.subtree_build.specs.Index.{IndexParts, leaf_at}
use Rattle.subtree_build.specs.Means.{means_at, means_of}
use Rattle.subtree_build.proofs.Bounds.{member_is_series}
use Rattle.subtree_build.proofs.Meaning.{means_of_leaf}
use Rattle.range_query.specs.Near.{Asked, IsAsked}

-- a member of a leaf is that of a series
pub number_is_series : (a : Asked) (ix : IndexParts) (view : View) → IsAsked a ix view
    → (l k : ℕ) (items : List Member) (m : Member) → l < length ix.leaves
    → items ≡ (leaf_at ix.leaves l).members → k < length items → m ≡ get_or items k m
    → m.number < length a.collection.series
number_is_series a ix view is l k items m low same inside item =
    let members = (leaf_at ix.leaves l).members in
    let long = ap (λ (xs : List Member). length xs) same in
    let there = member_is_series a.collection view.layout ix l k m is.fits low (omega (arith, long)) in
    let e : m.number ≡ (get_or members k m).number =
    ap (λ (x : Member). x.number) item ∙ ap (λ (xs : List Member). (get_or xs k m).number) same in
    omega (arith, there, e)

-- and the means at its place are its own
pub means_there : (a : Asked) (ix : IndexParts) (view : View) → IsAsked a ix view
    → (l k : ℕ) (items : List Member) (m : Member) (means : List (List ℕ)) (own : List ℕ) → l < length ix.leaves
    → is_some ix.means ≡ true → items ≡ (leaf_at ix.leaves l).members → k < length items → m ≡ get_or items k m
    → means ≡ means_at ix.means l → own ≡ get_or means k own → own ≡ means_of a.collection view.layout m
means_there a ix view is l k items m means own low some same inside item are at =
    let members = (leaf_at ix.leaves l).members in
    let f = means_of a.collection view.layout in
    let long = ap (λ (xs : List Member). length xs) same in
    at
    ∙ ap (λ (ms : List (List ℕ)). get_or ms k own) (are ∙ means_of_leaf a.collection view.layout ix l is.fits some low)
    ∙ get_or-map f members k m own (omega (arith, inside, long))
    ∙ ap f (sym (item ∙ ap (λ (xs : List Member). get_or xs k m) same))
