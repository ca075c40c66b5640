-- Means in the order of all members: cut by the places of leaves they are those of the leaves (`means_are_own`), what holds of
-- the members of all leaves holds of all members (`all_cut`), and one more stands behind (`map_push`); the means of a leaf
-- of an index that fits and has means are those of its members (`means_of_leaf`), and what is made of means that an index may have is
-- made of those of its members (`made_of_own`).
use Rattle.std.proofs.Common.{◌≡◌, ℕ, ◌+◌, ◌-◌, ◌<◌, List, [], ◌∷◌, ◌++◌, length, take, drop, map, get_or, refl, sym, ap, ◌∙◌, subst, arith, All}
use Rattle.std.specs.Prelude.{IfSome, None, Option, Some, is_some, option_map, slice_index_or, true}
use Rattle.std.proofs.lemmas.Bool.{false≢true}
use Rattle.std.proofs.lemmas.Option.{none-some, same_Some}
use Rattle.std.proofs.lemmas.List.{take-append-drop, take-map, drop-map, map-append, take_more, take_all, take-append-le, length-drop, get_or-map, ext_get_or}
use Rattle.std.proofs.lemmas.List.Elements.{All-nil, All-append, All-head, All-tail}
use Rattle.series_core.specs.Collection.{Collection}
use Rattle.isax_word.specs.declared.layout.Layout.{Layout}
use Rattle.isax_word.specs.declared.member.Member.{Member}
use Rattle.subtree_build.specs.declared.leaf.GrownLeaf.{GrownLeaf}
use Rattle.subtree_build.specs.declared.leaf.LeafPlace.{LeafPlace}
use Rattle.subtree_build.specs.declared.leaf.TreeLeaf.{TreeLeaf}
use Rattle.subtree_build.specs.Division.{leaf_with}
use Rattle.subtree_build.specs.Grown.{cut_leaves, members_in}
use Rattle.subtree_build.specs.Fits.{Fits}
use Rattle.subtree_build.specs.Index.{IndexParts, leaf_at, no_leaf}
use Rattle.subtree_build.specs.Means.{means_of, all_means, leaf_means, means_at}
use Rattle.subtree_build.specs.Places.{leaves_seen, means_seen}

-- the means of all members, cut by places, are those of the leaves at the places
pub means_are_own : (c : Collection) (layout : Layout) (members : List Member) (means : List (List ℕ))
    (places : List LeafPlace) → means ≡ all_means c layout members
    → means_seen means places ≡ map (leaf_means c layout) (leaves_seen members places)
means_are_own c layout members means [] are = refl
means_are_own c layout members means (p ∷ places) are =
    let f = means_of c layout in
    let here : take (p.end - p.first) (drop p.first means)
    ≡ all_means c layout (take (p.end - p.first) (drop p.first members))
    = ap (λ (ms : List (List ℕ)). take (p.end - p.first) (drop p.first ms)) are
    ∙ ap (take (p.end - p.first)) (drop-map f p.first members)
    ∙ take-map f (p.end - p.first) (drop p.first members) in
    let rest = means_are_own c layout members means places are in
    λ i. here i ∷ rest i

-- what holds of all members of leaves that are cut holds of all members
pub all_cut : (P : Member → Type 0) (leaves : List GrownLeaf) (members : List Member)
    → members_in leaves ≡ length members → All (λ (x : TreeLeaf). All P x.members) (cut_leaves leaves members)
    → All P members
all_cut P [] [] whole all = All-nil P
all_cut P [] (m ∷ members) whole all = absurd (omega (arith, whole))
all_cut P (l ∷ leaves) members whole all =
    let Q : TreeLeaf → Type 0 = λ x. All P x.members in
    let first = leaf_with l.word (take l.count members) in
    let rest = cut_leaves leaves (drop l.count members) in
    let back = length-drop l.count members in
    let behind = all_cut P leaves (drop l.count members) (omega (arith, whole, back)) (All-tail Q first rest all) in
    subst (All P) (take-append-drop l.count members)
    (All-append P (take l.count members) (drop l.count members) (All-head Q first rest all) behind)

-- the value of one item more stands behind the others
pub map_push : {X Y : Type 0} (f : X → Y) (xs : List X) (i : ℕ) (x : X) (ys : List Y) (y : Y) → i < length xs
    → x ≡ get_or xs i x → ys ≡ map f (take i xs) → y ≡ f x → ys ++ y ∷ [] ≡ map f (take (i + 1) xs)
map_push f xs i x ys y inside item are is =
    ap (λ zs. zs ++ y ∷ []) are
    ∙ ap (λ z. map f (take i xs) ++ z ∷ []) is
    ∙ sym (map-append f (take i xs) (x ∷ []))
    ∙ ap (λ z. map f (take i xs ++ z ∷ [])) item
    ∙ ap (map f) (sym (take_more xs i x inside))

-- what is made of what there may be is made of its own
pub made_of_own : {X Y : Type 0} (f : X → Y) (o : Option X) (own : X) (y : Y) → Some y ≡ option_map f o
    → IfSome o (λ x. x ≡ own) → y ≡ f own
made_of_own f None own y is are = absurd (none-some y (sym is))
made_of_own f (Some x) own y is are = same_Some y (f x) is ∙ ap f are

-- and so is what else is made of it
pub other_of_own : {X Y Z : Type 0} (f : X → Y) (h : X → Z) (o : Option X) (own : X) (y : Y) → Some y ≡ option_map f o
    → IfSome o (λ x. x ≡ own) → Some (h own) ≡ option_map h o
other_of_own f h None own y is are = absurd (none-some y (sym is))
other_of_own f h (Some x) own y is are = ap (λ z. Some (h z)) (sym are)

-- means that there are, for one leaf
own_at : (own : List (List (List ℕ))) (means : Option (List (List (List ℕ)))) (l : ℕ) → IfSome means (λ ms. ms ≡ own)
    → is_some means ≡ true → means_at means l ≡ slice_index_or own l []
own_at own None l are some = absurd (false≢true some)
own_at own (Some ms) l are some = ap (λ (xs : List (List (List ℕ))). slice_index_or xs l []) are

-- the means of a leaf are those of its members' series, where there are means
pub means_of_leaf : (c : Collection) (layout : Layout) (ix : IndexParts) (l : ℕ) → Fits c layout ix
    → is_some ix.means ≡ true → l < length ix.leaves → means_at ix.means l ≡ all_means c layout (leaf_at ix.leaves l).members
means_of_leaf c layout ix l fits some real =
    own_at (map (leaf_means c layout) ix.leaves) ix.means l fits.own_means some
    ∙ get_or-map (leaf_means c layout) ix.leaves l no_leaf [] real

-- a list that was written over place by place with another one of its length is that one
pub written_over : {X : Type 0} (d : X) (new old wanted : List X) (n : ℕ) → n ≡ length old → length new ≡ length old
    → length old ≡ length wanted → ((i : ℕ) → i < length old → get_or new i d ≡ get_or wanted i d)
    → take n (new ++ drop (length new) old) ≡ wanted
written_over d new old wanted n whole long same each =
    take-append-le n new (drop (length new) old) (omega (arith, whole, long))
    ∙ take_all n new (omega (arith, whole, long))
    ∙ ext_get_or d new wanted (long ∙ same) (λ i inside. each i (omega (arith, inside, long)))

-- the means at a place are those of the member there
pub means_there : (c : Collection) (layout : Layout) (members : List Member) (i : ℕ) (m : Member) → i < length members
    → m ≡ get_or members i m → means_of c layout m ≡ get_or (all_means c layout members) i []
means_there c layout members i m inside item =
    ap (means_of c layout) item ∙ sym (get_or-map (means_of c layout) members i m [] inside)
