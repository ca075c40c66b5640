-- Leaves that lie behind one another in the row of all members: their members are all of these (`members_seen`), and the codes
-- that stand for them are all codes (`codes_seen_are_all`).
use Rattle.std.proofs.Common.{◌≡◌, ◌∙◌, ℕ, ◌+◌, ◌-◌, ◌*◌, List, [], ◌∷◌, ◌++◌, length, take, drop, refl, sym, ap, arith}
use Rattle.std.specs.Prelude.{flat_map}
use Rattle.std.proofs.lemmas.List.{drop_all, drop-drop, length-drop, take-append-drop}
use Rattle.isax_word.specs.declared.member.Member.{Member}
use Rattle.row_codes.specs.Rows.{Block}
use Rattle.subtree_build.specs.declared.leaf.GrownLeaf.{GrownLeaf}
use Rattle.subtree_build.specs.declared.leaf.LeafPlace.{LeafPlace}
use Rattle.subtree_build.specs.declared.leaf.TreeLeaf.{TreeLeaf}
use Rattle.subtree_build.specs.Grown.{cut_leaves, members_in}
use Rattle.subtree_build.specs.Places.{places_from, leaves_seen, codes_seen, AreAllSeen}
use Rattle.subtree_build.proofs.Placed.{seen_is_cut}

-- the members of leaves that are cut from a row are those of the row, where the leaves have as many
pub all_in_row : (leaves : List GrownLeaf) (members : List Member) → members_in leaves ≡ length members
    → flat_map (λ (x : TreeLeaf). x.members) (cut_leaves leaves members) ≡ members
all_in_row [] [] whole = refl
all_in_row [] (m ∷ members) whole = absurd (omega (arith, whole))
all_in_row (l ∷ leaves) members whole =
    let back = length-drop l.count members in
    ap (λ ms. take l.count members ++ ms)
    (all_in_row leaves (drop l.count members) (omega (arith, whole, back)))
    ∙ take-append-drop l.count members

-- the members of the leaves at the places of all members are these
pub members_seen : (members : List Member) (places : List LeafPlace) → AreAllSeen members places
    → flat_map (λ (x : TreeLeaf). x.members) (leaves_seen members places) ≡ members
members_seen members places seen =
    ap (flat_map (λ (x : TreeLeaf). x.members)) (ap (leaves_seen members) seen.lie ∙ seen_is_cut members 0 seen.leaves)
    ∙ all_in_row seen.leaves members seen.whole

-- the codes at the places of leaves that lie behind one another, with so many blocks a member, are all from the first on
codes_in_row : (blocks first : ℕ) (codes : List Block) (leaves : List GrownLeaf)
    → length codes ≡ (first + members_in leaves) * blocks
    → flat_map (λ (cs : List Block). cs) (codes_seen blocks codes (places_from first leaves)) ≡ drop (first * blocks) codes
codes_in_row blocks first codes [] long =
    let end : length codes ≡ first * blocks = long ∙ ap (λ n. n * blocks) (omega arith) in
    sym (drop_all (first * blocks) codes (omega (arith, end)))
codes_in_row blocks first codes (l ∷ leaves) long =
    let count : first + l.count - first ≡ l.count = omega arith in
    let whole : length codes ≡ (first + l.count + members_in leaves) * blocks = long ∙ ap (λ n. n * blocks) (omega arith) in
    let further : first * blocks + l.count * blocks ≡ (first + l.count) * blocks = omega arith in
    ap (λ n. take (n * blocks) (drop (first * blocks) codes)
    ++ flat_map (λ (cs : List Block). cs) (codes_seen blocks codes (places_from (first + l.count) leaves))) count
    ∙ ap (λ cs. take (l.count * blocks) (drop (first * blocks) codes) ++ cs)
    (codes_in_row blocks (first + l.count) codes leaves whole
    ∙ ap (λ n. drop n codes) (sym further) ∙ sym (drop-drop (l.count * blocks) (first * blocks) codes))
    ∙ take-append-drop (l.count * blocks) (drop (first * blocks) codes)

-- and at the places of all members they are all
pub codes_seen_are_all : (blocks : ℕ) (codes : List Block) (members : List Member) (places : List LeafPlace)
    → length codes ≡ length members * blocks → AreAllSeen members places
    → flat_map (λ (cs : List Block). cs) (codes_seen blocks codes places) ≡ codes
codes_seen_are_all blocks codes members places long seen =
    let none : 0 * blocks ≡ 0 = omega arith in
    ap (λ ps. flat_map (λ (cs : List Block). cs) (codes_seen blocks codes ps)) seen.lie
    ∙ codes_in_row blocks 0 codes seen.leaves (long ∙ ap (λ n. n * blocks) (omega (arith, seen.whole)))
    ∙ ap (λ n. drop n codes) none
