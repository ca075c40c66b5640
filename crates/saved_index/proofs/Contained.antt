-- The members of a leaf have full words with as many symbols as the leaf's word has parts (`as_many_parts`), so that these can be compared;
-- and where those of each leaf from the first to the last are contained, all are (`all_contained`).
use Rattle.std.proofs.Common.{◌≡◌, ◌∙◌, ℕ, ◌<◌, List, length, sym, ap, subst, arith, All}
use Rattle.std.proofs.lemmas.List.Elements.{All-from_get_or}
use Rattle.isax_word.specs.declared.member.Member.{Member}
use Rattle.isax_word.specs.declared.word.Part.{Part}
use Rattle.subtree_build.specs.declared.leaf.TreeLeaf.{TreeLeaf}
use Rattle.subtree_build.specs.Fits.{WordContainsMembers}
use Rattle.subtree_build.specs.Index.{IndexParts, IsIndex, leaf_at, no_leaf}
use Rattle.subtree_build.proofs.LeafWords.{leaf_has_segments}
use Rattle.saved_index.specs.Membership.{AreContained, AreContainedBetween}

pub as_many_parts : (ix : IndexParts) (l : ℕ) (word : List Part) (members : List Member) → IsIndex ix
    → All (λ (x : TreeLeaf). All (λ m. length m.full ≡ ix.segments) x.members) ix.leaves → l < length ix.leaves
    → word ≡ (leaf_at ix.leaves l).word → members ≡ (leaf_at ix.leaves l).members → All (λ m. length word ≡ length m.full) members
as_many_parts ix l word members index segments low own_word own_members =
    let Long : List Member → Type 0 = λ ms. All (λ m. length m.full ≡ ix.segments) ms in
    let long = subst Long (sym own_members) (segments l no_leaf low) in
    let parts : length word ≡ ix.segments = ap (λ (w : List Part). length w) own_word ∙ leaf_has_segments ix index l low in
    λ k d inside. parts ∙ sym (long k d inside)

pub all_contained : (leaves : List TreeLeaf) (count : ℕ) → count ≡ length leaves → AreContainedBetween leaves 0 count
    → AreContained leaves
all_contained leaves count same each =
    All-from_get_or WordContainsMembers leaves no_leaf (λ l inside. each l (omega arith) (omega (arith, same, inside)))
