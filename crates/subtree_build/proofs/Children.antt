-- What the members of a child keep of the node's: their words' lengths (`child_segments`), and together their number
-- (`both_children`).
use Rattle.std.proofs.Common.{◌≡◌, ℕ, ◌+◌, Bool, List, length, refl, sym, ap, ◌∙◌, subst, arith}
use Rattle.std.specs.Prelude.{filter}
use Rattle.std.proofs.lemmas.List.{length-set}
use Rattle.std.proofs.lemmas.List.Filters.{length-filter_both}
use Rattle.std.proofs.lemmas.List.Elements.{All-filter}
use Rattle.isax_word.specs.declared.word.Part.{Part}
use Rattle.isax_word.specs.Word.{part_at, child_word, child_part}
use Rattle.isax_word.specs.declared.member.Member.{Member}
use Rattle.subtree_build.specs.Members.{HaveSegments}
use Rattle.subtree_build.specs.Splitting.{goes_high, goes_low}

-- a child's word has as many segments
pub length-child_word : (word : List Part) (j : ℕ) (high : Bool)
    → length (child_word word j high) ≡ length word
length-child_word word j high = length-set word j (child_part (part_at word j) high)

-- some of the members, under a child's word, have its number of segments
pub child_segments : (word child : List Part) (members some : List Member) (p : Member → Bool) (j : ℕ)
    (high : Bool) → some ≡ filter p members → child ≡ child_word word j high
    → HaveSegments (length word) members → HaveSegments (length child) some
child_segments word child members some p j high is_some is_child all =
    let long : length child ≡ length word = ap length is_child ∙ length-child_word word j high in
    let P : List Member → Type 0 = λ ms. HaveSegments (length child) ms in
    let Q : ℕ → Type 0 = λ n. HaveSegments n (filter p members) in
    subst P (sym is_some)
    (subst Q (sym long) (All-filter p (λ (m : Member). length m.full ≡ length word) members all))

-- the members of both children are as many as the node's
pub both_children : (word : List Part) (j : ℕ) (members low high : List Member)
    → low ≡ filter (goes_low word j) members → high ≡ filter (goes_high word j) members
    → length low + length high ≡ length members
both_children word j members low high is_low is_high =
    let both = length-filter_both (goes_high word j) (goes_low word j) (λ x. refl) members in
    let low_long : length low ≡ length (filter (goes_low word j) members) = ap length is_low in
    let high_long : length high ≡ length (filter (goes_high word j) members) = ap length is_high in
    omega arith
