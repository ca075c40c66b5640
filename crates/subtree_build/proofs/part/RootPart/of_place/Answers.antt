-- The members, sorted, are as many as in the list, and each has as many symbols as the root child's word parts.
use Rattle.std.proofs.Common.{◌≡◌, ℕ, List, length, sym, ap, ◌∙◌, subst, arith}
use Rattle.std.specs.Prelude.{IsPermutation}
use Rattle.std.proofs.lemmas.List.Sorted.{All-permutation, length_permutation}
use Rattle.isax_word.proofs.Roots.{length-one_bit_word}
use Rattle.isax_word.specs.declared.member.Member.{Member}
use Rattle.subtree_build.specs.Members.{HaveSegments}
use Rattle.subtree_build.proofs.part.RootPart.of_place.Goals as goal

-- members that were put in order are as many as before
as_many : (listed members sorted shown : List Member) → members ≡ listed → IsPermutation members sorted → shown ≡ sorted
    → length shown ≡ length listed
as_many listed members sorted shown are moved same =
    ap (λ (ms : List Member). length ms) same ∙ length_permutation members sorted moved
    ∙ ap (λ (ms : List Member). length ms) are

pub subtree-requires-clause-some : goal.subtree-requires-clause-some
subtree-requires-clause-some c =
    let child = c.requires.found.each c.args.place c.requires.place in
    let many = as_many _ _ _ _ (c.in_ok-members.ensures ∙ c.list_at-list.ensures) c.sort_members.ensures.moved c.as_mut_slice.ensures.value in
    omega (arith, child.some, many)

pub subtree-requires-clause-room : goal.subtree-requires-clause-room
subtree-requires-clause-room c =
    let child = c.requires.found.each c.args.place c.requires.place in
    let many = as_many _ _ _ _ (c.in_ok-members.ensures ∙ c.list_at-list.ensures) c.sort_members.ensures.moved c.as_mut_slice.ensures.value in
    omega (arith, child.few, c.new-leaves.ensures.len, many)

pub subtree-requires-clause-segments : goal.subtree-requires-clause-segments
subtree-requires-clause-segments c =
    let w = c.args.settings.now.layout.cuts.segments in
    let child = c.requires.found.each c.args.place c.requires.place in
    let long : length c.of_root-word.result ≡ w
    = ap length c.of_root-word.ensures
    ∙ length-one_bit_word c.root_at-root.result c.segments.result ∙ c.segments.ensures.value in
    let P : List Member → Type 0 = λ ms. HaveSegments (length c.of_root-word.result) ms in
    let Q : ℕ → Type 0 = λ n. HaveSegments n c.in_ok-members.members.items in
    let R : List Member → Type 0 = λ ms. HaveSegments w ms in
    subst P (sym c.as_mut_slice.ensures.value)
    (All-permutation (λ (m : Member). length m.full ≡ length c.of_root-word.result) c.in_ok-members.members.items
    c.sort_members.new.members.items c.sort_members.ensures.moved
    (subst Q (sym long) (subst R (sym (c.in_ok-members.ensures ∙ c.list_at-list.ensures)) child.segments)))
