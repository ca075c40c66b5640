-- All buffers together: where passes drew all chunks, each once, their buffers hold for each root all its members, each
-- once (`joined_root`).
use Rattle.std.proofs.Common.{◌≡◌, ℕ, zero, suc, ◌+◌, ◌*◌, ◌<◌, ◌≤◌, List, [], ◌∷◌, ◌++◌, All, length, map, take, drop, refl, sym, ap, ◌∙◌, subst, arith, true}
use Rattle.std.specs.List.{range_with_len, flat_map}
use Rattle.std.specs.List.Sorted.{IsPermutation}
use Rattle.std.proofs.Math.Seq.{take-add}
use Rattle.std.proofs.lemmas.List.{take_all, drop-drop}
use Rattle.std.proofs.lemmas.List.Concat.{flat_map-append}
use Rattle.std.proofs.lemmas.List.Elements.{filter-append}
use Rattle.list_totals.specs.Totals.{total, times, once_below}
use Rattle.claim_word.specs.Passes.{Pass, EachDrawnOnce}
use Rattle.series_core.specs.Collection.{Collection}
use Rattle.isax_word.specs.declared.layout.Layout.{Layout}
use Rattle.summary_phase.specs.Chunks.{chunk_count, chunk_of, members_drawn}
use Rattle.summary_phase.specs.Members.{members_of}
use Rattle.summary_phase.specs.Roots.{has_root, of_root, by_root, root_of_all}
use Rattle.summary_phase.specs.declared.chunk.TheConstants.{CHUNK}
use Rattle.isax_word.specs.declared.member.Member.{Member}
use Rattle.claim_word.proofs.Draws.{same_pieces, times_below, all_draws, times_all, all_drawn}
use Rattle.summary_phase.proofs.Members.{length-members_of}
use Rattle.summary_phase.proofs.Roots.{get_or-by_root}

-- pieces of equal size in a row are the list that they are cut from
pieces_in_row : {X : Type 0} (size : ℕ) (xs : List X) (a n : ℕ)
    → flat_map (λ c. take size (drop (c * size) xs)) (range_with_len a n)
    ≡ take (n * size) (drop (a * size) xs)
pieces_in_row size xs a zero = let e : 0 * size ≡ 0 = omega arith in
    sym (ap (λ k. take k (drop (a * size) xs)) e)
pieces_in_row size xs a (suc n) =
    let from = drop (a * size) xs in
    let next : a * size + size ≡ (a + 1) * size = grind arith in
    let whole : size + n * size ≡ suc n * size = grind arith in
    ap (λ l. take size from ++ l)
    (pieces_in_row size xs (a + 1) n
    ∙ ap (λ k. take (n * size) (drop k xs)) (sym next)
    ∙ ap (λ l. take (n * size) l) (sym (drop-drop size (a * size) xs)))
    ∙ sym (take-add size (n * size) from)
    ∙ ap (λ k. take k from) whole

-- all chunks in a row have all members
all_chunks : (ms : List Member) → members_drawn ms (range_with_len 0 (chunk_count (length ms))) ≡ ms
all_chunks ms =
    let n = chunk_count (length ms) in
    let enough : length ms ≤ n * CHUNK = omega arith in
    pieces_in_row CHUNK ms 0 n ∙ take_all (n * CHUNK) ms enough

-- the members of a root in chunks, chunk by chunk
of_root-drawn : (ms : List Member) (root : ℕ) (draws : List ℕ)
    → of_root (members_drawn ms draws) root ≡ flat_map (λ c. of_root (chunk_of ms c) root) draws
of_root-drawn ms root [] = refl
of_root-drawn ms root (c ∷ draws) =
    filter-append (has_root root) (chunk_of ms c) (members_drawn ms draws)
    ∙ ap (λ l. of_root (chunk_of ms c) root ++ l) (of_root-drawn ms root draws)

-- the members of a root in the draws of all passes, pass by pass
of_root-all : (ms : List Member) (root : ℕ) (passes : List Pass)
    → flat_map (λ p. of_root (members_drawn ms p.draws) root) passes
    ≡ flat_map (λ c. of_root (chunk_of ms c) root) (all_draws passes)
of_root-all ms root [] = refl
of_root-all ms root (p ∷ passes) =
    let f = λ (c : ℕ). of_root (chunk_of ms c) root in
    ap (λ l. l ++ flat_map (λ p. of_root (members_drawn ms p.draws) root) passes)
    (of_root-drawn ms root p.draws)
    ∙ ap (λ l. flat_map f p.draws ++ l) (of_root-all ms root passes)
    ∙ sym (flat_map-append f p.draws (all_draws passes))

-- where all chunks were drawn, each once, the passes have for each root all its members, each once
pub drawn_root : (ms : List Member) (passes : List Pass) (root : ℕ)
    → ((x : ℕ) → total (λ p. times x p.draws) passes ≡ once_below x (chunk_count (length ms)))
    → IsPermutation (of_root ms root)
    (flat_map (λ p. of_root (members_drawn ms p.draws) root) passes)
drawn_root ms passes root once =
    let n = chunk_count (length ms) in
    let f = λ (c : ℕ). of_root (chunk_of ms c) root in
    let whole : flat_map f (range_with_len 0 n) ≡ of_root ms root =
    sym (of_root-drawn ms root (range_with_len 0 n)) ∙ ap (λ l. of_root l root) (all_chunks ms) in
    let same = λ (x : ℕ). times_below x n ∙ sym (once x) ∙ sym (times_all x passes) in
    subst (λ l. IsPermutation l (flat_map (λ p. of_root (members_drawn ms p.draws) root) passes))
    whole
    (subst (λ l. IsPermutation (flat_map f (range_with_len 0 n)) l)
    (sym (of_root-all ms root passes))
    (same_pieces f (range_with_len 0 n) (all_draws passes) same))

-- a root in the buffers of all passes, pass by pass
root_of_all-drawn : (ms : List Member) (roots root : ℕ) (passes : List Pass) → root < roots
    → root_of_all (map (λ p. by_root roots (members_drawn ms p.draws)) passes) root
    ≡ flat_map (λ p. of_root (members_drawn ms p.draws) root) passes
root_of_all-drawn ms roots root [] low = refl
root_of_all-drawn ms roots root (p ∷ passes) low =
    let drawn = members_drawn ms p.draws in
    ap (λ l. l ++ root_of_all (map (λ p. by_root roots (members_drawn ms p.draws)) passes) root)
    (get_or-by_root roots drawn root [] low)
    ∙ ap (λ l. of_root drawn root ++ l) (root_of_all-drawn ms roots root passes low)

-- where passes drew all chunks of a collection, each once, their buffers hold for each root all its members
pub joined_root : (layout : Layout) (c : Collection) (passes : List Pass)
    (buffers : List (List (List Member))) (roots root : ℕ) → root < roots
    → EachDrawnOnce (chunk_count (length c.series)) passes
    → 0 < length passes → All (λ p. p.ended ≡ true) passes
    → buffers ≡ map (λ p. by_root roots (members_drawn (members_of layout c) p.draws)) passes
    → IsPermutation (of_root (members_of layout c) root) (root_of_all buffers root)
joined_root layout c passes buffers roots root low drawn some ended filled =
    let ms = members_of layout c in
    let count = chunk_count (length c.series) in
    let same : count ≡ chunk_count (length ms) = ap chunk_count (sym (length-members_of layout c)) in
    let all = all_drawn count passes drawn some ended in
    let once = λ (x : ℕ). drawn.once x ∙ ap (once_below x) (all ∙ same) in
    subst (λ l. IsPermutation (of_root ms root) l)
    (sym (ap (λ bs. root_of_all bs root) filled ∙ root_of_all-drawn ms roots root passes low))
    (drawn_root ms passes root once)
