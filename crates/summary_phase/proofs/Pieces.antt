-- Members in a row: one number more adds its member, and the numbers of a chunk give its members.
use Rattle.std.proofs.Common.{◌≡◌, ℕ, ℤ, ◌+◌, ◌-◌, ◌*◌, ◌<◌, ◌≤◌, min, List, [], ◌∷◌, ◌++◌, Some, length, get_or, take, drop, sym, ap, append-nil, ◌∙◌, arith}
use Rattle.std.specs.Prelude.{slice_get}
use Rattle.std.proofs.lemmas.List.{take_more, get_or-drop, length-drop, take_min}
use Rattle.std.proofs.lemmas.List.Concat.{flat_map-append}
use Rattle.std.proofs.lemmas.Option.{get_or_from_slice_get}
use Rattle.series_core.specs.Collection.{Collection}
use Rattle.isax_word.specs.declared.layout.Layout.{Layout}
use Rattle.summary_phase.specs.Chunks.{chunk_count, members_between, chunk_of, members_drawn}
use Rattle.summary_phase.specs.Members.{member_of, members_of}
use Rattle.isax_word.specs.declared.member.Member.{Member}
use Rattle.summary_phase.specs.declared.chunk.TheConstants.{CHUNK}
use Rattle.summary_phase.proofs.Members.{length-members_of, get_or-members_of}

-- one number more adds the member of its series
pub between_more : (layout : Layout) (c : Collection) (start number : ℕ) (row : List ℤ)
    → start ≤ number → number < length c.series → slice_get c.series number ≡ Some row
    → members_between (members_of layout c) start (number + 1)
    ≡ members_between (members_of layout c) start number ++ member_of layout number row ∷ []
between_more layout c start number row from low is =
    let ms = members_of layout c in
    let d = member_of layout number row in
    let k = number - start in
    let more : number + 1 - start ≡ k + 1 = omega arith in
    let place : start + k ≡ number = omega arith in
    let inside : k < length (drop start ms) =
    omega (arith, length-drop start ms, length-members_of layout c) in
    ap (λ n. take n (drop start ms)) more
    ∙ take_more (drop start ms) k d inside
    ∙ ap (λ m. take k (drop start ms) ++ m ∷ [])
    (get_or-drop start ms k d ∙ ap (λ n. get_or ms n d) place
    ∙ get_or-members_of layout c number d low
    ∙ ap (member_of layout number) (get_or_from_slice_get c.series number row [] is))

-- the numbers of a chunk give its members
pub between_chunk : (ms : List Member) (chunk : ℕ) → chunk * CHUNK ≤ length ms
    → members_between ms (chunk * CHUNK) (min (length ms) (chunk * CHUNK + CHUNK)) ≡ chunk_of ms chunk
between_chunk ms chunk low =
    let start = chunk * CHUNK in
    let rest = drop start ms in
    let e : min (length ms) (start + CHUNK) - start ≡ min CHUNK (length rest) =
    omega (arith, length-drop start ms) in
    ap (λ n. take n rest) e ∙ take_min CHUNK rest

-- one chunk more adds its members
pub drawn_more : (ms : List Member) (draws : List ℕ) (chunk : ℕ)
    → members_drawn ms (draws ++ chunk ∷ []) ≡ members_drawn ms draws ++ chunk_of ms chunk
drawn_more ms draws chunk =
    flat_map-append (chunk_of ms) draws (chunk ∷ [])
    ∙ ap (λ l. members_drawn ms draws ++ l) (append-nil (chunk_of ms chunk))

-- the numbers of a chunk of the collection give the chunk's members
pub chunk_found : (layout : Layout) (c : Collection) (chunk start end : ℕ)
    → chunk < chunk_count (length c.series) → start ≡ chunk * CHUNK
    → end ≡ min (length c.series) (chunk * CHUNK + CHUNK)
    → members_between (members_of layout c) start end ≡ chunk_of (members_of layout c) chunk
chunk_found layout c chunk start end low from to =
    let ms = members_of layout c in
    let long = length-members_of layout c in
    let inside : chunk * CHUNK ≤ length ms = omega (arith, long) in
    let last : end ≡ min (length ms) (chunk * CHUNK + CHUNK) = to
    ∙ ap (λ n. min n (chunk * CHUNK + CHUNK)) (sym long) in
    ap (λ s. members_between ms s end) from
    ∙ ap (members_between ms (chunk * CHUNK)) last
    ∙ between_chunk ms chunk inside
