-- What the workers of the first phase made: buffers that together hold all members (`hold_all`).
use Rattle.std.proofs.Common.{◌≡◌, ◌^◌, ◌<◌, true, List, length, get_or, map, subst, sym, All}
use Rattle.std.proofs.lemmas.List.Elements.{All-map}
use Rattle.claim_word.specs.Passes.{Pass, EachDrawnOnce}
use Rattle.series_core.specs.Collection.{Collection}
use Rattle.isax_word.specs.declared.layout.Layout.{Layout}
use Rattle.isax_word.specs.declared.member.Member.{Member}
use Rattle.summary_phase.specs.Chunks.{chunk_count, members_drawn}
use Rattle.summary_phase.specs.Members.{members_of}
use Rattle.summary_phase.specs.Roots.{buffers_of}
use Rattle.summary_phase.proofs.Roots.{length-by_root}
use Rattle.summary_phase.proofs.Joined.{joined_root}
use Rattle.worker_team.specs.Deeds.{EachDid}
use Rattle.worker_team.proofs.Deeds.{passes_have, made_is}
use Rattle.subtree_build.specs.Summaries.{HasSummarised, HoldAllMembers}

-- each buffer has a list for each root number
buffers_whole : (layout : Layout) (c : Collection) (passes : List Pass)
    → All (λ (b : List (List Member)). length b ≡ 2 ^ layout.cuts.segments)
    (map (λ (p : Pass). buffers_of layout c p.draws) passes)
buffers_whole layout c passes =
    All-map (λ (b : List (List Member)). length b ≡ 2 ^ layout.cuts.segments)
    (λ (p : Pass). buffers_of layout c p.draws) passes
    (λ k d inside. length-by_root (2 ^ layout.cuts.segments)
    (members_drawn (members_of layout c) (get_or passes k d).draws))

-- where workers drew all chunks, each once, their buffers together hold all members
pub hold_all : (layout : Layout) (c : Collection) (passes : List Pass)
    (buffers : List (List (List Member)))
    → EachDid (HasSummarised layout c) passes buffers → 0 < length passes
    → EachDrawnOnce (chunk_count (length c.series)) passes → HoldAllMembers layout c buffers
hold_all layout c passes buffers did some drawn =
    let Did = HasSummarised layout c in
    let filled : buffers ≡ map (λ (p : Pass). buffers_of layout c p.draws) passes
    = made_is Did (λ (p : Pass). buffers_of layout c p.draws) (λ p m d. d.filled) passes buffers did in
    let ended : All (λ (p : Pass). p.ended ≡ true) passes
    = passes_have Did (λ (p : Pass). p.ended ≡ true) (λ p m d. d.ended) passes buffers did in
    let P : List (List (List Member)) → Type 0 = λ bs.
    All (λ (b : List (List Member)). length b ≡ 2 ^ layout.cuts.segments) bs in
    record {
      whole = subst P (sym filled) (buffers_whole layout c passes);
      members = λ root below.
          joined_root layout c passes buffers (2 ^ layout.cuts.segments) root below drawn some ended filled;
    }
