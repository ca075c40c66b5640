-- What a worker of the first phase made, and what the buffers of all hold together.
use Rattle.std.specs.Prelude.{◌≡◌, ℕ, ◌^◌, ◌<◌, List, length, true, IsPermutation}
use Rattle.std.specs.List.{All}
use Rattle.claim_word.specs.Passes.{Pass}
use Rattle.series_core.specs.Collection.{Collection}
use Rattle.isax_word.specs.declared.layout.Layout.{Layout}
use Rattle.isax_word.specs.declared.member.Member.{Member}
use Rattle.summary_phase.specs.Members.{members_of}
use Rattle.summary_phase.specs.Roots.{of_root, buffers_of, root_of_all}

-- with this pass, which has ended, a worker filled these buffers: they hold the members of the chunks that it drew
pub record HasSummarised (layout : Layout) (c : Collection) (pass : Pass) (buffers : List (List Member)) : Type 0 where
  pub ended : pass.ended ≡ true
  pub filled : buffers ≡ buffers_of layout c pass.draws

-- buffers with a list for each root number, which together hold for each root its members, each once
pub record HoldAllMembers (layout : Layout) (c : Collection) (buffers : List (List (List Member))) : Type 0 where
  pub whole : All (λ b. length b ≡ 2 ^ layout.cuts.segments) buffers
  pub members : (root : ℕ) → root < 2 ^ layout.cuts.segments
      → IsPermutation (of_root (members_of layout c) root) (root_of_all buffers root)
