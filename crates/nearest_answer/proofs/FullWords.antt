-- The full word of a member of a leaf has a symbol for each segment of the view of the query (`full_word_fits`).
use Rattle.std.proofs.Common.{◌≡◌, ◌∙◌, ◌<◌, All, ℕ, List, ap, get_or, length, subst, sym, arith}
use Rattle.std.proofs.lemmas.List.{length-map}
use Rattle.std.proofs.lemmas.List.Elements.{All-get_or}
use Rattle.isax_word.specs.declared.member.Member.{Member}
use Rattle.lower_bound.specs.Bound.{View}
use Rattle.subtree_build.specs.Index.{IndexParts, leaf_at}
use Rattle.subtree_build.specs.Members.{series_at}
use Rattle.subtree_build.proofs.Bounds.{length-full_word}
use Rattle.search_task.specs.Questions.{CanBeSearched, IsMemberOf, Searched, leaf_series, view_in}
use Rattle.search_task.proofs.Homes.{leaf_is_members}

module _ (s : Searched) (searched : CanBeSearched s.question s.index) (l i : ℕ) (leaf : l < length s.index.leaves)
    (place : i < length (leaf_series s.index l)) where
  -- the member at a place of a leaf is one of the question's collection
  member_there : (members : List Member) (m : Member) → members ≡ (leaf_at s.index.leaves l).members → m ≡ get_or members i m
      → IsMemberOf s.question m
  member_there members m are is =
      let count = length-map (leaf_at s.index.leaves l).members (λ (x : Member). x.number) in
      let lent : length members ≡ length (leaf_at s.index.leaves l).members = ap (λ (ms : List Member). length ms) are in
      let all = subst (λ (ms : List Member). All (IsMemberOf s.question) ms) (sym are)
      (leaf_is_members s.question s.index l searched leaf) in
      subst (IsMemberOf s.question) (sym is)
      (All-get_or (IsMemberOf s.question) members i m (omega (arith, place, count, lent)) all)

  -- its full word has a symbol for each segment of the view, as both are lent
  pub full_word_fits : (ix : IndexParts) (members : List Member) (m : Member) (view : View) → ix ≡ s.index
      → members ≡ (leaf_at ix.leaves l).members → m ≡ get_or members i m → view ≡ view_in s.question
      → length m.full ≡ view.layout.cuts.segments
  full_word_fits ix members m view index are is seen =
      let own = are ∙ ap (λ (x : IndexParts). (leaf_at x.leaves l).members) index in
      ap (λ (full : List ℕ). length full) (member_there members m own is).word
      ∙ length-full_word s.question.layout (series_at s.question.collection m.number)
      ∙ ap (λ (v : View). v.layout.cuts.segments) (sym seen)
