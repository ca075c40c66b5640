-- A place of a leaf is one of its members, which have their codes.
use Rattle.std.proofs.Common.{◌≡◌, ◌∙◌, ◌<◌, ℕ, List, length, ap, subst, sym, arith}
use Rattle.std.specs.Prelude.{slice_index}
use Rattle.std.proofs.lemmas.List.{length-map}
use Rattle.series_core.specs.Distance.{squared_distance}
use Rattle.isax_word.specs.declared.member.Member.{Member}
use Rattle.subtree_build.specs.Index.{leaf_at}
use Rattle.subtree_build.specs.Members.{numbers_of, series_at}
use Rattle.search_task.specs.Questions.{Searched, ground_of, leaf_series}
use Rattle.search_task.proofs.CodeRows.{leaf_coded}
use Rattle.search_task.proofs.Searching.{leaf_is_there}
use Rattle.search_task.proofs.search.Search.codes_may_be_within.Goals as goal

-- a place of a leaf is one of its members, as they are lent
place_inside : (s t : Searched) (l i : ℕ) (members : List Member) → s ≡ t → members ≡ (leaf_at s.index.leaves l).members
    → i < length (leaf_series t.index l) → i < length members
place_inside s t l i members same are inside =
    let own = length-map (leaf_at s.index.leaves l).members (λ (m : Member). m.number) in
    let lent : length members ≡ length (leaf_at s.index.leaves l).members = ap (λ (ms : List Member). length ms) are in
    let one : length (leaf_series s.index l) ≡ length (leaf_series t.index l)
    = ap (λ (u : Searched). length (leaf_series u.index l)) same in
    omega (arith, own, lent, one, inside)

pub codes_at_may_be_within-requires-clause-coded : goal.codes_at_may_be_within-requires-clause-coded
codes_at_may_be_within-requires-clause-coded g c =
    leaf_coded c.self.inside.task.now c.self.inside.index.now c.args.leaf c.leaf_members-members.result.now
    c.leaf_codes-codes.result.now c.self.invariant (sym c.has_codes.ensures ∙ c.if-has_codes.true)
    (leaf_is_there _ c.args.self.now c.args.leaf c.self.view_is c.requires.leaf) c.leaf_members-members.ensures
    c.leaf_codes-codes.ensures

pub codes_at_may_be_within-requires-clause-place : goal.codes_at_may_be_within-requires-clause-place
codes_at_may_be_within-requires-clause-place g c =
    place_inside _ c.args.self.now c.args.leaf c.args.place c.leaf_members-members.result.now c.self.view_is
    c.leaf_members-members.ensures c.requires.place

pub returns-then-has_codes : goal.returns-then-has_codes
returns-then-has_codes g c above =
    subst (λ (s : Searched). c.args.limit.now < (ground_of s).distance (slice_index (leaf_series s.index c.args.leaf) c.args.place))
    c.self.view_is
    (subst (λ (ms : List Member). c.args.limit.now
    < squared_distance (series_at c.self.inside.task.now.collection (slice_index (numbers_of ms) c.args.place))
    c.self.inside.task.now.query)
    c.leaf_members-members.ensures
    (c.codes_at_may_be_within.ensures above))
